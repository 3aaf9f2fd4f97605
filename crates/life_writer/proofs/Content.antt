-- The lines of a listed square stand for its squares, and are valid.
use Rattle.std.proofs.Common.{◌≡◌, ℕ, zero, suc, ◌-◌, ◌<◌, ◌≤◌, Bool, true, false, ◌&&◌, List, [], ◌∷◌, length, get_or, refl, ap, sym, ◌∙◌, subst, arith, inl, inr, ◌==◌}
use Rattle.std.specs.List.{AllByRecursion}
use Rattle.std.proofs.lemmas.Bool.{or_right}
use Rattle.std.proofs.lemmas.Bool.Decides.{nat_tests}
use Rattle.std.proofs.lemmas.List.{length-map, get_or-map}
use Rattle.life_base.specs.Tree.{Tree, point, quad, depth, is_blank_tree as is_blank}
use Rattle.life_base.specs.declared.rule.Rule.{Rule}
use Rattle.life_base.specs.declared.rule.Rule.TheVariants.{Life, Named}
use Rattle.life_mc.specs.Macrocell.{level_of}
use Rattle.life_mc.specs.Squares.{line_tree, tree_of}
use Rattle.life_mc.specs.declared.line.Line.{Line}
use Rattle.life_mc.specs.declared.line.Line.TheVariants.{Leaf}
use Rattle.life_pattern.specs.Universe.{is_life, least_level}
use Rattle.life_writer.specs.Listing.{same_tree, is_small, is_in, listed_squares, place, number_of_quarter, rows_of, quad_line, line_of, lines_for}
use Rattle.life_pattern.specs.Quarters.{Quarters}
use Rattle.life_writer.specs.Closed.{IsListedBefore}
use Rattle.life_pattern.proofs.TreeWords.{HasDepth, point_depth, quad_depth, StatesBelow}
use Rattle.life_pattern.proofs.LineWords.{state_bound, line_at, IsQuarter, IsValidLine, AreValidLines}
use Rattle.life_pattern.proofs.LineFacts.{tree_of-line}
use Rattle.life_pattern.proofs.Trees.{bool_cases, depth_is, is_blank-blank}
use Rattle.life_writer.proofs.SameTrees.{same_tree-refl}
use Rattle.life_writer.proofs.ListFacts.{place-below, place-is}
use Rattle.life_writer.proofs.Walk.{IsKnown, listed-closed, listed-walk, walk-part}
use Rattle.life_writer.proofs.Leaves.{leaf_tree-is, row_byte-small}
use Rattle.life_base.proofs.Basics.{less_one}
use Rattle.life_base.proofs.Squares.{same_quads}
use Rattle.life_pattern.proofs.Whole.{least-one}

-- ---- the line of a place

pub length-lines_for : (rule : Rule) (all : List Tree) → length (lines_for rule all) ≡ length all
length-lines_for rule all = simp length-map

line-of_place : (rule : Rule) (all : List Tree) (t : Tree) → is_in all t ≡ true → line_at (lines_for rule all) (place all t) ≡ line_of rule all t
line-of_place rule all t h = get_or-map (line_of rule all) all (place all t) (point 0) (Leaf []) (place-below all t h)
    ∙ ap (line_of rule all) (place-is all t (point 0) h)

place-within : (rule : Rule) (all : List Tree) (t : Tree) → is_in all t ≡ true → place all t < length (lines_for rule all)
place-within rule all t h = subst (λ n. place all t < n) (sym (length-lines_for rule all)) (place-below all t h)

pub not_small : (m : ℕ) (t : Tree) (k : ℕ) → depth t ≡ k → m ≤ k → is_blank t ≡ false → is_small m t ≡ false
not_small m t k e h b = grind (arith, nat_tests)

pub number-blank : (all : List Tree) (a b c d : Tree) → is_blank (quad a b c d) ≡ true → number_of_quarter all (quad a b c d) ≡ 0
number-blank all a b c d h = rw h refl

pub number-place : (all : List Tree) (a b c d : Tree) → is_blank (quad a b c d) ≡ false → number_of_quarter all (quad a b c d) ≡ suc (place all (quad a b c d))
number-place all a b c d h = rw h refl

-- a square's line, by its cases
pub line_of-leaf : (rule : Rule) (all : List Tree) (t : Tree) → is_life rule ≡ true → depth t ≡ 3 → line_of rule all t ≡ Leaf (rows_of t)
line_of-leaf rule all t h e = rw (h, e) refl

pub line_of-quad : (rule : Rule) (all : List Tree) (t : Tree) → (is_life rule && depth t == 3) ≡ false → line_of rule all t ≡ quad_line all t
line_of-quad rule all t h = rw h refl

-- leaf, or not: what is known of the level
pub data LineCase (rule : Rule) (t : Tree) (k : ℕ) : Type 0 where
  leaf_case : is_life rule ≡ true → state_bound rule ≡ 2 → k ≡ 2 → LineCase rule t k
  quad_case : (is_life rule && depth t == 3) ≡ false → (0 < k → least_level rule ≤ k) → LineCase rule t k

pub line_cases : (rule : Rule) (t : Tree) (k : ℕ) → depth t ≡ suc k → least_level rule ≤ suc k → LineCase rule t k
line_cases (Life sets) t k e h = elim (bool_cases (depth t == 3)) [
  | inl f ↦ leaf_case refl refl (grind (arith, nat_tests))
  | inr f ↦ quad_case f (λ p. grind (arith, nat_tests))
]
line_cases (Named name) t k e h = quad_case refl (λ p. p)

-- descending the lines gives back the squares
module _ (rule : Rule) (all : List Tree) (closed : (t : Tree) → is_in all t ≡ true → Quarters (IsKnown (least_level rule) all) t) where
  pub tree_of-number : {k : ℕ} {t : Tree} → HasDepth k t → StatesBelow (state_bound rule) t → (0 < k → least_level rule ≤ k) → IsKnown (least_level rule) all t
      → tree_of (lines_for rule all) k (number_of_quarter all t) ≡ t
  tree_of-number point_depth g h known = refl
  tree_of-number (quad_depth {k = k} {nw = a} {ne = b} {sw = c} {se = d} p q r s) g h known =
      elim (bool_cases (is_blank (quad a b c d))) [
        | inl e ↦ rw (number-blank all a b c d e) (sym (is_blank-blank (quad_depth p q r s) e))
        | inr e ↦
            let le : least_level rule ≤ suc k = h (omega arith) in
            let i : is_in all (quad a b c d) ≡ true = known (not_small (least_level rule) (quad a b c d) (suc k) (depth_is (quad_depth p q r s)) le e) in
            let v = closed (quad a b c d) i in
            let lines : List Line = lines_for rule all in
            let f : tree_of lines (suc k) (number_of_quarter all (quad a b c d)) ≡ line_tree (tree_of lines k) (line_of rule all (quad a b c d)) =
            ap (tree_of lines (suc k)) (number-place all a b c d e)
            ∙ tree_of-line lines k (place all (quad a b c d)) (place-within rule all (quad a b c d) i)
            ∙ ap (line_tree (tree_of lines k)) (line-of_place rule all (quad a b c d) i) in
            f ∙ elim (line_cases rule (quad a b c d) k (depth_is (quad_depth p q r s)) le) [
              | leaf_case l w x ↦
                  ap (line_tree (tree_of lines k)) (line_of-leaf rule all (quad a b c d) l (depth_is (quad_depth p q r s) ∙ ap suc x))
                  ∙ leaf_tree-is (subst (λ n. HasDepth (suc n) (quad a b c d)) x (quad_depth p q r s)) (subst (λ n. StatesBelow n (quad a b c d)) w g)
              | quad_case l w ↦
                  ap (line_tree (tree_of lines k)) (line_of-quad rule all (quad a b c d) l)
                  ∙ same_quads (tree_of-number p g.0 w v.nw) (tree_of-number q g.1 w v.ne) (tree_of-number r g.2 w v.sw) (tree_of-number s g.3 w v.se)
            ]
      ]

-- ---- the lines of a list are valid

pub is_in-at : (all : List Tree) (i : ℕ) (d : Tree) → i < length all → is_in all (get_or all i d) ≡ true
is_in-at [] i d h = absurd (omega arith)
is_in-at (t ∷ ts) zero d h = rw (same_tree-refl t) refl
is_in-at (t ∷ ts) (suc i) d h = or_right (same_tree t (get_or ts i d)) _ (is_in-at ts i d (omega arith))

three_is : (b : Bool) (n : ℕ) → (b && n == 3) ≡ true → 3 ≡ n
three_is b n h = grind (arith, nat_tests)

level-quad_line : (all : List Tree) (t : Tree) → level_of (quad_line all t) ≡ depth t
level-quad_line all (point state) = refl
level-quad_line all (quad a b c d) = refl

pub level-line_of : (rule : Rule) (all : List Tree) (t : Tree) → level_of (line_of rule all t) ≡ depth t
level-line_of rule all t = elim (bool_cases (is_life rule && depth t == 3)) [
  | inl e ↦ rw e (three_is (is_life rule) (depth t) e)
  | inr e ↦ rw e (level-quad_line all t)
]

-- a quarter of a listed square is a quarter of its line
quarter : (rule : Rule) (all : List Tree) (i : ℕ) {k : ℕ} {t : Tree} → HasDepth k t → StatesBelow (state_bound rule) t → (0 < k → least_level rule ≤ k)
    → IsListedBefore (least_level rule) all i t → IsQuarter rule (lines_for rule all) i k (number_of_quarter all t)
quarter rule all i point_depth g h b = g
quarter rule all i (quad_depth {k = k} {nw = a} {ne = c} {sw = d} {se = e} p q r s) g h b =
    elim (bool_cases (is_blank (quad a c d e))) [
      | inl f ↦ inl (number-blank all a c d e f)
      | inr f ↦
          let w = b (not_small (least_level rule) (quad a c d e) (suc k) (depth_is (quad_depth p q r s)) (h (omega arith)) f) in
          let n = number-place all a c d e f in
          let line : level_of (line_at (lines_for rule all) (place all (quad a c d e))) ≡ suc k =
          ap level_of (line-of_place rule all (quad a c d e) w.0) ∙ level-line_of rule all (quad a c d e) ∙ depth_is (quad_depth p q r s) in
          rw (n, less_one (place all (quad a c d e))) (inr (omega arith, omega arith, line))
    ]

-- eight rows below 256
rows-valid : (t : Tree) → HasDepth 3 t → StatesBelow 2 t → (length (rows_of t) ≡ 8) × AllByRecursion (λ row. row < 256) (rows_of t)
unfolding rows_of
rows-valid t h g = (
  refl,
  (
    row_byte-small h g 0 (omega arith),
    (
      row_byte-small h g 1 (omega arith),
      (
        row_byte-small h g 2 (omega arith),
        (
          row_byte-small h g 3 (omega arith),
          (
            row_byte-small h g 4 (omega arith),
            (row_byte-small h g 5 (omega arith), (row_byte-small h g 6 (omega arith), (row_byte-small h g 7 (omega arith), tt))),
          ),
        ),
      ),
    ),
  ),
)

pub big-level : (m : ℕ) (t : Tree) → is_small m t ≡ false → m ≤ depth t
big-level m t h = grind (arith, nat_tests)

pub point-big : (m s : ℕ) → 1 ≤ m → is_small m (point s) ≡ false → ⊥
point-big m s le h = grind (arith, nat_tests)

valid-line_of : (top : ℕ) (rule : Rule) (all : List Tree) (i : ℕ) {k : ℕ} {t : Tree} → HasDepth k t → StatesBelow (state_bound rule) t → k ≤ top
    → is_small (least_level rule) t ≡ false
    → Quarters (IsListedBefore (least_level rule) all i) t → IsValidLine top rule (lines_for rule all) i (line_of rule all t)
valid-line_of top rule all i (point_depth {state = state}) g most big q = absurd (point-big (least_level rule) state (least-one rule) big)
valid-line_of top rule all i (quad_depth {k = k} {nw = a} {ne = b} {sw = c} {se = d} ha hb hc hd) g most big q =
    let h = depth_is (quad_depth ha hb hc hd) in
    let le : least_level rule ≤ suc k = subst (λ n. least_level rule ≤ n) h (big-level (least_level rule) (quad a b c d) big) in
    elim (line_cases rule (quad a b c d) k h le) [
      | leaf_case l w x ↦
          subst (IsValidLine top rule (lines_for rule all) i) (sym (line_of-leaf rule all (quad a b c d) l (h ∙ ap suc x)))
          (rows-valid (quad a b c d) (subst (λ n. HasDepth (suc n) (quad a b c d)) x (quad_depth ha hb hc hd)) (subst (λ n. StatesBelow n (quad a b c d)) w g))
      | quad_case l w ↦
          subst (IsValidLine top rule (lines_for rule all) i) (sym (line_of-quad rule all (quad a b c d) l))
          (let f : depth (quad a b c d) - 1 ≡ k = ap (λ n. n - 1) h ∙ less_one k in
          let into = λ (t : Tree) (v : IsQuarter rule (lines_for rule all) i k (number_of_quarter all t)).
          subst (λ n. IsQuarter rule (lines_for rule all) i n (number_of_quarter all t)) (sym f) v in (
            omega arith,
            omega arith,
            into a (quarter rule all i ha g.0 w q.nw),
            into b (quarter rule all i hb g.1 w q.ne),
            into c (quarter rule all i hc g.2 w q.sw),
            into d (quarter rule all i hd g.3 w q.se),
          ))
    ]

le-trans : {a b c : ℕ} → a ≤ b → b ≤ c → a ≤ c
le-trans p q = omega arith

pub lines_for-valid : (top : ℕ) (rule : Rule) {k : ℕ} (t : Tree) → k ≤ top → HasDepth k t → StatesBelow (state_bound rule) t
    → AreValidLines top rule (lines_for rule (listed_squares t (least_level rule)))
lines_for-valid top rule {k = k} t le h g i l =
    let all = listed_squares t (least_level rule) in
    let n : i < length all = subst (λ v. i < v) (length-lines_for rule all) l in
    let part = walk-part (least_level rule) (state_bound rule) (get_or all i (point 0)) h g (listed-walk t (least_level rule) _ (is_in-at all i (point 0) n)) in
    let line : line_at (lines_for rule all) i ≡ line_of rule all (get_or all i (point 0)) = get_or-map (line_of rule all) all i (point 0) (Leaf []) n in
    subst (IsValidLine top rule (lines_for rule all) i) (sym line)
    (valid-line_of top rule all i part.depth_of part.states (le-trans part.most le) part.big ((listed-closed t (least_level rule) (least-one rule)).each i n))
