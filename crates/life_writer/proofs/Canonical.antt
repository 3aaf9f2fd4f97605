-- The canonical file has the cells of its pattern, and depends on them alone.
use Rattle.std.proofs.Common.{◌≡◌, ℕ, suc, ◌+◌, ◌-◌, ◌^◌, ◌<◌, ◌≤◌, true, false, List, [], ◌∷◌, ◌++◌, length, get_or, refl, ap, sym, ◌∙◌, subst, arith, inl, inr, ℤ, length-append, add-one}
use Rattle.std.proofs.lemmas.Bool.{or_left}
use Rattle.std.proofs.lemmas.List.{get_or-map}
use Rattle.std.proofs.Math.Seq.{get_or-append_seam}
use Rattle.life_base.specs.Rules.{IsRule}
use Rattle.life_base.specs.Tree.{Tree, point, quad, depth, blank, is_blank_tree as is_blank}
use Rattle.life_base.specs.declared.rule.Rule.{Rule}
use Rattle.life_mc.specs.Macrocell.{Macrocell, IsValidMacrocell, level_of}
use Rattle.life_mc.specs.Cells.{macrocell_cell, root_level}
use Rattle.life_mc.specs.Squares.{tree_of, root_tree}
use Rattle.life_mc.specs.declared.line.Line.{Line}
use Rattle.life_mc.specs.declared.line.Line.TheVariants.{Leaf}
use Rattle.life_pattern.specs.Universe.{Universe, IsSame, macrocell_universe, least_level, corner, centred_square, whole, IsBlankOutside, IsOnPlane}
use Rattle.life_writer.specs.Listing.{is_small, walk, is_in, with_all, listed_squares, place, number_of_quarter, line_of, lines_for, square_file, canonical_file}
use Rattle.life_pattern.proofs.TreeWords.{HasDepth, point_depth, quad_depth, StatesBelow}
use Rattle.life_pattern.proofs.LineWords.{state_bound, line_at}
use Rattle.life_pattern.proofs.LineFacts.{valid-squares, root_level-last}
use Rattle.life_pattern.proofs.Trees.{bool_cases, depth_is, square-blank, is_blank-blank, centred-trimmed}
use Rattle.life_writer.proofs.ListFacts.{place-last, with_new-fresh, with_all-from}
use Rattle.life_writer.proofs.Walk.{listed-itself, listed-quarters, walk-level, walk-small, with_walk}
use Rattle.life_writer.proofs.Content.{tree_of-number, lines_for-valid, length-lines_for, level-line_of, number-place, not_small, point-big}
use Rattle.life_pattern.proofs.Whole.{least-one, rooted, no-lines, whole-trimmed, whole-is, same-cells, same-whole}
use Rattle.life_base.proofs.Basics.{less_one, true_false}

-- ---- a square stands last in its list

-- a part of a smaller square is another square
deeper : (m : ℕ) {k : ℕ} {t : Tree} (s : Tree) → HasDepth k t → HasDepth (suc k) s → is_in (walk t m) s ≡ true → ⊥
deeper m {k = k} s h hs i =
    let l : depth s ≤ k = walk-level m s h i in
    let e : depth s ≡ suc k = depth_is hs in
    omega arith

pub record IsLast (all : List Tree) (t : Tree) : Type 0 where
  pub prefix : List Tree
  pub is : all ≡ prefix ++ t ∷ []
  pub fresh : is_in prefix t ≡ false

pub listed-last : (m : ℕ) {k : ℕ} {t : Tree} → 1 ≤ m → HasDepth k t → is_small m t ≡ false → IsLast (listed_squares t m) t
unfolding listed_squares
listed-last m le (point_depth {state = s}) h = absurd (point-big m s le h)
listed-last m le (quad_depth {k = k} {nw = a} {ne = b} {sw = c} {se = d} p q r s) h =
    let la : List Tree = with_all [] (walk a m) in
    let lb : List Tree = with_all la (walk b m) in
    let lc : List Tree = with_all lb (walk c m) in
    let ld : List Tree = with_all lc (walk d m) in
    let t : Tree = quad a b c d in
    let ht : HasDepth (suc k) t = quad_depth p q r s in
    let fresh : is_in ld t ≡ false = elim (bool_cases (is_in ld t)) [
      | inr e ↦ e
      | inl e ↦ absurd (elim (with_all-from lc (walk d m) t e) [
        | inr i ↦ deeper m t s ht i
        | inl e ↦ elim (with_all-from lb (walk c m) t e) [
          | inr i ↦ deeper m t r ht i
          | inl e ↦ elim (with_all-from la (walk b m) t e) [
            | inr i ↦ deeper m t q ht i
            | inl e ↦ elim (with_all-from [] (walk a m) t e) [
              | inr i ↦ deeper m t p ht i
              | inl e ↦ true_false false e refl
            ]
          ]
        ]
      ])
    ] in
    record { prefix = ld; is = with_walk [] a b c d m h ∙ with_new-fresh ld t fresh; fresh = fresh }

-- ---- the canonical file

pub square_file-valid : (top : ℕ) (rule : Rule) (generation : ℕ) {k : ℕ} (t : Tree) → IsRule rule → generation < 2 ^ 64 → k ≤ top → HasDepth k t
    → StatesBelow (state_bound rule) t
    → IsValidMacrocell top (square_file rule generation t)
square_file-valid top rule generation t r g le h s =
    record { rule = r; generation = g; squares = valid-squares top rule _ (lines_for-valid top rule t le h s) }

pub canonical-valid : (top : ℕ) (u : Universe) → least_level u.rule ≤ suc top → IsOnPlane (suc top) u → IsValidMacrocell (suc top) (canonical_file (suc top) u)
unfolding canonical_file
canonical-valid top u le h =
    let w = whole-is top u le h in
    square_file-valid (suc top) u.rule u.generation (whole (suc top) u) h.rule h.generation w.most w.depth_of w.states

pub nowhere : ℤ → ℤ → ℕ
nowhere x y = 0

pub centred-nowhere : (k : ℕ) → centred_square nowhere k ≡ blank k
unfolding centred_square nowhere
centred-nowhere k = square-blank nowhere k (corner k) (corner k) (λ i j p q. refl)

nowhere-outside : (k : ℕ) → IsBlankOutside k nowhere
unfolding nowhere
nowhere-outside k x y n = refl

pub nowhere-zero : (x y : ℤ) → nowhere x y ≡ 0
unfolding nowhere
nowhere-zero x y = refl

pub listed-blank : (t : Tree) (m : ℕ) → is_blank t ≡ true → listed_squares t m ≡ []
unfolding listed_squares
listed-blank t m h = ap (with_all []) (walk-small t m (or_left _ _ h))

-- the last line of a list of squares, and what its number stands for
number-last : (all : List Tree) {k : ℕ} {t : Tree} → HasDepth (suc k) t → is_blank t ≡ false → IsLast all t → number_of_quarter all t ≡ length all
number-last all (quad_depth {nw = a} {ne = b} {sw = c} {se = d} p q r s) h l =
    number-place all a b c d h ∙ ap suc (ap (λ v. place v (quad a b c d)) l.is ∙ place-last l.prefix (quad a b c d) l.fresh)
    ∙ sym (ap length l.is ∙ length-append l.prefix (quad a b c d ∷ []) ∙ add-one (length l.prefix))

root_level-of : (rule : Rule) (all : List Tree) (t : Tree) → IsLast all t → root_level (lines_for rule all) ≡ depth t
root_level-of rule all t l =
    let n : length all ≡ suc (length l.prefix) = ap length l.is ∙ length-append l.prefix (t ∷ []) ∙ add-one (length l.prefix) in
    let m : length (lines_for rule all) ≡ suc (length l.prefix) = length-lines_for rule all ∙ n in
    let i : length (lines_for rule all) - 1 ≡ length l.prefix = ap (λ v. v - 1) m ∙ less_one (length l.prefix) in
    root_level-last (lines_for rule all) (subst (λ v. 0 < v) (sym m) (omega arith))
    ∙ ap (λ v. level_of (line_at (lines_for rule all) v)) i
    ∙ ap level_of (get_or-map (line_of rule all) all (length l.prefix) (point 0) (Leaf []) (omega arith))
    ∙ ap (λ v. level_of (line_of rule all (get_or v (length l.prefix) (point 0)))) l.is
    ∙ ap (λ v. level_of (line_of rule all v)) (get_or-append_seam l.prefix t [] (point 0))
    ∙ level-line_of rule all t

-- the root of the lines of a nonblank square is that square
pub record IsRootOf (rule : Rule) (generation : ℕ) (k : ℕ) (t : Tree) : Type 0 where
  pub some : 0 < length (lines_for rule (listed_squares t (least_level rule)))
  pub level : root_level (lines_for rule (listed_squares t (least_level rule))) ≡ suc k
  pub root : root_tree (lines_for rule (listed_squares t (least_level rule))) ≡ t

pub square_file-root : (rule : Rule) (generation : ℕ) {k : ℕ} {t : Tree} → least_level rule ≤ suc k → HasDepth (suc k) t → StatesBelow (state_bound rule) t
    → is_blank t ≡ false
    → IsRootOf rule generation k t
square_file-root rule generation {k = k} {t = t} le h g b =
    let all : List Tree = listed_squares t (least_level rule) in
    let lines : List Line = lines_for rule all in
    let small : is_small (least_level rule) t ≡ false = not_small (least_level rule) t (suc k) (depth_is h) le b in
    let last : IsLast all t = listed-last (least_level rule) (least-one rule) h small in
    let n : number_of_quarter all t ≡ length lines = number-last all h b last ∙ sym (length-lines_for rule all) in
    let r : root_level lines ≡ suc k = root_level-of rule all t last ∙ depth_is h in
    let e : tree_of lines (suc k) (length lines) ≡ t = ap (tree_of lines (suc k)) (sym n)
    ∙ tree_of-number rule all (λ s i. listed-quarters t (least_level rule) s (least-one rule) i) h g (λ z. le)
    (listed-itself t (least_level rule) (least-one rule)) in
    record {
      some = subst (λ z. 0 < z) (sym (length-lines_for rule all ∙ ap length last.is ∙ length-append last.prefix (t ∷ []) ∙ add-one (length last.prefix)))
          (omega arith);
      level = r;
      root = ap (λ z. tree_of lines z (length lines)) r ∙ e;
    }

pub canonical-cells : (top : ℕ) (u : Universe) → least_level u.rule ≤ suc top → IsOnPlane (suc top) u → (x y : ℤ)
    → u.cell x y ≡ macrocell_cell (canonical_file (suc top) u) x y
unfolding canonical_file
canonical-cells top u le h x y =
    let w = whole-is top u le h in
    let t = whole (suc top) u in
    let file : Macrocell = square_file u.rule u.generation t in
    elim (bool_cases (is_blank t)) [
      | inl b ↦
          let e : centred_square u.cell (suc w.level) ≡ centred_square nowhere (suc w.level) = sym w.is ∙ is_blank-blank w.depth_of b
          ∙ sym (centred-nowhere (suc w.level)) in
          let n : length file.lines ≡ 0 = length-lines_for u.rule (listed_squares t (least_level u.rule)) ∙ ap length (listed-blank t (least_level u.rule) b) in
          same-cells u.cell nowhere (suc w.level) e w.outside (nowhere-outside (suc w.level)) x y ∙ nowhere-zero x y ∙ sym (no-lines file n x y)
      | inr b ↦
          let r = square_file-root u.rule u.generation w.least w.depth_of w.states b in
          let v : IsValidMacrocell (suc top) file = square_file-valid (suc top) u.rule u.generation t h.rule h.generation w.most w.depth_of w.states in
          let s = rooted (suc top) file v r.some in
          let l : s.level ≡ w.level = let e : suc s.level ≡ suc w.level = sym s.is ∙ r.level in omega arith in
          let c : centred_square (macrocell_cell file) (suc w.level)
          ≡ t = subst (λ z. centred_square (macrocell_cell file) (suc z) ≡ root_tree file.lines) l s.cells
          ∙ r.root in
          let o : IsBlankOutside (suc w.level) (macrocell_cell file) = subst (λ z. IsBlankOutside (suc z) (macrocell_cell file)) l s.outside in
          same-cells u.cell (macrocell_cell file) (suc w.level) (sym w.is ∙ sym c) w.outside o x y
    ]

-- a pattern and its canonical file are the same
pub canonical-same : (top : ℕ) (u : Universe) → least_level u.rule ≤ suc top → IsOnPlane (suc top) u
    → IsSame u (macrocell_universe (canonical_file (suc top) u))
unfolding canonical_file
canonical-same top u le h = record { rule = refl; generation = refl; cells = canonical-cells top u le h }

-- ---- the canonical file depends on the pattern alone

pub same-canonical : (top : ℕ) (u v : Universe) → IsSame u v → canonical_file top u ≡ canonical_file top v
unfolding canonical_file
same-canonical top u v s =
    let w = same-whole top u v s in
    λ i. square_file (s.rule i) (s.generation i) (w i)

-- a wider plane gives the same canonical file
pub canonical-wider : (n top : ℕ) (u : Universe) → least_level u.rule ≤ suc top → IsOnPlane (suc top) u
    → canonical_file (suc (n + top)) u ≡ canonical_file (suc top) u
unfolding canonical_file
canonical-wider n top u le h =
    ap (square_file u.rule u.generation)
    (whole-trimmed (suc (n + top)) u ∙ centred-trimmed u.cell (least_level u.rule) n top (least-one u.rule) le h.outside ∙ sym (whole-trimmed (suc top) u))
