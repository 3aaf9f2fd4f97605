-- What the counting of cells by node lines needs.
use Rattle.std.proofs.Common.{◌≡◌, ℕ, suc, ◌+◌, ◌-◌, ◌*◌, ◌/◌, ◌%◌, ◌^◌, ◌<◌, ◌≤◌, true, false, List, [], ◌∷◌, ◌++◌, length, map, get_or, refl, ap, sym, ◌∙◌, subst, arith, length-append, inl, inr, ◌==◌, All, slice_index, slice_index_or, append_assoc, append-nil}
use Rattle.std.specs.Int.{from_be_bytes, w64}
use Rattle.std.specs.Int.Count.{ones}
use Rattle.std.proofs.lemmas.Nat.{ones_cat}
use Rattle.std.proofs.lemmas.Bool.Decides.{nat_tests}
use Rattle.std.proofs.lemmas.List.{get_or-map, get_or_append_left, length-map, map-append}
use Rattle.std.proofs.Math.Nat.{pow-le-pow_right}
use Rattle.life_base.specs.Tree.{Tree, point, quad, depth, IsFull, is_blank_tree as is_blank}
use Rattle.life_base.specs.declared.cell.TheConstants.{MAX_LEVEL}
use Rattle.life_base.specs.declared.rule.Rule.{Rule}
use Rattle.life_base.specs.declared.rule.Rule.TheVariants.{Life, Named}
use Rattle.life_base.proofs.RoundTrip.{all_below, all_below_at}
use Rattle.life_mc.specs.Cells.{leaf_cell}
use Rattle.life_mc.specs.Macrocell.{largest_state}
use Rattle.life_mc.specs.Squares.{HasStatesUpTo, leaf_tree, tree_at}
use Rattle.life_mc.specs.declared.line.Line.{Line}
use Rattle.life_quad.specs.Cells.{population}
use Rattle.life_quad.proofs.CountLemmas.{population-blank, population-small}
use Rattle.life_pattern.specs.Quarters.{Quarters}
use Rattle.life_writer.specs.Closed.{IsListedBefore}
use Rattle.life_writer.specs.Counting.{number_count, line_count, line_counts, CountsLines}
use Rattle.life_writer.specs.Listing.{is_small, listed_squares, line_of, lines_for, number_of_quarter, place, rows_of, walk, with_all}
use Rattle.life_pattern.specs.Universe.{least_level}
use Rattle.life_writer.proofs.Content.{leaf_case, quad_case, line_cases, line_of-leaf, line_of-quad, not_small, number-blank, number-place, point-big, is_in-at, big-level}
use Rattle.life_pattern.proofs.Whole.{least-one}
use Rattle.life_writer.proofs.Leaves.{leaf_tree-is}
use Rattle.life_pattern.proofs.LineWords.{state_bound}
use Rattle.life_writer.proofs.ListFacts.{place-is}
use Rattle.life_pattern.proofs.Planes.{full-depth, depth-full, states-below}
use Rattle.life_pattern.proofs.TreeWords.{HasDepth, point_depth, quad_depth, StatesBelow}
use Rattle.life_pattern.proofs.Trees.{bool_cases, depth_is}
use Rattle.life_writer.proofs.Walk.{listed-closed, listed-walk, walk-part, walk-small}
use Rattle.life_writer.proofs.WalkingFacts.{absent-still, quad-walk}

-- ---- a leaf

-- whether a state is other than 0
abbrev cell : ℕ → ℕ
cell s = population (point s)

west : ℕ → ℕ
west r = cell (r / 2 ^ 7 % 2) + cell (r / 2 ^ 6 % 2) + cell (r / 2 ^ 5 % 2) + cell (r / 2 ^ 4 % 2)

east : ℕ → ℕ
east r = cell (r / 2 ^ 3 % 2) + cell (r / 2 ^ 2 % 2) + cell (r / 2 ^ 1 % 2) + cell (r / 2 ^ 0 % 2)

bytes-ones : all_below 256 (λ r. west r + east r == ones r) ≡ true
unfolding ones west east
bytes-ones = refl

byte-ones : (r : ℕ) → r < 256 → ones r ≡ west r + east r
byte-ones r l = equal _ _ (all_below_at 256 (λ r. west r + east r == ones r) r bytes-ones l)
  where
    equal : (a b : ℕ) → (a == b) ≡ true → b ≡ a
    equal a b h = grind (arith, nat_tests)

-- sixteen cells by quarters, and by rows
block : (c : ℕ → ℕ → ℕ)
    → (c 0 0 + c 1 0 + c 0 1 + c 1 1) + (c 2 0 + c 3 0 + c 2 1 + c 3 1) + (c 0 2 + c 1 2 + c 0 3 + c 1 3) + (c 2 2 + c 3 2 + c 2 3 + c 3 3)
    ≡ (c 0 0 + c 1 0 + c 2 0 + c 3 0) + (c 0 1 + c 1 1 + c 2 1 + c 3 1) + (c 0 2 + c 1 2 + c 2 2 + c 3 2) + (c 0 3 + c 1 3 + c 2 3 + c 3 3)
block c = omega arith

joined : (p q s u w0 w1 w2 w3 w4 w5 w6 w7 e0 e1 e2 e3 e4 e5 e6 e7 o0 o1 o2 o3 o4 o5 o6 o7 : ℕ) → p ≡ w0 + w1 + w2 + w3 → q ≡ e0 + e1 + e2 + e3
    → s ≡ w4 + w5 + w6 + w7 → u ≡ e4 + e5 + e6 + e7
    → o0 ≡ w0 + e0 → o1 ≡ w1 + e1 → o2 ≡ w2 + e2 → o3 ≡ w3 + e3 → o4 ≡ w4 + e4 → o5 ≡ w5 + e5 → o6 ≡ w6 + e6 → o7 ≡ w7 + e7
    → p + q + s + u ≡ (o0 + o1 + o2 + o3) + (o4 + o5 + o6 + o7)
joined p q s u w0 w1 w2 w3 w4 w5 w6 w7 e0 e1 e2 e3 e4 e5 e6 e7 o0 o1 o2 o3 o4 o5 o6 o7 f g h i b0 b1 b2 b3 b4 b5 b6 b7 = omega arith

-- its cells are the ones of its rows
leaf-ones : (rows : List ℕ) → ((y : ℕ) → slice_index rows y < 256)
    → population (leaf_tree rows) ≡ (ones (slice_index rows 0) + ones (slice_index rows 1) + ones (slice_index rows 2) + ones (slice_index rows 3))
    + (ones (slice_index rows 4) + ones (slice_index rows 5) + ones (slice_index rows 6) + ones (slice_index rows 7))
unfolding west east
leaf-ones rows small =
    let r : ℕ → ℕ = slice_index rows in
    let f : ℕ → ℕ → ℕ = leaf_cell rows in
    let b : (y : ℕ) → ones (r y) ≡ west (r y) + east (r y) = λ y. byte-ones (r y) (small y) in
    let nw : population (tree_at f 2 0 0) ≡ west (r 0) + west (r 1) + west (r 2) + west (r 3) = block (λ x y. cell (f x y)) in
    let ne : population (tree_at f 2 4 0) ≡ east (r 0) + east (r 1) + east (r 2) + east (r 3) = block (λ x y. cell (f (4 + x) y)) in
    let sw : population (tree_at f 2 0 4) ≡ west (r 4) + west (r 5) + west (r 6) + west (r 7) = block (λ x y. cell (f x (4 + y))) in
    let se : population (tree_at f 2 4 4) ≡ east (r 4) + east (r 5) + east (r 6) + east (r 7) = block (λ x y. cell (f (4 + x) (4 + y))) in
    joined (population (tree_at f 2 0 0)) (population (tree_at f 2 4 0)) (population (tree_at f 2 0 4)) (population (tree_at f 2 4 4))
    (west (r 0)) (west (r 1)) (west (r 2)) (west (r 3)) (west (r 4)) (west (r 5)) (west (r 6)) (west (r 7))
    (east (r 0)) (east (r 1)) (east (r 2)) (east (r 3)) (east (r 4)) (east (r 5)) (east (r 6)) (east (r 7))
    (ones (r 0)) (ones (r 1)) (ones (r 2)) (ones (r 3)) (ones (r 4)) (ones (r 5)) (ones (r 6)) (ones (r 7)) nw ne sw se
    (b 0) (b 1) (b 2) (b 3) (b 4) (b 5) (b 6) (b 7)

module _ (b0 b1 b2 b3 b4 b5 b6 b7 : ℕ) (s1 : b1 < 256) (s2 : b2 < 256) (s3 : b3 < 256) (s4 : b4 < 256) (s5 : b5 < 256) (s6 : b6 < 256)
    (s7 : b7 < 256) where
  -- the ones of eight bytes as a number
  eight-ones : (n : ℕ) → n ≡ ((((((b0 * 256 + b1) * 256 + b2) * 256 + b3) * 256 + b4) * 256 + b5) * 256 + b6) * 256 + b7
      → ones n ≡ (ones b0 + ones b1 + ones b2 + ones b3) + (ones b4 + ones b5 + ones b6 + ones b7)
  eight-ones n e =
      let n1 = b0 * 256 + b1 in
      let n2 = n1 * 256 + b2 in
      let n3 = n2 * 256 + b3 in
      let n4 = n3 * 256 + b4 in
      let n5 = n4 * 256 + b5 in
      let n6 = n5 * 256 + b6 in
      let o1 : ones n1 ≡ ones b0 + ones b1 = ones_cat 8 b0 b1 s1 in
      let o2 : ones n2 ≡ ones n1 + ones b2 = ones_cat 8 n1 b2 s2 in
      let o3 : ones n3 ≡ ones n2 + ones b3 = ones_cat 8 n2 b3 s3 in
      let o4 : ones n4 ≡ ones n3 + ones b4 = ones_cat 8 n3 b4 s4 in
      let o5 : ones n5 ≡ ones n4 + ones b5 = ones_cat 8 n4 b5 s5 in
      let o6 : ones n6 ≡ ones n5 + ones b6 = ones_cat 8 n5 b6 s6 in
      let o7 : ones (n6 * 256 + b7) ≡ ones n6 + ones b7 = ones_cat 8 n6 b7 s7 in
      ap ones e ∙ o7 ∙ added (ones n1) (ones n2) (ones n3) (ones n4) (ones n5) (ones n6) (ones b0) (ones b1) (ones b2) (ones b3)
      (ones b4) (ones b5) (ones b6) (ones b7) o1 o2 o3 o4 o5 o6
    where
      added : (m1 m2 m3 m4 m5 m6 c0 c1 c2 c3 c4 c5 c6 c7 : ℕ) → m1 ≡ c0 + c1 → m2 ≡ m1 + c2 → m3 ≡ m2 + c3 → m4 ≡ m3 + c4 → m5 ≡ m4 + c5 → m6 ≡ m5 + c6
          → m6 + c7 ≡ (c0 + c1 + c2 + c3) + (c4 + c5 + c6 + c7)
      added m1 m2 m3 m4 m5 m6 c0 c1 c2 c3 c4 c5 c6 c7 p1 p2 p3 p4 p5 p6 = omega (arith, p1, p2, p3, p4, p5, p6)

-- so are those of its rows as one number
pub leaf-count : (rows : List ℕ) → ((y : ℕ) → slice_index rows y < 256) → population (leaf_tree rows) ≡ ones (from_be_bytes w64 rows)
leaf-count rows small =
    let r : ℕ → ℕ = slice_index rows in
    leaf-ones rows small
    ∙ sym (eight-ones (r 0) (r 1) (r 2) (r 3) (r 4) (r 5) (r 6) (r 7) (small 1) (small 2) (small 3) (small 4) (small 5) (small 6) (small 7)
    (from_be_bytes w64 rows) (omega arith))

-- those of the square of a leaf line are those of its rows
pub leaf-cells : (t : Tree) (n : ℕ) → IsFull t → depth t ≡ 3 → HasStatesUpTo 1 t → n ≡ population t → n ≡ population (leaf_tree (rows_of t))
leaf-cells t n full deep states is =
    is ∙ ap population (sym (leaf_tree-is (subst (λ k. HasDepth k t) deep (full-depth t full)) (states-below 1 t states)))

-- ---- a line after others

line_counts-more : (counts : List ℕ) (lines : List Line) (line : Line)
    → line_counts counts (lines ++ line ∷ []) ≡ line_counts counts lines ++ line_count (line_counts counts lines) line ∷ []
line_counts-more counts [] line = refl
line_counts-more counts (l ∷ lines) line = line_counts-more (counts ++ line_count counts l ∷ []) lines line

at-end : {X : Type 0} (xs ys : List X) (x d : X) → get_or (xs ++ x ∷ ys) (length xs) d ≡ x
at-end [] ys x d = refl
at-end (y ∷ xs) ys x d = at-end xs ys x d

before-end : {X : Type 0} (xs ys : List X) (x : X) → length xs < length (xs ++ x ∷ ys)
before-end xs ys x = let n = length-append xs (x ∷ ys) in omega (arith, n)

last-of : (xs : List ℕ) (x : ℕ) → get_or (xs ++ x ∷ []) (length (xs ++ x ∷ []) - 1) 0 ≡ x
last-of xs x =
    let n : length (xs ++ x ∷ []) - 1 ≡ length xs = let e = length-append xs (x ∷ []) in omega (arith, e) in
    ap (λ k. get_or (xs ++ x ∷ []) k 0) n ∙ at-end xs [] x 0

pub takes-count : (start old new : List ℕ) (lines : List Line) (line : Line) (n : ℕ) → new ≡ old ++ n ∷ []
    → (line_count old line < 2 ^ 128 → n ≡ line_count old line)
    → CountsLines start old lines → CountsLines start new (lines ++ line ∷ [])
takes-count start old new lines line n e f w = λ small.
    let m = line_counts-more start lines line in
    let xs = line_counts start lines in
    let s : All (λ n. n < 2 ^ 128) (xs ++ line_count xs line ∷ []) = subst (All (λ n. n < 2 ^ 128)) m small in
    let o : old ≡ xs = w (λ k d l. subst (λ v. v < 2 ^ 128) (get_or_append_left xs (line_count xs line ∷ []) d k l)
    (s k d (let long = length-append xs (line_count xs line ∷ []) in omega (arith, l, long)))) in
    let last : line_count xs line < 2 ^ 128 = subst (λ v. v < 2 ^ 128) (at-end xs [] (line_count xs line) 0)
    (s (length xs) 0 (before-end xs [] (line_count xs line))) in
    e ∙ ap (λ v. old ++ v ∷ []) (f (subst (λ v. line_count v line < 2 ^ 128) (sym o) last)) ∙ ap (λ v. v ++ line_count v line ∷ []) o ∙ sym m

-- ---- the lines of listed squares

named-count : (counts : List ℕ) (level n : ℕ) → 2 ≤ level → number_count counts level (suc n) ≡ slice_index_or counts n 0
named-count counts level n l =
    let e0 : (suc n == 0) ≡ false = grind (arith, nat_tests) in
    let e1 : (level == 1) ≡ false = grind (arith, nat_tests) in
    let e2 : suc n - 1 ≡ n = omega arith in
    rw (e0, e1, e2) refl

four : {a b c d e f g h : ℕ} → a ≡ e → b ≡ f → c ≡ g → d ≡ h → a + b + c + d ≡ e + f + g + h
four p q r s = omega (arith, p, q, r, s)

-- where the squares before have their counts
module _ (rule : Rule) (all before rest : List Tree) (is : all ≡ before ++ rest) where
  quarter-count : {k : ℕ} {q : Tree} → HasDepth k q → (0 < k → least_level rule ≤ k) → IsListedBefore (least_level rule) all (length before) q
      → number_count (map population before) (suc k) (number_of_quarter all q) ≡ population q
  quarter-count point_depth h b = refl
  quarter-count (quad_depth {k = k} {nw = a} {ne = c} {sw = d} {se = e} p q r s) h b =
      let t = quad a c d e in
      let counts = map population before in
      elim (bool_cases (is_blank t)) [
        | inl f ↦ ap (number_count counts (suc (suc k))) (number-blank all a c d e f) ∙ sym (population-blank t f)
        | inr f ↦
            let w = b (not_small (least_level rule) t (suc k) (depth_is (quad_depth p q r s)) (h (omega arith)) f) in
            let at : get_or before (place all t) (point 0) ≡ t = sym (get_or_append_left before rest (point 0) (place all t) w.1)
            ∙ ap (λ l. get_or l (place all t) (point 0)) (sym is) ∙ place-is all t (point 0) w.0 in
            ap (number_count counts (suc (suc k))) (number-place all a c d e f) ∙ named-count counts (suc (suc k)) (place all t) (omega arith)
            ∙ get_or-map population before (place all t) (point 0) 0 w.1 ∙ ap population at
      ]

  line-count : {k : ℕ} {t : Tree} → HasDepth k t → StatesBelow (state_bound rule) t → is_small (least_level rule) t ≡ false
      → Quarters (IsListedBefore (least_level rule) all (length before)) t → line_count (map population before) (line_of rule all t) ≡ population t
  line-count (point_depth {state = state}) g big q = absurd (point-big (least_level rule) state (least-one rule) big)
  line-count (quad_depth {k = k} {nw = a} {ne = b} {sw = c} {se = d} ha hb hc hd) g big q =
      let t = quad a b c d in
      let counts = map population before in
      let h = depth_is (quad_depth ha hb hc hd) in
      let le : least_level rule ≤ suc k = subst (λ n. least_level rule ≤ n) h (big-level (least_level rule) t big) in
      elim (line_cases rule t k h le) [
        | leaf_case l w x ↦
            ap (line_count counts) (line_of-leaf rule all t l (h ∙ ap suc x))
            ∙ ap population (leaf_tree-is (subst (λ n. HasDepth (suc n) t) x (quad_depth ha hb hc hd)) (subst (λ n. StatesBelow n t) w g))
        | quad_case l w ↦
            let at = λ (s : Tree) (v : number_count counts (suc k) (number_of_quarter all s) ≡ population s).
            subst (λ n. number_count counts n (number_of_quarter all s) ≡ population s) (sym h) v in
            ap (line_count counts) (line_of-quad rule all t l)
            ∙ four (at a (quarter-count ha w q.nw)) (at b (quarter-count hb w q.ne)) (at c (quarter-count hc w q.sw)) (at d (quarter-count hd w q.se))
      ]

-- a square of the list that has its quarters before it
record IsCounted (rule : Rule) (all : List Tree) (i : ℕ) (t : Tree) : Type 0 where
  level : ℕ
  depth_of : HasDepth level t
  states : StatesBelow (state_bound rule) t
  big : is_small (least_level rule) t ≡ false
  before : Quarters (IsListedBefore (least_level rule) all i) t

counted : (rule : Rule) (all : List Tree) → ((i : ℕ) → i < length all → IsCounted rule all i (get_or all i (point 0))) → (before rest : List Tree)
    → all ≡ before ++ rest → line_counts (map population before) (map (line_of rule all) rest) ≡ map population all
counted rule all each before [] e = ap (map population) (sym (e ∙ append-nil before))
counted rule all each before (t ∷ ts) e =
    let l : length before < length all = subst (λ v. length before < length v) (sym e) (before-end before ts t) in
    let c = subst (IsCounted rule all (length before)) (ap (λ v. get_or v (length before) (point 0)) e ∙ at-end before ts t (point 0))
    (each (length before) l) in
    let n = line-count rule all before (t ∷ ts) e c.depth_of c.states c.big c.before in
    ap (λ v. line_counts v (map (line_of rule all) ts)) (ap (λ v. map population before ++ v ∷ []) n ∙ sym (map-append population before (t ∷ [])))
    ∙ counted rule all each (before ++ t ∷ []) ts (e ∙ sym (append_assoc before (t ∷ []) ts))

small-blank : (m : ℕ) (t : Tree) → is_blank t ≡ true → is_small m t ≡ true
small-blank m t h = grind (arith, nat_tests)

bound-small : (rule : Rule) → state_bound rule ≤ 256
bound-small (Life sets) = omega arith
bound-small (Named name) = omega arith

module _ (rule : Rule) (root : Tree) (full : IsFull root) (states : HasStatesUpTo (largest_state rule) root) where
  part : (i : ℕ) → i < length (listed_squares root (least_level rule))
      → IsCounted rule (listed_squares root (least_level rule)) i (get_or (listed_squares root (least_level rule)) i (point 0))
  part i l =
      let m = least_level rule in
      let t = get_or (listed_squares root m) i (point 0) in
      let p = walk-part m (state_bound rule) t (full-depth root full) (states-below (largest_state rule) root states)
      (listed-walk root m t (is_in-at (listed_squares root m) i (point 0) l)) in
      record { level = p.level; depth_of = p.depth_of; states = p.states; big = p.big; before = (listed-closed root m (least-one rule)).each i l }

  -- the counts of the lines are those of the squares
  pub listed-counts : line_counts [] (lines_for rule (listed_squares root (least_level rule))) ≡ map population (listed_squares root (least_level rule))
  listed-counts = counted rule (listed_squares root (least_level rule)) part [] (listed_squares root (least_level rule)) refl

  -- none of them is too large
  pub listed-few : depth root ≤ MAX_LEVEL → All (λ n. n < 2 ^ 128) (map population (listed_squares root (least_level rule)))
  listed-few low = λ k d l.
      let m = least_level rule in
      let all = listed_squares root m in
      let n : k < length all = subst (λ v. k < v) (length-map all population) l in
      let p = part k n in
      let t = get_or all k (point 0) in
      let w = walk-part m (state_bound rule) t (full-depth root full) (states-below (largest_state rule) root states)
      (listed-walk root m t (is_in-at all k (point 0) n)) in
      let few = population-small t (depth-full (state_bound rule) (bound-small rule) p.depth_of p.states) in
      let deep : depth t ≤ MAX_LEVEL = let e = depth_is w.depth_of in omega (arith, e, w.most, low) in
      let most : 4 ^ depth t ≤ 4 ^ MAX_LEVEL = pow-le-pow_right (omega arith) deep in
      let bound : 4 ^ MAX_LEVEL < 2 ^ 128 = omega arith in
      subst (λ v. v < 2 ^ 128) (sym (get_or-map population all k (point 0) d n)) (omega (arith, few, most, bound))

  -- so a sink that counted the lines has the counts of the squares
  all-counted : depth root ≤ MAX_LEVEL → (start counts : List ℕ) → start ≡ []
      → CountsLines start counts (lines_for rule (listed_squares root (least_level rule)))
      → counts ≡ map population (listed_squares root (least_level rule))
  all-counted low start counts none took =
      let lines = lines_for rule (listed_squares root (least_level rule)) in
      let few = subst (All (λ n. n < 2 ^ 128)) (sym listed-counts) (listed-few low) in
      took (subst (λ s. All (λ n. n < 2 ^ 128) (line_counts s lines)) (sym none) few) ∙ ap (λ s. line_counts s lines) none ∙ listed-counts

  -- one for each square
  pub lines-counted : depth root ≤ MAX_LEVEL → (start counts : List ℕ) → start ≡ []
      → CountsLines start counts (lines_for rule (listed_squares root (least_level rule))) → length counts ≡ length (listed_squares root (least_level rule))
  lines-counted low start counts none took = ap length (all-counted low start counts none took) ∙ length-map (listed_squares root (least_level rule)) population

  -- the last square is the root
  listed-last : is_small (least_level rule) root ≡ false → (before : List Tree) × (listed_squares root (least_level rule) ≡ before ++ root ∷ [])
  unfolding listed_squares
  listed-last big = ends root full big
    where
      ends : (t : Tree) → IsFull t → is_small (least_level rule) t ≡ false → (before : List Tree) × (with_all [] (walk t (least_level rule)) ≡ before ++ t ∷ [])
      ends (point s) f b = absurd (point-big (least_level rule) s (least-one rule) b)
      ends (quad a c d e) f b =
          let m = least_level rule in
          let one = with_all [] (walk a m) in
          let two = with_all one (walk c m) in
          let three = with_all two (walk d m) in
          let four = with_all three (walk e m) in
          let t = quad a c d e in (
            four,
            sym (quad-walk rule t a c d e [] one two three four (four ++ t ∷ []) b refl refl refl refl refl
                (absent-still m t a c d e [] one two three four f refl refl refl refl refl refl) refl),
          )

  blank-listed : is_blank root ≡ true → listed_squares root (least_level rule) ≡ []
  unfolding listed_squares
  blank-listed e = ap (with_all []) (walk-small root (least_level rule) (small-blank (least_level rule) root e))

  -- the last count is that of the root
  root-count : least_level rule ≤ depth root → (counts : List ℕ) → counts ≡ map population (listed_squares root (least_level rule))
      → slice_index_or counts (length counts - 1) 0 ≡ population root
  root-count low counts is = ap (λ l. slice_index_or l (length l - 1) 0) is ∙ elim (bool_cases (is_blank root)) [
    | inl e ↦ ap (λ l. slice_index_or (map population l) (length (map population l) - 1) 0) (blank-listed e) ∙ sym (population-blank root e)
    | inr e ↦
        let p = listed-last (not_small (least_level rule) root (depth root) refl low e) in
        ap (λ l. slice_index_or (map population l) (length (map population l) - 1) 0) p.1
        ∙ ap (λ l. slice_index_or l (length l - 1) 0) (map-append population p.0 (root ∷ [])) ∙ last-of (map population p.0) (population root)
  ]

  pub cells-counted : depth root ≤ MAX_LEVEL → least_level rule ≤ depth root → {start counts all : List ℕ} → all ≡ counts → start ≡ []
      → CountsLines start counts (lines_for rule (listed_squares root (least_level rule))) → slice_index_or all (length all - 1) 0 ≡ population root
  cells-counted low high {start} {counts} {all} same none took = root-count high all (same ∙ all-counted low start counts none took)
