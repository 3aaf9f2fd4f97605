-- Each node line of a valid file stands for one square.
use Rattle.std.proofs.Common.{◌≡◌, ℕ, zero, suc, ◌+◌, ◌-◌, ◌%◌, ◌^◌, ◌<◌, ◌≤◌, List, [], ◌∷◌, length, take, map, Bool, true, false, cond, ◌&&◌, ◌||◌, refl, ap, sym, subst, ◌∙◌, arith, eqb-true, ltb-true, ltb-false, add-zero, nat_le, nat_lt, ◌==◌, Option, Some, None, ℤ, pos, negsuc, neg_ℤ, ◌+ℤ◌, int_le, int_lt, unsigned_abs, leb-true}
use Rattle.std.specs.List.{list_all, slice_get}
use Rattle.std.proofs.Math.Nat.{mod-eq_of_lt, mod-eq-sub-mod}
use Rattle.life_base.specs.Tree.{Tree, point, quad, depth, blank, state_at, IsFull, tree_cell}
use Rattle.life_base.specs.declared.rule.Rule.{Rule}
use Rattle.life_mc.specs.Macrocell.{AreSquares, IsSquare, level_of, item_of_number, is_quarter, is_level, largest_state}
use Rattle.life_mc.specs.Cells.{macrocell_cell, cell_in_node, cell_from, leaf_cell, quarter_at, root_level}
use Rattle.life_mc.specs.Squares.{tree_at, leaf_tree, line_tree, tree_of, root_tree, HasStatesUpTo, StandsForSquare, LinesStandForSquares}
use Rattle.life_mc.specs.declared.line.Line.{Line}
use Rattle.life_mc.specs.declared.line.Line.TheVariants.{Leaf, Quad}
use Rattle.life_mc.proofs.TestFacts.{all_four, few_states}
use Rattle.life_base.proofs.Basics.{in_span, out_of_span, double, suc_not_zero, suc_suc_not_one}
use Rattle.life_base.proofs.Squares.{same_quads, state_at-blank}

-- ---- the quarter in which a column and a row lie

rest-of : (k x : ℕ) → x < 2 ^ suc k → nat_lt x (2 ^ k) ≡ false → x - 2 ^ k < 2 ^ k
rest-of k x l h = omega (arith, double k, ltb-false x (2 ^ k) h)

mod-below : (k x : ℕ) → nat_lt x (2 ^ k) ≡ true → x % 2 ^ k ≡ x
mod-below k x h = mod-eq_of_lt (ltb-true x (2 ^ k) h)

mod-above : (k x : ℕ) → x < 2 ^ suc k → nat_lt x (2 ^ k) ≡ false → x % 2 ^ k ≡ x - 2 ^ k
mod-above k x l h = mod-eq-sub-mod (ltb-false x (2 ^ k) h) ∙ mod-eq_of_lt (rest-of k x l h)

-- ---- what a square shows

-- a full square of depth k with states up to the most, and these cells
record Shows (most k : ℕ) (tree : Tree) (cells : ℕ → ℕ → ℕ) : Type 0 where
  depth_is : depth tree ≡ k
  full : IsFull tree
  states : HasStatesUpTo most tree
  same : (x y : ℕ) → x < 2 ^ k → y < 2 ^ k → state_at tree x y ≡ cells x y

-- which of four values stands where a column and a row are within the first half, or not
abbrev chosen : ℕ → ℕ → ℕ → ℕ → Bool → Bool → ℕ
chosen a b c d v w = cond v (cond w a b) (cond w c d)

-- the state in a square whose first quarter has depth k
state_in : (k : ℕ) (a b c d : Tree) → depth a ≡ k → (x y : ℕ)
    → state_at (quad a b c d) x y
    ≡ chosen (state_at a x y) (state_at b (x - 2 ^ k) y) (state_at c x (y - 2 ^ k)) (state_at d (x - 2 ^ k) (y - 2 ^ k)) (nat_lt y (2 ^ k)) (nat_lt x (2 ^ k))
state_in k a b c d is x y =
    ap (λ n. chosen (state_at a x y) (state_at b (x - 2 ^ n) y) (state_at c x (y - 2 ^ n)) (state_at d (x - 2 ^ n) (y - 2 ^ n)) (nat_lt y (2 ^ n))
    (nat_lt x (2 ^ n))) is

-- four numbers whose squares show their cells
module _ (most k : ℕ) (tree_for : ℕ → Tree) (cells_for : ℕ → ℕ → ℕ → ℕ) (nw ne sw se : ℕ)
    (a : Shows most k (tree_for nw) (cells_for nw)) (b : Shows most k (tree_for ne) (cells_for ne))
    (c : Shows most k (tree_for sw) (cells_for sw)) (d : Shows most k (tree_for se) (cells_for se)) where
  same_at : (x y : ℕ) → x < 2 ^ suc k → y < 2 ^ suc k → (v w : Bool) → nat_lt y (2 ^ k) ≡ v → nat_lt x (2 ^ k) ≡ w
      → chosen (state_at (tree_for nw) x y) (state_at (tree_for ne) (x - 2 ^ k) y) (state_at (tree_for sw) x (y - 2 ^ k))
      (state_at (tree_for se) (x - 2 ^ k) (y - 2 ^ k)) v w
      ≡ cells_for (cond v (cond w nw ne) (cond w sw se)) (x % 2 ^ k) (y % 2 ^ k)
  same_at x y l m true true e f = rw (mod-below k x f, mod-below k y e) (a.same x y (ltb-true x (2 ^ k) f) (ltb-true y (2 ^ k) e))
  same_at x y l m true false e f = rw (mod-above k x l f, mod-below k y e) (b.same (x - 2 ^ k) y (rest-of k x l f) (ltb-true y (2 ^ k) e))
  same_at x y l m false true e f = rw (mod-below k x f, mod-above k y m e) (c.same x (y - 2 ^ k) (ltb-true x (2 ^ k) f) (rest-of k y m e))
  same_at x y l m false false e f = rw (mod-above k x l f, mod-above k y m e) (d.same (x - 2 ^ k) (y - 2 ^ k) (rest-of k x l f) (rest-of k y m e))

  quad_shows : Shows most (suc k) (quad (tree_for nw) (tree_for ne) (tree_for sw) (tree_for se))
      (λ x y. cells_for (quarter_at (2 ^ k) x y nw ne sw se) (x % 2 ^ k) (y % 2 ^ k))
  quad_shows = record {
    depth_is = ap suc a.depth_is;
    full = (a.full, b.full, c.full, d.full, b.depth_is ∙ sym a.depth_is, c.depth_is ∙ sym a.depth_is, d.depth_is ∙ sym a.depth_is);
    states = (a.states, b.states, c.states, d.states);
    same = λ x y l m.
        state_in k (tree_for nw) (tree_for ne) (tree_for sw) (tree_for se) a.depth_is x y
        ∙ same_at x y l m (nat_lt y (2 ^ k)) (nat_lt x (2 ^ k)) refl refl;
  }

blank_shows : (most k : ℕ) → Shows most k (blank k) (λ x y. 0)
blank_shows most zero = record { depth_is = refl; full = omega arith; states = omega arith; same = λ x y l m. refl }
blank_shows most (suc k) =
    let b = blank_shows most k in record {
      depth_is = ap suc b.depth_is;
      full = (b.full, b.full, b.full, b.full, refl, refl, refl);
      states = (b.states, b.states, b.states, b.states);
      same = λ x y l m. state_at-blank (suc k) x y;
    }

point_shows : (most state : ℕ) → most ≤ 255 → state ≤ most → Shows most 0 (point state) (λ x y. state)
point_shows most state low h = record { depth_is = refl; full = omega arith; states = h; same = λ x y l m. refl }

-- ---- a leaf

module _ (most : ℕ) (low : most ≤ 255) (states : ℕ → ℕ → ℕ) (few : (x y : ℕ) → states x y ≤ most) where
  abbrev shifted : ℕ → ℕ → ℕ → ℕ → ℕ
  shifted column row x y = states (column + x) (row + y)

  shifted_same : (column row x y column' row' x' y' : ℕ) → column + x ≡ column' + x' → row + y ≡ row' + y' → shifted column row x y ≡ shifted column' row' x' y'
  shifted_same column row x y column' row' x' y' e f = ap (λ n. states n (row + y)) e ∙ ap (states (column' + x')) f

  tree_shows : (k column row : ℕ) → Shows most k (tree_at states k column row) (shifted column row)
  tree_shows zero column row =
      let p = point_shows most (states column row) low (few column row) in
      record {
        depth_is = refl;
        full = p.full;
        states = p.states;
        same = λ x y l m. ap (λ n. states n row) (no_more column x l) ∙ ap (states (column + x)) (no_more row y m);
      }
    where
      no_more : (n x : ℕ) → x < 2 ^ 0 → n ≡ n + x
      no_more n x h = omega arith
  tree_shows (suc k) column row =
      let a = tree_shows k column row in
      let b = tree_shows k (column + 2 ^ k) row in
      let c = tree_shows k column (row + 2 ^ k) in
      let d = tree_shows k (column + 2 ^ k) (row + 2 ^ k) in
      record {
        depth_is = ap suc a.depth_is;
        full = (a.full, b.full, c.full, d.full, b.depth_is ∙ sym a.depth_is, c.depth_is ∙ sym a.depth_is, d.depth_is ∙ sym a.depth_is);
        states = (a.states, b.states, c.states, d.states);
        same = λ x y l m.
            state_in k (tree_at states k column row) (tree_at states k (column + 2 ^ k) row) (tree_at states k column (row + 2 ^ k))
            (tree_at states k (column + 2 ^ k) (row + 2 ^ k)) a.depth_is x y
            ∙ by x y l m a b c d (nat_lt y (2 ^ k)) (nat_lt x (2 ^ k)) refl refl;
      }
    where
      back : (n x : ℕ) → nat_lt x (2 ^ k) ≡ false → n + 2 ^ k + (x - 2 ^ k) ≡ n + x
      back n x h = let l : 2 ^ k ≤ x = ltb-false x (2 ^ k) h in omega arith

      by : (x y : ℕ) → x < 2 ^ suc k → y < 2 ^ suc k
          → Shows most k (tree_at states k column row) (shifted column row)
          → Shows most k (tree_at states k (column + 2 ^ k) row) (shifted (column + 2 ^ k) row)
          → Shows most k (tree_at states k column (row + 2 ^ k)) (shifted column (row + 2 ^ k))
          → Shows most k (tree_at states k (column + 2 ^ k) (row + 2 ^ k)) (shifted (column + 2 ^ k) (row + 2 ^ k))
          → (v w : Bool) → nat_lt y (2 ^ k) ≡ v → nat_lt x (2 ^ k) ≡ w
          → chosen (state_at (tree_at states k column row) x y) (state_at (tree_at states k (column + 2 ^ k) row) (x - 2 ^ k) y)
          (state_at (tree_at states k column (row + 2 ^ k)) x (y - 2 ^ k)) (state_at (tree_at states k (column + 2 ^ k) (row + 2 ^ k)) (x - 2 ^ k) (y - 2 ^ k))
          v w
          ≡ shifted column row x y
      by x y l m a b c d true true e f = a.same x y (ltb-true x (2 ^ k) f) (ltb-true y (2 ^ k) e)
      by x y l m a b c d true false e f =
          b.same (x - 2 ^ k) y (rest-of k x l f) (ltb-true y (2 ^ k) e) ∙ shifted_same (column + 2 ^ k) row (x - 2 ^ k) y column row x y (back column x f) refl
      by x y l m a b c d false true e f =
          c.same x (y - 2 ^ k) (ltb-true x (2 ^ k) f) (rest-of k y m e) ∙ shifted_same column (row + 2 ^ k) x (y - 2 ^ k) column row x y refl (back row y e)
      by x y l m a b c d false false e f =
          d.same (x - 2 ^ k) (y - 2 ^ k) (rest-of k x l f) (rest-of k y m e)
          ∙ shifted_same (column + 2 ^ k) (row + 2 ^ k) (x - 2 ^ k) (y - 2 ^ k) column row x y (back column x f) (back row y e)

bit_small : (rows : List ℕ) (x y : ℕ) → leaf_cell rows x y ≤ 1
bit_small rows x y = omega arith

leaf_shows : (most : ℕ) → 1 ≤ most → most ≤ 255 → (rows : List ℕ) → Shows most 3 (leaf_tree rows) (leaf_cell rows)
leaf_shows most some low rows =
    let t = tree_shows most low (leaf_cell rows) (λ x y. omega (arith, bit_small rows x y)) 3 0 0 in
    record {
      depth_is = t.depth_is;
      full = t.full;
      states = t.states;
      same = λ x y l m. t.same x y l m ∙ shifted_same most low (leaf_cell rows) (λ x y. omega (arith, bit_small rows x y)) 0 0 x y x y 0 0 (omega arith)
          (omega arith)
          ∙ ap (λ n. leaf_cell rows n (y + 0)) (add-zero x) ∙ ap (leaf_cell rows x) (add-zero y);
    }

-- ---- the line of a number

-- the line of a place among the first ones
get_take : (lines : List Line) (m i : ℕ) → i < m → slice_get (take m lines) i ≡ slice_get lines i
get_take lines zero i h = absurd (omega arith)
get_take [] (suc m) i h = refl
get_take (line ∷ lines) (suc m) zero h = refl
get_take (line ∷ lines) (suc m) (suc i) h = get_take lines m i (omega arith)

-- the line of a number has this level
abbrev HasLevel : List Line → ℕ → ℕ → Type 0
HasLevel lines level i = (line : Line) × (slice_get lines i ≡ Some line) × (level_of line ≡ level)

found : (lines : List Line) (m i level : ℕ) → is_level level (slice_get (map level_of (take m lines)) i) ≡ true → (i < m) × HasLevel lines level i
found lines zero i level h = cc
found [] (suc m) i level h = cc
found (line ∷ lines) (suc m) zero level h = (omega arith, (line, refl, eqb-true (level_of line) level h))
found (line ∷ lines) (suc m) (suc i) level h = let r = found lines m i level h in (omega (arith, r.0), r.1)

-- What a number at level k of a file may be: a state at level 0, else 0 or the number of a line of that level.
abbrev Names : ℕ → List Line → ℕ → ℕ → Type 0
Names most lines zero number = number ≤ most
Names most lines (suc k) zero = Unit {0}
Names most lines (suc k) (suc i) = HasLevel lines (suc k) i

-- a quarter of line m
quarter_names : (rule : Rule) (lines : List Line) (m k number : ℕ) → is_quarter rule (map level_of (take m lines)) (suc k) number ≡ true
    → Names (largest_state rule) lines k number × (0 < k → number ≤ m)
quarter_names rule lines m zero number h = (leb-true number (largest_state rule) h, λ some. absurd (omega arith))
quarter_names rule lines m (suc k) zero h = (tt, λ some. omega arith)
quarter_names rule lines m (suc k) (suc i) h =
    let levels = map level_of (take m lines) in
    let f : is_level (suc (suc k) - 1) (slice_get levels i) ≡ true =
    by (suc (suc k) == 1) (suc i == 0) (nat_le (suc i) (largest_state rule)) (is_level (suc (suc k) - 1) (slice_get levels i)) (suc_suc_not_one k)
    (suc_not_zero i) h in
    let g : is_level (suc k) (slice_get levels i) ≡ true = ap (λ n. is_level n (slice_get levels i)) (less k) ∙ f in
    let r = found lines m i (suc k) g in
    (r.1, λ some. omega (arith, r.0))
  where
    by : (v w a b : Bool) → v ≡ false → w ≡ false → cond v a (w || b) ≡ true → b ≡ true
    by v w a b p q h = rw (p, q) at h

    less : (k : ℕ) → suc k ≡ suc (suc k) - 1
    less k = omega arith

-- the square and the cells of level k + 1 for what has a number
abbrev tree_by : List Line → ℕ → Option Line → Tree
tree_by lines k o = elim o [ None ↦ blank (suc k) | Some line ↦ line_tree (tree_of lines k) line ]

abbrev cell_by : List Line → ℕ → Option Line → ℕ → ℕ → ℕ
cell_by lines k o x y = elim o [
  | None ↦ 0
  | Some line ↦ elim line [
    | Leaf rows ↦ leaf_cell rows x y
    | Quad level nw ne sw se ↦ cell_in_node lines k (quarter_at (2 ^ k) x y nw ne sw se) (x % 2 ^ k) (y % 2 ^ k)
  ]
]

pub some_level : (top : ℕ) (rule : Rule) (levels : List ℕ) (line : Line) → IsSquare top rule levels line → 1 ≤ level_of line
some_level top rule levels (Leaf rows) h = omega arith
some_level top rule levels (Quad level a b c d) h = h.0

module _ (top : ℕ) (rule : Rule) (lines : List Line) (valid : AreSquares top rule lines) where
  abbrev most : ℕ
  most = largest_state rule

  -- the number shows its cells, and the lines after that of the number don't matter
  record IsSound (k number : ℕ) : Type 0 where
    shows : Shows most k (tree_of lines k number) (cell_in_node lines k number)
    prefix : (m : ℕ) → (0 < k → number ≤ m) → tree_of (take m lines) k number ≡ tree_of lines k number

  -- a line of level k + 1, from what its quarters stand for
  sound_line : (k i : ℕ) (line : Line) → level_of line ≡ suc k → slice_get lines i ≡ Some line → IsSquare top rule (map level_of (take i lines)) line
      → ((number : ℕ) → is_quarter rule (map level_of (take i lines)) (suc k) number ≡ true → IsSound k number × (0 < k → number ≤ i)) → IsSound (suc k) (suc i)
  sound_line k i (Leaf rows) e g is below =
      let two : 2 ≡ k = omega (arith, e) in
      let P : ℕ → Type 0 = λ n. Shows most (suc n) (leaf_tree rows) (leaf_cell rows) in
      let Q : Option Line → Type 0 = λ o. Shows most (suc k) (tree_by lines k o) (cell_by lines k o) in
      record {
        shows = subst Q (sym g) (subst P two (leaf_shows most (few_states rule).0 (few_states rule).1 rows));
        prefix = λ m some. ap (tree_by (take m lines) k) (get_take lines m i (omega (arith, some (omega arith))) ∙ g) ∙ sym (ap (tree_by lines k) g);
      }
  sound_line k i (Quad level a b c d) e g is below =
      let levels = map level_of (take i lines) in
      let four : list_all (is_quarter rule levels (suc k)) (a ∷ b ∷ c ∷ d ∷ []) ≡ true = ap (λ n. list_all (is_quarter rule levels n) (a ∷ b ∷ c ∷ d ∷ []))
      (sym e) ∙ is.2 in
      let q = all_four (is_quarter rule levels (suc k) a) (is_quarter rule levels (suc k) b) (is_quarter rule levels (suc k) c)
      (is_quarter rule levels (suc k) d) four in
      let nw = below a q.0 in
      let ne = below b q.1 in
      let sw = below c q.2 in
      let se = below d q.3 in
      let Q : Option Line → Type 0 = λ o. Shows most (suc k) (tree_by lines k o) (cell_by lines k o) in
      record {
        shows = subst Q (sym g) (quad_shows most k (tree_of lines k) (cell_in_node lines k) a b c d nw.0.shows ne.0.shows sw.0.shows se.0.shows);
        prefix = λ m some.
            let l : i < m = omega (arith, some (omega arith)) in
            ap (tree_by (take m lines) k) (get_take lines m i l ∙ g)
            ∙ same_quads (nw.0.prefix m (λ h. omega (arith, nw.1 h))) (ne.0.prefix m (λ h. omega (arith, ne.1 h))) (sw.0.prefix m (λ h. omega (arith, sw.1 h)))
            (se.0.prefix m (λ h. omega (arith, se.1 h)))
            ∙ sym (ap (tree_by lines k) g);
      }

  sound : (k number : ℕ) → Names most lines k number → IsSound k number
  sound zero number h = record { shows = point_shows most number (few_states rule).1 h; prefix = λ m some. refl }
  sound (suc k) zero h = record { shows = blank_shows most (suc k); prefix = λ m some. refl }
  sound (suc k) (suc i) h =
      sound_line k i h.0 h.2 h.1 (valid i h.0 h.1) (λ number q. let n = quarter_names rule lines i k number q in (sound k number n.0, n.1))

  sound_at : (i : ℕ) (line : Line) → slice_get lines i ≡ Some line → (level : ℕ) → level_of line ≡ level → IsSound level (suc i)
  sound_at i line g zero e = absurd (omega (arith, some_level top rule (map level_of (take i lines)) line (valid i line g)))
  sound_at i line g (suc k) e = sound (suc k) (suc i) (line, g, e)

  stands : (level number : ℕ) → IsSound level number → StandsForSquare rule lines level number
  stands level number s = record {
    depth_is = s.shows.depth_is;
    full = s.shows.full;
    states = s.shows.states;
    cells = s.shows.same;
    by_prefix = s.prefix number (λ h. omega arith);
  }

  each_stands : (number : ℕ) (line : Line) → item_of_number lines number ≡ Some line → StandsForSquare rule lines (level_of line) number
  each_stands zero line g = cc
  each_stands (suc i) line g = stands (level_of line) (suc i) (sound_at i line g (level_of line) refl)

-- ---- the cells of the plane

pub root_at : (line : Line) (lines : List Line) → HasLevel (line ∷ lines) (root_level (line ∷ lines)) (length lines)
root_at line [] = (line, refl, refl)
root_at line (next ∷ lines) = let r = root_at next lines in (r.0, r.1, r.2)

in_pairs : (p q r s : Bool) → (p && q && r && s) ≡ ((p && q) && (r && s))
in_pairs true true r s = refl
in_pairs true false r s = refl
in_pairs false q r s = refl

abbrev at_depth : Tree → ℤ → ℤ → ℕ → ℕ
at_depth tree x y d =
    let h = pos (2 ^ (d - 1)) in
    cond (int_le (neg_ℤ h) x && int_lt x h && int_le (neg_ℤ h) y && int_lt y h) (state_at tree (unsigned_abs (x +ℤ h)) (unsigned_abs (y +ℤ h))) 0

module _ (most level : ℕ) (some : 1 ≤ level) (tree : Tree) (lines : List Line) (t : Shows most level tree (cell_in_node lines level (length lines))) where
  abbrev half : ℕ
  half = 2 ^ (level - 1)

  whole : 2 ^ level ≡ half + half
  whole = let e : suc (level - 1) ≡ level = omega arith in ap (λ n. 2 ^ n) (sym e) ∙ double (level - 1)

  abbrev within : ℤ → Bool
  within x = int_le (neg_ℤ (pos half)) x && int_lt x (pos half)

  abbrev when : Bool → Bool → ℕ → ℕ
  when v w n = cond (v && w) n 0

  same_when : (v w : Bool) (m n : ℕ) → (v ≡ true → w ≡ true → m ≡ n) → when v w m ≡ when v w n
  same_when true true m n h = h refl refl
  same_when true false m n h = refl
  same_when false w m n h = refl

  no_second : (v w : Bool) (n : ℕ) → w ≡ false → 0 ≡ when v w n
  no_second v true n h = cc
  no_second true false n h = refl
  no_second false false n h = refl

  from_corner : (x y a b : ℤ) → x +ℤ pos half ≡ a → y +ℤ pos half ≡ b
      → cell_from lines level a b ≡ when (within x) (within y) (state_at tree (unsigned_abs a) (unsigned_abs b))
  from_corner x y (pos c) (pos r) e f =
      let v : within x ≡ nat_lt c (2 ^ level) = in_span x half c e ∙ ap (nat_lt c) (sym whole) in
      let w : within y ≡ nat_lt r (2 ^ level) = in_span y half r f ∙ ap (nat_lt r) (sym whole) in
      same_when (nat_lt c (2 ^ level)) (nat_lt r (2 ^ level)) (cell_in_node lines level (length lines) c r) (state_at tree c r)
      (λ p q. sym (t.same c r (ltb-true c (2 ^ level) p) (ltb-true r (2 ^ level) q)))
      ∙ ap (λ u. when u (nat_lt r (2 ^ level)) (state_at tree c r)) (sym v) ∙ ap (λ u. when (within x) u (state_at tree c r)) (sym w)
  from_corner x y (pos c) (negsuc r) e f = no_second (within x) (within y) _ (out_of_span y half r f)
  from_corner x y (negsuc c) b e f = ap (λ u. when u (within y) (state_at tree (unsigned_abs (negsuc c)) (unsigned_abs b))) (sym (out_of_span x half c e))

  on_plane : (x y : ℤ) → cell_from lines level (x +ℤ pos half) (y +ℤ pos half) ≡ tree_cell tree x y
  on_plane x y =
      from_corner x y (x +ℤ pos half) (y +ℤ pos half) refl refl
      ∙ sym (ap (λ v. cond v (state_at tree (unsigned_abs (x +ℤ pos half)) (unsigned_abs (y +ℤ pos half))) 0)
      (in_pairs (int_le (neg_ℤ (pos half)) x) (int_lt x (pos half)) (int_le (neg_ℤ (pos half)) y) (int_lt y (pos half))))
      ∙ ap (at_depth tree x y) (sym t.depth_is)

either : (v : Bool) (n : ℕ) → cond v n n ≡ n
either true n = refl
either false n = refl

plane : (top : ℕ) (rule : Rule) (generation : ℕ) (lines : List Line) → AreSquares top rule lines → (x y : ℤ)
    → macrocell_cell (record { rule = rule; generation = generation; lines = lines }) x y ≡ tree_cell (root_tree lines) x y
plane top rule generation [] valid x y =
    let h = pos (2 ^ (0 - 1)) in
    let none : macrocell_cell (record { rule = rule; generation = generation; lines = [] }) x y ≡ 0 = refl in
    none ∙ sym (either (int_le (neg_ℤ h) x && int_lt x h && int_le (neg_ℤ h) y && int_lt y h) 0)
plane top rule generation (line ∷ lines) valid x y =
    let r = root_at line lines in
    let level = root_level (line ∷ lines) in
    let some : 1 ≤ level = omega (arith, some_level top rule (map level_of (take (length lines) (line ∷ lines))) r.0 (valid (length lines) r.0 r.1), r.2) in
    on_plane (largest_state rule) level some (root_tree (line ∷ lines)) (line ∷ lines)
    (sound_at top rule (line ∷ lines) valid (length lines) r.0 r.1 level r.2).shows x y

root_stands : (top : ℕ) (rule : Rule) (lines : List Line) → AreSquares top rule lines → StandsForSquare rule lines (root_level lines) (length lines)
root_stands top rule [] valid = record { depth_is = refl; full = omega arith; states = omega arith; cells = λ x y l m. refl; by_prefix = refl }
root_stands top rule (line ∷ lines) valid =
    let r = root_at line lines in
    let level = root_level (line ∷ lines) in
    stands top rule (line ∷ lines) valid level (length (line ∷ lines)) (sound_at top rule (line ∷ lines) valid (length lines) r.0 r.1 level r.2)

pub lines_stand_for_squares : (top : ℕ) → LinesStandForSquares top
lines_stand_for_squares top = λ file v. record {
  each = each_stands top file.rule file.lines v.squares;
  root = root_stands top file.rule file.lines v.squares;
  plane = plane top file.rule file.generation file.lines v.squares;
}
