-- Which square about (0, 0) the cells of an RLE file are put into.
use Rattle.std.proofs.Common.{◌≡◌, ◌⊎◌, ℕ, zero, suc, ◌+◌, ◌-◌, ◌*◌, ◌^◌, ◌<◌, ◌≤◌, true, false, refl, ap, sym, ◌∙◌, arith, inl, inr, ℤ, pos, ◌-ℤ◌}
use Rattle.std.proofs.lemmas.Bool.{cases_lt}
use Rattle.std.proofs.lemmas.Int.{ints}
use Rattle.std.proofs.Math.Pow.{pow_mono}
use Rattle.life_base.specs.declared.cell.TheConstants.{MAX_LEVEL}
use Rattle.life_base.specs.Tree.{Tree, depth, half_side, tree_cell, is_blank_tree, state_at, IsFull}
use Rattle.life_base.proofs.Basics.{true_false, twice}
use Rattle.life_base.proofs.Squares.{cell_inside, inside_test, is_inside}
use Rattle.life_quad.specs.Moves.{grown_square, trimmed_square}
use Rattle.life_quad.proofs.LawLemmas.{blank_by_cells, cells_lie_inside, depth_grown, equal_by_plane, trimmed_is_fixed, trimming_ignores_growth, trimming_keeps_cells, trimming_stops}
use Rattle.life_strip.specs.Given.{by_columns, half_plane}
use Rattle.life_strip.specs.Middle.{AreSouth, IsLeastSouth, SomeAboutMiddle, SomeSouth}
use Rattle.life_strip.specs.Needed.{SomeSquare}
use Rattle.life_strip.proofs.NeededLemmas.{SomeSquare-within}
use Rattle.life_reader.specs.Needs.{grown_times}
use Rattle.life_pattern.specs.Universe.{centred_square}
use Rattle.life_reader.proofs.Middles.{full-grown}
use Rattle.life_reader.proofs.MiddleParts.{IsRoot}
use Rattle.life_reader.proofs.NeedFacts.{grown-centred, is-centred}
use Rattle.life_pattern.proofs.TreeWords.{below_top}

-- ---- where there are no cells, no square has one

none-on-plane : (f : ℤ → ℤ → ℕ) (t : Tree) (rows : ℕ) → ((x y : ℤ) → f x y ≡ 0) → is_blank_tree t ≡ false
    → SomeSquare (λ v. v ≡ t) rows (by_columns f) → ⊥
none-on-plane f t rows none live s =
    true_false (is_blank_tree s.square) ((blank_by_cells s.square s.full).1 (λ i j li lj. s.cells i j li lj ∙ none _ _)) (ap is_blank_tree s.property ∙ live)

-- a cell of a square by its column and its row
pub cell-of : (t : Tree) (i j : ℕ) → 1 ≤ depth t → i < 2 ^ depth t → j < 2 ^ depth t
    → tree_cell t (pos i -ℤ pos (half_side t)) (pos j -ℤ pos (half_side t)) ≡ state_at t i j
cell-of t i j deep li lj =
    let h = half_side t in
    let two : 2 ^ depth t ≡ 2 * h = (let one : depth t ≡ suc (depth t - 1) = omega (arith, deep) in ap (λ n. 2 ^ n) one ∙ twice (depth t - 1)) in
    let x = pos i -ℤ pos h in
    let y = pos j -ℤ pos h in
    let inside : is_inside h x y ≡ true = inside_test h x y
    (record {
      west = omega (arith, ints);
      east = omega (arith, ints, li, two);
      north = omega (arith, ints);
      south = omega (arith, ints, lj, two);
    }) in
    cell_inside t x y i j inside (omega (arith, ints)) (omega (arith, ints))

pub none-in-square : (f : ℤ → ℤ → ℕ) (t : Tree) → IsFull t → 1 ≤ depth t → ((x y : ℤ) → tree_cell t x y ≡ f x y) → ((x y : ℤ) → f x y ≡ 0)
    → is_blank_tree t ≡ false → ⊥
none-in-square f t full deep cells none live =
    true_false (is_blank_tree t) ((blank_by_cells t full).1 (λ i j li lj. sym (cell-of t i j deep li lj) ∙ cells _ _ ∙ none _ _)) live

-- ---- a square of these cells is that of the root

-- the squares that are needed are of no higher level
pub about-rows : (f : ℤ → ℤ → ℕ) (n : ℕ) (r t : Tree) → IsRoot f n r → IsLeastSouth n f → is_blank_tree t ≡ false → SomeAboutMiddle (λ v. v ≡ t) f
    → SomeSquare (λ v. v ≡ t) (half_plane + 2 ^ (n - 1)) (by_columns f) ⊎ (r ≡ t)
about-rows f n r t is least live s = elim s.some [
  | inl rest ↦ inl (SomeSquare-within
      (let p = pow_mono {i = s.level - 1} {j = n - 1} (let l = up-to (λ none. none-on-plane f t _ none live rest) in omega (arith, l)) in omega (arith, p))
      (λ i j li lj. refl) rest)
  | inr whole ↦ inr (same whole)
]
  where
    up-to : (((x y : ℤ) → f x y ≡ 0) → ⊥) → s.level ≤ n
    up-to some = elim (cases_lt n s.level) [
      | inl lt ↦ (let h = s.high in absurd (some (s.least n is.low lt (is.south (omega (arith, lt, h))))))
      | inr le ↦ le
    ]

    same : SomeSouth (λ v. v ≡ t) s.level f → r ≡ t
    same whole =
        let low = s.low in
        let deep = whole.deep in
        let e : whole.square ≡ t = whole.property in
        let some : ((x y : ℤ) → f x y ≡ 0) → ⊥ =
        (λ none. none-in-square f whole.square whole.full (omega (arith, deep, low)) whole.cells none (ap is_blank_tree e ∙ live)) in
        let above = up-to some in
        let below : n ≤ s.level = elim (cases_lt s.level n) [ inl lt ↦ absurd (some (least s.level low lt whole.south)) | inr le ↦ le ] in
        let d = is.deep in
        equal_by_plane r whole.square is.full whole.full (omega (arith, d, deep, above, below)) (λ x y. is.cells x y ∙ sym (whole.cells x y)) ∙ e

-- ---- it is the plane's square, trimmed down to level 3, or the plane's

trimmed-many : (n : ℕ) (t : Tree) → IsFull t → 3 ≤ depth t → trimmed_square (grown_times n t) 3 ≡ trimmed_square t 3
trimmed-many zero t full deep = refl
trimmed-many (suc n) t full deep =
    let d = depth_grown t (omega (arith, deep)) in
    trimmed-many n (grown_square t) (full-grown t full) (omega (arith, d, deep)) ∙ trimming_ignores_growth t 3 full (omega arith) deep

pub south-trimmed : (f : ℤ → ℤ → ℕ) (n : ℕ) (t : Tree) → 3 ≤ n → n ≤ MAX_LEVEL → IsLeastSouth n f → IsFull t → depth t ≡ n
    → ((x y : ℤ) → tree_cell t x y ≡ f x y) → AreSouth n f → is_blank_tree t ≡ false → trimmed_square (centred_square f MAX_LEVEL) 3 ≡ t
south-trimmed f n t low high least full deep cells south live =
    ap (λ s. trimmed_square s 3) (sym grown) ∙ trimmed-many (below_top - (n - 1)) t full (omega (arith, deep, low)) ∙ still
  where
    level : n ≡ suc (n - 1)
    level = omega (arith, low)

    grown : grown_times (below_top - (n - 1)) t ≡ centred_square f MAX_LEVEL
    grown =
        let c = is-centred f t (n - 1) full (deep ∙ level) cells in
        let sum : suc (below_top - (n - 1) + (n - 1)) ≡ MAX_LEVEL = omega (arith, high) in
        grown-centred f (below_top - (n - 1)) (n - 1) t c.0 c.1 ∙ ap (centred_square f) sum

    r : Tree
    r = trimmed_square t 3

    still : trimmed_square t 3 ≡ t
    still =
        let stops = trimming_stops t 3 full (omega arith) in
        let fixed = trimmed_is_fixed t 3 full (omega arith) in
        let kept = trimming_keeps_cells t 3 full (omega arith) in
        let least_level = stops.0 (omega (arith, deep, low)) in
        elim (cases_lt (depth (trimmed_square t 3)) n) [
          | inl lt ↦
              absurd (none-in-square f t full (omega (arith, deep, low)) cells
              (least (depth (trimmed_square t 3)) least_level lt (λ x y some.
              let inside = cells_lie_inside (trimmed_square t 3) x y (λ z. some (sym (kept x y ∙ cells x y) ∙ z)) in
              let s = south x y some in
              record { west = inside.0; east = inside.1; north = s.north; south = inside.3 })) live)
          | inr le ↦
              equal_by_plane (trimmed_square t 3) t fixed.0 full (let m = stops.2 in omega (arith, m, deep, le)) kept
        ]

-- the square of the whole plane is one of its squares
pub whole-square : (f : ℤ → ℤ → ℕ) (t : Tree) → IsFull t → depth t ≡ MAX_LEVEL → ((x y : ℤ) → tree_cell t x y ≡ f x y)
    → SomeSquare (λ v. v ≡ t) (2 ^ MAX_LEVEL) (by_columns f)
whole-square f t full deep cells =
    let side = ap (λ n. 2 ^ n) deep in
    let half : half_side t ≡ half_plane = ap (λ n. 2 ^ (n - 1)) deep in
    let col : (i : ℕ) → i ≡ 0 * 2 ^ depth t + i = (λ i. omega arith) in
    record {
      square = t;
      full = full;
      deep = omega (arith, deep);
      column = 0;
      row = 0;
      east = omega (arith, side);
      south = omega (arith, side);
      cells = λ i j li lj. sym (cell-of t i j (omega (arith, deep)) li lj) ∙ (λ k. tree_cell t (pos i -ℤ pos (half k)) (pos j -ℤ pos (half k))) ∙ cells _ _
          ∙ (λ k. by_columns f (col i k) (col j k));
      property = refl;
    }
