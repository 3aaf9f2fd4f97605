-- The nonzero cells of a square on the plane.
use Rattle.std.proofs.Common.{◌≡◌, ◌≢◌, ℕ, ◌+◌, ◌^◌, ◌≤◌, ◌<◌, Bool, true, false, ℤ, pos, ◌+ℤ◌, ◌-ℤ◌, ◌≤ℤ◌, refl, sym, ◌∙◌, arith}
use Rattle.std.proofs.lemmas.Int.{ints}
use Rattle.life_base.specs.Tree.{Tree, depth, state_at, half_side, tree_cell as cell}
use Rattle.life_base.specs.declared.bounds.Bounds.{Bounds}
use Rattle.life_quad.specs.Cells.{IsBoundingBoxOfTree}
use Rattle.life_quad.specs.Distances.{IsNonzeroAt}
use Rattle.life_quad.proofs.DistanceLemmas.{IsLeastWithin}
use Rattle.life_base.proofs.Squares.{is_inside, inside_facts, inside_test, inside_offset, cell_inside, cell_outside}
use Rattle.life_base.proofs.Basics.{halves}

-- a pair has these distances from the west and the north side
pub record IsPlace (half : ℕ) (x y : ℤ) (n m : ℕ) : Type 0 where
  pub column : x +ℤ pos half ≡ pos n
  pub row : y +ℤ pos half ≡ pos m

-- the state of a pair that is in the square
pub cell_at : (t : Tree) (x y : ℤ) (n m : ℕ) → 1 ≤ depth t → IsPlace (half_side t) x y n m → n < 2 ^ depth t → m < 2 ^ depth t → cell t x y ≡ state_at t n m
cell_at t x y n m high p ln lm =
    cell_inside t x y n m (inside_test h x y
    (record {
      west = omega (arith, ints, p.column);
      east = omega (arith, ints, p.column, twice, ln);
      north = omega (arith, ints, p.row);
      south = omega (arith, ints, p.row, twice, lm);
    })) p.column p.row
  where
    h : ℕ
    h = half_side t

    twice : half_side t + half_side t ≡ 2 ^ depth t
    twice = halves (depth t) high

pub nonzero_on_plane : (t : Tree) (x y : ℤ) (n m : ℕ) → 1 ≤ depth t → IsPlace (half_side t) x y n m → IsNonzeroAt t n m → cell t x y ≢ 0
nonzero_on_plane t x y n m high p k e = k.state (sym (cell_at t x y n m high p k.column k.row) ∙ e)

-- each pair with a state is in the square
pub place_of : (t : Tree) (x y : ℤ) → 1 ≤ depth t → cell t x y ≢ 0 → (n : ℕ) × (m : ℕ) × IsPlace (half_side t) x y n m × IsNonzeroAt t n m
place_of t x y high nonzero = by (is_inside (half_side t) x y) refl
  where
    by : (b : Bool) → is_inside (half_side t) x y ≡ b → (n : ℕ) × (m : ℕ) × IsPlace (half_side t) x y n m × IsNonzeroAt t n m
    by false e = absurd (nonzero (cell_outside t x y e))
    by true e =
        let k = inside_facts (half_side t) x y e in
        let twice = halves (depth t) high in
        let a = inside_offset (half_side t) x k.west k.east in
        let b = inside_offset (half_side t) y k.north k.south in
        let la = a.2 in
        let lb = b.2 in (
          a.0,
          b.0,
          record { column = a.1; row = b.1 },
          record { column = omega (arith, twice, la); row = omega (arith, twice, lb); state = λ z. nonzero (cell_inside t x y a.0 b.0 e a.1 b.1 ∙ z) },
        )

pub back : (n h : ℕ) → (pos n -ℤ pos h) +ℤ pos h ≡ pos n
back n h = omega (arith, ints)

-- the box on the plane of a box within the square
pub least_box : (t : Tree) (west north east south : ℕ) (b : Bounds) → 1 ≤ depth t → IsLeastWithin t west north east south
    → b.left +ℤ pos (half_side t) ≡ pos west → b.top +ℤ pos (half_side t) ≡ pos north → b.right +ℤ pos (half_side t) ≡ pos east
    → b.bottom +ℤ pos (half_side t) ≡ pos south
    → IsBoundingBoxOfTree t b
least_box t west north east south b high k left top right bottom =
    record {
      inside = within;
      at_left = (pos k.at_left.0 -ℤ pos (half_side t), nonzero_on_plane t _ _ _ _ high (record { column = left; row = back _ _ }) k.at_left.1);
      at_right = (pos k.at_right.0 -ℤ pos (half_side t), nonzero_on_plane t _ _ _ _ high (record { column = right; row = back _ _ }) k.at_right.1);
      at_top = (pos k.at_top.0 -ℤ pos (half_side t), nonzero_on_plane t _ _ _ _ high (record { column = back _ _; row = top }) k.at_top.1);
      at_bottom = (pos k.at_bottom.0 -ℤ pos (half_side t), nonzero_on_plane t _ _ _ _ high (record { column = back _ _; row = bottom }) k.at_bottom.1);
    }
  where
    within : (x y : ℤ) → cell t x y ≢ 0 → (b.left ≤ℤ x) × (x ≤ℤ b.right) × (b.top ≤ℤ y) × (y ≤ℤ b.bottom)
    within x y nonzero =
        let place = place_of t x y high nonzero in
        let i = k.inside place.0 place.1 place.3 in
        let c = place.2.column in
        let r = place.2.row in
        let l = i.0 in let m = i.1 in let u = i.2 in let v = i.3 in
        (omega (arith, ints, c, left, l), omega (arith, ints, c, right, m), omega (arith, ints, r, top, u), omega (arith, ints, r, bottom, v))
