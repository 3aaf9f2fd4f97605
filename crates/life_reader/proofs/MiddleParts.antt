-- The squares of the plane that are needed for the square about (0, 0) are parts of it.
use Rattle.std.proofs.Common.{◌≡◌, ℕ, suc, ◌+◌, ◌-◌, ◌*◌, ◌^◌, ◌<◌, ◌≤◌, true, false, refl, ap, sym, ◌∙◌, subst, arith, inl, inr, ℤ, pos, ◌-ℤ◌, pow-add}
use Rattle.std.proofs.lemmas.Bool.{cases_lt}
use Rattle.std.proofs.lemmas.Int.{ints}
use Rattle.std.proofs.Math.Nat.{add-mul, mul-le-mul_left, mul_comm}
use Rattle.std.proofs.Math.Pow.{pow_mono}
use Rattle.life_base.specs.declared.cell.TheConstants.{MAX_LEVEL}
use Rattle.life_base.specs.Tree.{Tree, depth, tree_cell, is_blank_tree, state_at, IsFull}
use Rattle.life_base.proofs.Basics.{true_false, twice, zero_unless}
use Rattle.life_quad.specs.Refused.{SomePart}
use Rattle.life_quad.proofs.LawLemmas.{blank_by_cells}
use Rattle.life_strip.specs.Given.{by_columns, half_plane}
use Rattle.life_strip.specs.Middle.{AreSouth}
use Rattle.life_strip.specs.Needed.{SomeSquare}
use Rattle.life_strip.proofs.NeededLemmas.{SomeSquare-within}
use Rattle.life_reader.specs.Needs.{grown_times}
use Rattle.life_pattern.specs.Universe.{centred_square}
use Rattle.life_reader.proofs.Middles.{part-of-many}
use Rattle.life_reader.proofs.NeedFacts.{grown-centred, is-centred}
use Rattle.life_reader.proofs.PlaneParts.{plane-part}
use Rattle.life_reader.proofs.SpaceTrees.{low_level}
use Rattle.life_pattern.proofs.TreeWords.{below_top}

-- a square with a cell in the southern half that ends where the square about (0, 0) does, is lower
south-low : (d row j n : ℕ) → n < MAX_LEVEL → 1 ≤ n → d ≤ MAX_LEVEL → half_plane ≤ row * 2 ^ d + j → j < 2 ^ d
    → (row + 1) * 2 ^ d ≤ half_plane + 2 ^ (n - 1) → d < n
south-low d row j n high some low from within south = elim (cases_lt d n) [
  | inl lt ↦ lt
  | inr le ↦ elim (cases_lt d MAX_LEVEL) [
    | inl below ↦
        (let side : ℕ = 2 ^ d in
        let places : ℕ = 2 ^ (MAX_LEVEL - 1 - d) in
        let sum : MAX_LEVEL - 1 - d + d ≡ MAX_LEVEL - 1 = omega (arith, below) in
        let half : places * side ≡ half_plane = sym (pow-add 2 (MAX_LEVEL - 1 - d) d) ∙ ap (λ k. 2 ^ k) sum in
        let p = pow_mono {i = suc (n - 1)} {j = d} (omega (arith, le, some)) in
        let t = twice (n - 1) in
        let one = add-mul row 1 side in
        elim (cases_lt row places) [
          | inl before ↦
              (let most : side * (row + 1) ≤ side * places = mul-le-mul_left side (omega (arith, before)) in
              let x = mul_comm side (row + 1) in
              let y = mul_comm side places in
              absurd (omega (arith, most, x, y, half, one, from, within)))
          | inr after ↦
              (let least : side * (places + 1) ≤ side * (row + 1) = mul-le-mul_left side (omega (arith, after)) in
              let x = mul_comm side (row + 1) in
              let y = mul_comm side (places + 1) in
              let z = add-mul places 1 side in
              let q = positive-side (n - 1) in
              absurd (omega (arith, least, x, y, z, half, south, p, t, q)))
        ])
    | inr above ↦
        (let p = pow_mono {i = MAX_LEVEL} {j = d} above in
        let q = pow_mono {i = n - 1} {j = MAX_LEVEL - 2} (omega (arith, high)) in
        let one = add-mul row 1 (2 ^ d) in
        absurd (omega (arith, p, q, one, south)))
  ]
]
  where
    positive-side : (k : ℕ) → 0 < 2 ^ k
    positive-side k = let p = pow_mono {i = 0} {j = k} (omega arith) in omega (arith, p)

-- the square about (0, 0) with these cells, from which every cell is not north where it isn't the plane
pub record IsRoot (f : ℤ → ℤ → ℕ) (n : ℕ) (r : Tree) : Type 0 where
  pub full : IsFull r
  pub deep : depth r ≡ n
  pub low : 3 ≤ n
  pub high : n ≤ MAX_LEVEL
  pub south : n < MAX_LEVEL → AreSouth n f
  pub cells : (x y : ℤ) → tree_cell r x y ≡ f x y

pub square-in-root : (f : ℤ → ℤ → ℕ) (n : ℕ) (r t : Tree) → IsRoot f n r → is_blank_tree t ≡ false
    → SomeSquare (λ v. v ≡ t) (half_plane + 2 ^ (n - 1)) (by_columns f) → SomePart (λ v. v ≡ t) r
square-in-root f n r t is live s = elim (cases_lt n MAX_LEVEL) [
  | inl lt ↦ part-of-many (below_top - k) r t is.full live (let d = is.deep in let l = lower lt in omega (arith, d, l))
      (subst (SomePart (λ v. v ≡ t)) (sym grown) whole)
  | inr le ↦ (let h = is.high in let same : suc k ≡ suc below_top = omega (arith, le, h, level) in
      subst (SomePart (λ v. v ≡ t)) (sym (centred ∙ ap (centred_square f) same)) whole)
]
  where
    k : ℕ
    k = n - 1

    level : n ≡ suc (n - 1)
    level = let l = is.low in omega (arith, l)

    rows : half_plane + 2 ^ (n - 1) ≤ 2 ^ MAX_LEVEL
    rows = let h = is.high in let p = pow_mono {i = n - 1} {j = MAX_LEVEL - 1} (omega (arith, h)) in omega (arith, p)

    whole : SomePart (λ v. v ≡ t) (centred_square f (suc below_top))
    whole = plane-part f t (SomeSquare-within rows (λ i j li lj. refl) s)

    centred : r ≡ centred_square f (suc (n - 1))
    centred = (is-centred f r (n - 1) is.full (is.deep ∙ level) is.cells).0

    grown : grown_times (below_top - (n - 1)) r ≡ centred_square f (suc below_top)
    grown =
        let h = is.high in
        let c = is-centred f r (n - 1) is.full (is.deep ∙ level) is.cells in
        let sum : suc (below_top - (n - 1) + (n - 1)) ≡ suc below_top = omega (arith, h) in
        grown-centred f (below_top - (n - 1)) (n - 1) r c.0 c.1 ∙ ap (centred_square f) sum

    lower : n < MAX_LEVEL → depth t < n
    lower lt = elim (cases_lt (depth t) n) [ inl less ↦ less | inr le ↦ absurd (true_false (is_blank_tree s.square) (blank le) alive) ]
      where
        alive : is_blank_tree s.square ≡ false
        alive = ap is_blank_tree s.property ∙ live

        blank : n ≤ depth t → is_blank_tree s.square ≡ true
        blank le = (blank_by_cells s.square s.full).1 (λ i j li lj.
            zero_unless (state_at s.square i j) (λ some.
            let side = 2 ^ depth s.square in
            let north = (is.south lt (pos (s.column * side + i) -ℤ pos half_plane) (pos (s.row * side + j) -ℤ pos half_plane)
            (λ z. some (s.cells i j li lj ∙ z))).north in
            let l = is.low in
            let d = ap depth s.property in
            let found = south-low (depth s.square) s.row j n lt (omega (arith, l)) (low_level (depth s.square) s.column s.east) (omega (arith, ints, north))
            lj s.south in
            omega (arith, d, found, le)))
