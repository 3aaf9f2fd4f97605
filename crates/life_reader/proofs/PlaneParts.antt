-- Each square of the plane is a part of the whole plane's square.
use Rattle.std.proofs.Common.{◌≡◌, ℕ, zero, suc, ◌+◌, ◌-◌, ◌*◌, ◌^◌, ◌<◌, ◌≤◌, ap, sym, ◌∙◌, subst, arith, inl, inr, add-mul, zero-mul, le_of_mul-le-mul_right, ℤ, pos, neg_ℤ, ◌+ℤ◌, ◌-ℤ◌, pow-add, pow_pos}
use Rattle.std.proofs.lemmas.Int.{ints}
use Rattle.life_base.specs.declared.cell.TheConstants.{MAX_LEVEL}
use Rattle.life_base.specs.Tree.{Tree, depth}
use Rattle.life_quad.specs.Refused.{SomePart}
use Rattle.life_strip.specs.Given.{half_plane, by_columns}
use Rattle.life_strip.specs.Needed.{SomeSquare}
use Rattle.life_pattern.specs.Universe.{square, corner, centred_square}
use Rattle.life_pattern.proofs.Planes.{full-depth}
use Rattle.life_reader.proofs.SpaceTrees.{low_level}
use Rattle.life_pattern.proofs.TreeWords.{below_top}
use Rattle.life_pattern.proofs.Trees.{half_cases, square-depth, state_at-square, trees_equal}

-- a square is a part of itself
itself : (P : Tree → Type 0) (f : ℤ → ℤ → ℕ) (k : ℕ) (x y : ℤ) → P (square f (suc k) x y) → SomePart P (square f (suc k) x y)
unfolding square
itself P f k x y p = inl p

-- and so are its quarters' parts
in-nw : (P : Tree → Type 0) (f : ℤ → ℤ → ℕ) (k : ℕ) (x y : ℤ) → SomePart P (square f k x y) → SomePart P (square f (suc k) x y)
unfolding square
in-nw P f k x y p = inr (inl p)

in-ne : (P : Tree → Type 0) (f : ℤ → ℤ → ℕ) (k : ℕ) (x y : ℤ) → SomePart P (square f k (x +ℤ pos (2 ^ k)) y) → SomePart P (square f (suc k) x y)
unfolding square
in-ne P f k x y p = inr (inr (inl p))

in-sw : (P : Tree → Type 0) (f : ℤ → ℤ → ℕ) (k : ℕ) (x y : ℤ) → SomePart P (square f k x (y +ℤ pos (2 ^ k))) → SomePart P (square f (suc k) x y)
unfolding square
in-sw P f k x y p = inr (inr (inr (inl p)))

in-se : (P : Tree → Type 0) (f : ℤ → ℤ → ℕ) (k : ℕ) (x y : ℤ) → SomePart P (square f k (x +ℤ pos (2 ^ k)) (y +ℤ pos (2 ^ k)))
    → SomePart P (square f (suc k) x y)
unfolding square
in-se P f k x y p = inr (inr (inr (inr p)))

-- the columns of the eastern half, counted from its edge
over : (d k m column : ℕ) → m ≡ d + k → 2 ^ d ≤ column → 2 ^ m + (column - 2 ^ d) * 2 ^ k ≡ column * 2 ^ k
over d k m column is le =
    let whole : 2 ^ m ≡ 2 ^ d * 2 ^ k = ap (λ n. 2 ^ n) is ∙ pow-add 2 d k in
    let sum : column ≡ 2 ^ d + (column - 2 ^ d) = omega (arith, le) in
    ap (λ n. n + (column - 2 ^ d) * 2 ^ k) whole ∙ sym (ap (λ n. n * 2 ^ k) sum ∙ add-mul (2 ^ d) (column - 2 ^ d) (2 ^ k))

shift : (x : ℤ) (a b c : ℕ) → a + b ≡ c → x +ℤ pos c ≡ (x +ℤ pos a) +ℤ pos b
shift x a b c e = omega (arith, ints, e)

nothing : (x : ℤ) (column n : ℕ) → column ≡ 0 → x +ℤ pos (column * n) ≡ x
nothing x column n e = let none : column * n ≡ 0 = ap (λ c. c * n) e ∙ zero-mul n in omega (arith, ints, none)

-- the square of a level in a column and a row of a square that is d levels higher
pub part-of-square : (P : Tree → Type 0) (f : ℤ → ℤ → ℕ) (d k m : ℕ) (x y : ℤ) (column row : ℕ) → m ≡ d + suc k → column < 2 ^ d → row < 2 ^ d
    → P (square f (suc k) (x +ℤ pos (column * 2 ^ suc k)) (y +ℤ pos (row * 2 ^ suc k))) → SomePart P (square f m x y)
part-of-square P f zero k m x y column row is lc lr p =
    let level : suc k ≡ m = omega (arith, is) in
    let west = nothing x column (2 ^ suc k) (omega (arith, lc)) in
    let north = nothing y row (2 ^ suc k) (omega (arith, lr)) in
    subst (λ (n : ℕ). SomePart P (square f n x y)) level
    (itself P f k x y (subst (λ (v : ℤ). P (square f (suc k) x v)) north (subst (λ (v : ℤ). P (square f (suc k) v (y +ℤ pos (row * 2 ^ suc k)))) west p)))
part-of-square P f (suc d) k zero x y column row is lc lr p = absurd (omega (arith, is))
part-of-square P f (suc d) k (suc m) x y column row is lc lr p =
    let low : m ≡ d + suc k = omega (arith, is) in
    elim (half_cases d column lc) [
      | inl l ↦ elim (half_cases d row lr) [
        | inl r ↦ in-nw P f m x y (part-of-square P f d k m x y column row low l r p)
        | inr r ↦
            let south = shift y (2 ^ m) ((row - 2 ^ d) * 2 ^ suc k) (row * 2 ^ suc k) (over d (suc k) m row low r.0) in
            in-sw P f m x y (part-of-square P f d k m x (y +ℤ pos (2 ^ m)) column (row - 2 ^ d) low l r.1
            (subst (λ (v : ℤ). P (square f (suc k) (x +ℤ pos (column * 2 ^ suc k)) v)) south p))
      ]
      | inr l ↦
          let east = shift x (2 ^ m) ((column - 2 ^ d) * 2 ^ suc k) (column * 2 ^ suc k) (over d (suc k) m column low l.0) in
          let q = subst (λ (v : ℤ). P (square f (suc k) v (y +ℤ pos (row * 2 ^ suc k)))) east p in
          elim (half_cases d row lr) [
            | inl r ↦ in-ne P f m x y (part-of-square P f d k m (x +ℤ pos (2 ^ m)) y (column - 2 ^ d) row low l.1 r q)
            | inr r ↦
                let south = shift y (2 ^ m) ((row - 2 ^ d) * 2 ^ suc k) (row * 2 ^ suc k) (over d (suc k) m row low r.0) in
                in-se P f m x y (part-of-square P f d k m (x +ℤ pos (2 ^ m)) (y +ℤ pos (2 ^ m)) (column - 2 ^ d) (row - 2 ^ d) low l.1 r.1
                (subst (λ (v : ℤ). P (square f (suc k) ((x +ℤ pos (2 ^ m)) +ℤ pos ((column - 2 ^ d) * 2 ^ suc k)) v)) south q))
          ]
    ]

-- ---- of the whole plane

from-corner : (h a i : ℕ) → (neg_ℤ (pos h) +ℤ pos a) +ℤ pos i ≡ pos (a + i) -ℤ pos h
from-corner h a i = omega (arith, ints)

corner-is : corner (suc below_top) ≡ neg_ℤ (pos half_plane)
unfolding corner
corner-is = λ i. neg_ℤ (pos (2 ^ below_top))

few-columns : (level d column : ℕ) → level + d ≡ MAX_LEVEL → (column + 1) * 2 ^ level ≤ 2 ^ MAX_LEVEL → column < 2 ^ d
few-columns level d column sum le =
    let levels : MAX_LEVEL ≡ d + level = omega (arith, sum) in
    let sides : 2 ^ MAX_LEVEL ≡ 2 ^ d * 2 ^ level = ap (λ n. 2 ^ n) levels ∙ pow-add 2 d level in
    let fits : column + 1 ≤ 2 ^ d = le_of_mul-le-mul_right (subst (λ (n : ℕ). (column + 1) * 2 ^ level ≤ n) sides le) (pow_pos level) in
    omega (arith, fits)

pub plane-part : (f : ℤ → ℤ → ℕ) (t : Tree) → SomeSquare (λ v. v ≡ t) (2 ^ MAX_LEVEL) (by_columns f) → SomePart (λ v. v ≡ t) (centred_square f (suc below_top))
unfolding centred_square
plane-part f t s =
    let level : ℕ = depth s.square in
    let k : ℕ = level - 1 in
    let d : ℕ = MAX_LEVEL - level in
    let low : level ≤ MAX_LEVEL = low_level level s.column s.east in
    let is : level ≡ suc k = omega (arith, s.deep) in
    let sum : level + d ≡ MAX_LEVEL = omega (arith, low) in
    let west : ℤ = corner (suc below_top) +ℤ pos (s.column * 2 ^ level) in
    let north : ℤ = corner (suc below_top) +ℤ pos (s.row * 2 ^ level) in
    let column = λ (i : ℕ). ap (λ (c : ℤ). (c +ℤ pos (s.column * 2 ^ level)) +ℤ pos i) corner-is ∙ from-corner half_plane (s.column * 2 ^ level) i in
    let row = λ (j : ℕ). ap (λ (c : ℤ). (c +ℤ pos (s.row * 2 ^ level)) +ℤ pos j) corner-is ∙ from-corner half_plane (s.row * 2 ^ level) j in
    let same : s.square ≡ square f level west north =
    trees_equal (full-depth s.square s.full) (square-depth f level west north)
    (λ i j li lj. s.cells i j li lj ∙ sym (state_at-square f level west north i j li lj ∙ (λ x. f (column i x) (row j x)))) in
    part-of-square (λ v. v ≡ t) f d k (suc below_top) (corner (suc below_top)) (corner (suc below_top)) s.column s.row (omega (arith, is, sum))
    (few-columns level d s.column sum s.east) (few-columns level d s.row sum s.south)
    (subst (λ (n : ℕ). square f n (corner (suc below_top) +ℤ pos (s.column * 2 ^ n)) (corner (suc below_top) +ℤ pos (s.row * 2 ^ n)) ≡ t) is
    (sym same ∙ s.property))
