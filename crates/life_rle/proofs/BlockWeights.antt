-- What items weigh.
use Rattle.std.proofs.Common.{◌≡◌, ℕ, zero, suc, ◌+◌, ◌*◌, ◌^◌, ◌-◌, ◌<◌, ◌≤◌, Bool, true, false, refl, sym, subst, arith, inl, inr, nat_le, pow-add}
use Rattle.std.proofs.lemmas.Bool.Decides.{nat_tests}
use Rattle.std.proofs.Math.Nat.{pow-suc, pow-le-pow_right, mul-le-mul_right}
use Rattle.std.proofs.lemmas.Bool.{cases_lt}
use Rattle.life_rle.proofs.BlockItems.{weight, weights}
use Rattle.life_base.proofs.Basics.{twice}

weight-most : (side count : ℕ) → weight side count ≤ 4 * side
weight-most side count = by (nat_le side count) refl
  where
    by : (b : Bool) → nat_le side count ≡ b → weight side count ≤ 4 * side
    by true e = rw e (omega arith)
    by false e = let h : count < side = grind (arith, nat_tests, e) in rw e (omega (arith, h))

pub weight-small : (side count : ℕ) → count < side → weight side count ≡ 2 * count
weight-small side count h = let e : nat_le side count ≡ false = grind (arith, nat_tests, h) in rw e refl

-- every item, however large
weights-most : (n count : ℕ) → weights n count ≤ 4 * n * 2 ^ n
weights-most zero count = omega arith
weights-most (suc n) count =
    let h = weights-most n count in
    let w = weight-most (2 * 2 ^ n) count in
    rw (twice n) (omega (arith, h, w))

-- an item whose count is below 2 ^ (k + 1): from level k on each further level adds what is still to pay
weights-later : (k more count : ℕ) → count < 2 ^ suc k → weights (k + more) count + 2 * count ≤ (4 * k + 4) * 2 ^ (k + more)
weights-later k zero count h =
    let e : k + 0 ≡ k = omega arith in
    let w = weights-most k count in
    let d = twice k in
    rw e (omega (arith, w, d, h))
weights-later k (suc more) count h =
    let e : k + suc more ≡ suc (k + more) = omega arith in
    let before = weights-later k more count h in
    let d = twice (k + more) in
    let high : 2 ^ suc k ≤ 2 ^ suc (k + more) = pow-le-pow_right {n = 2} (omega arith) (omega arith) in
    let small = weight-small (2 ^ suc (k + more)) count (omega (arith, h, high)) in
    rw e (rw small (rw d (omega (arith, before))))

-- so an item of a count below 2 ^ (k + 1) weighs 4 k + 4 at most
pub weights-item : (n k count : ℕ) → count < 2 ^ suc k → weights n count ≤ (4 * k + 4) * 2 ^ n
weights-item n k count h = elim (cases_lt n k) [
  | inl lt ↦
      let w = weights-most n count in
      let le : 4 * n ≤ 4 * k + 4 = omega (arith, lt) in
      omega (arith, w, mul-le-mul_right (2 ^ n) le)
  | inr le ↦
      let more : n ≡ k + (n - k) = omega (arith, le) in
      let w = weights-later k (n - k) count h in
      rw more (omega (arith, w))
]

-- ---- digits

-- the least level of which the side is above every number of so many digits
abbrev pub level_of_digits : ℕ → ℕ
level_of_digits zero = 0
level_of_digits (suc zero) = 4
level_of_digits (suc (suc zero)) = 7
level_of_digits (suc (suc (suc d))) = 10 + level_of_digits d

digits-below : (d : ℕ) → 10 ^ d ≤ 2 ^ level_of_digits d
digits-below zero = omega arith
digits-below (suc zero) = omega arith
digits-below (suc (suc zero)) = omega arith
digits-below (suc (suc (suc d))) =
    let before = digits-below d in
    let three : 10 ^ suc (suc (suc d)) ≡ 1000 * 10 ^ d = omega (arith, pow-suc 10 (suc (suc d)), pow-suc 10 (suc d), pow-suc 10 d) in
    let ten : 2 ^ (10 + level_of_digits d) ≡ 1024 * 2 ^ level_of_digits d = pow-add 2 10 (level_of_digits d) in
    rw three (rw ten (omega (arith, before)))

level-digits : (d : ℕ) → 3 * level_of_digits d ≤ 10 * d + 2
level-digits zero = omega arith
level-digits (suc zero) = omega arith
level-digits (suc (suc zero)) = omega arith
level-digits (suc (suc (suc d))) = omega (arith, level-digits d)

level-positive : (d : ℕ) → 1 ≤ level_of_digits (suc d)
level-positive zero = omega arith
level-positive (suc zero) = omega arith
level-positive (suc (suc d)) = omega arith

-- an item of so many digits, and of one byte more, weighs 14 squares for each byte at most
pub digits-pay : (n d count : ℕ) → count < 10 ^ suc d → weights n count ≤ 14 * (suc d + 1) * 2 ^ n
digits-pay n d count h =
    let k = level_of_digits (suc d) in
    let positive = level-positive d in
    let same : suc (k - 1) ≡ k = omega (arith, positive) in
    let below = digits-below (suc d) in
    let w = weights-item n (k - 1) count (subst (λ j. count < 2 ^ j) (sym same) (omega (arith, h, below))) in
    let few : 4 * (k - 1) + 4 ≤ 14 * (suc d + 1) = omega (arith, level-digits (suc d), positive) in
    omega (arith, w, mul-le-mul_right (2 ^ n) few)

-- an item without digits, of one byte
pub byte-pays : (n : ℕ) → weights n 1 ≤ 14 * 2 ^ n
byte-pays n = let w = weights-item n 0 1 (omega arith) in omega (arith, w)
