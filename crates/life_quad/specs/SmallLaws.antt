-- Facts about small squares and their numbers.
use Rattle.std.proofs.Common.{◌≡◌, ℕ, ◌+◌, ◌*◌, ◌-◌, ◌/◌, ◌%◌, ◌<◌, Bool, true, false, nat_lt, ◌&&◌, ◌==◌, List, None, Some, refl, sym, ◌∙◌, ap, arith}
use Rattle.life_base.specs.Tree.{Tree, point, quad}
use Rattle.life_base.proofs.Basics.{right_of_and, left_of_and}
use Rattle.life_quad.specs.Store.{two, four, small_square, square_of, id_of, is_bit_id, is_digit_id, small_of}

-- a square of level 1 of binary digits
pub data IsDigit (q : ℕ) : Type 0 where
  digit_0 : q ≡ 256 → IsDigit q
  digit_of : 512 < q → q < 528 → IsDigit q

pub is_digit : (q : ℕ) → is_digit_id q ≡ true → IsDigit q
is_digit q h = by (q == 256) refl
  where
    by : (b : Bool) → (q == 256) ≡ b → IsDigit q
    by true e = digit_0 (grind arith)
    by false e = digit_of (grind arith) (grind arith)

-- what the quarters of a small square are
pub data Smalls (a b c d k : ℕ) : Type 0 where
  of_bits : a < 2 → b < 2 → c < 2 → d < 2 → k ≡ 512 + (a * 8 + b * 4 + c * 2 + d) → Smalls a b c d k
  of_digits : IsDigit a → IsDigit b → IsDigit c → IsDigit d → k ≡ 528 + ((a - 512) * 4096 + (b - 512) * 256 + (c - 512) * 16 + (d - 512)) → Smalls a b c d k

pub bit : (n : ℕ) → is_bit_id n ≡ true → n < 2
bit n h = grind arith

pub all_four : (p q r s : Bool) → (p && q && r && s) ≡ true → (p ≡ true) × (q ≡ true) × (r ≡ true) × (s ≡ true)
all_four p q r s h = (
  left_of_and p q (left_of_and (p && q) r (left_of_and (p && q && r) s h)),
  right_of_and p q (left_of_and (p && q) r (left_of_and (p && q && r) s h)),
  right_of_and (p && q) r (left_of_and (p && q && r) s h),
  right_of_and (p && q && r) s h,
)

pub smalls : (a b c d k : ℕ) → small_of a b c d ≡ Some k → Smalls a b c d k
unfolding small_of
smalls a b c d k h = by (is_bit_id a && is_bit_id b && is_bit_id c && is_bit_id d) refl (is_digit_id a && is_digit_id b && is_digit_id c && is_digit_id d) refl
  where
    by : (p : Bool) → (is_bit_id a && is_bit_id b && is_bit_id c && is_bit_id d) ≡ p → (q : Bool)
        → (is_digit_id a && is_digit_id b && is_digit_id c && is_digit_id d) ≡ q → Smalls a b c d k
    by true e q f =
        let all : (is_bit_id a ≡ true) × (is_bit_id b ≡ true) × (is_bit_id c ≡ true) × (is_bit_id d ≡ true) = all_four _ _ _ _ e in
        let n : 512 + (a * 8 + b * 4 + c * 2 + d) ≡ k = grind arith in
        of_bits (bit a all.0) (bit b all.1) (bit c all.2) (bit d all.3) (sym n)
    by false e true f =
        let all : (is_digit_id a ≡ true) × (is_digit_id b ≡ true) × (is_digit_id c ≡ true) × (is_digit_id d ≡ true) = all_four _ _ _ _ f in
        let n : 528 + ((a - 512) * 4096 + (b - 512) * 256 + (c - 512) * 16 + (d - 512)) ≡ k = grind arith in
        of_digits (is_digit a all.0) (is_digit b all.1) (is_digit c all.2) (is_digit d all.3) (sym n)
    by false e false f = absurd (let none : None ≡ Some k = grind arith in cc)

-- four binary or hexadecimal digits, found again by division
pub bits_of : (a b c d : ℕ) → a < 2 → b < 2 → c < 2 → d < 2
    → (let n = a * 8 + b * 4 + c * 2 + d in (n / 8 ≡ a) × (n / 4 % 2 ≡ b) × (n / 2 % 2 ≡ c) × (n % 2 ≡ d))
bits_of a b c d la lb lc ld = (omega arith, omega arith, omega arith, omega arith)

pub base_16_digits : (a b c d : ℕ) → a < 16 → b < 16 → c < 16 → d < 16
    → (let n = a * 4096 + b * 256 + c * 16 + d in (n / 4096 ≡ a) × (n / 256 % 16 ≡ b) × (n / 16 % 16 ≡ c) × (n % 16 ≡ d))
base_16_digits a b c d la lb lc ld = (omega arith, omega arith, omega arith, omega arith)

pub below_16 : (q : ℕ) → IsDigit q → q - 512 < 16
below_16 q (digit_0 e) = omega arith
below_16 q (digit_of l u) = omega arith

-- the squares of a bit and of a digit
pub square_of-bit : (S : List Tree) (a : ℕ) → a < 2 → square_of S (id_of a) ≡ point a
unfolding square_of
square_of-bit S a l = let m : a < 256 = omega arith in grind arith

pub square_of-digit : (S : List Tree) (q : ℕ) → IsDigit q → square_of S (id_of q) ≡ two (q - 512)
unfolding square_of small_square
square_of-digit S q (digit_0 e) = ap (λ n. square_of S (id_of n)) e ∙ sym (ap (λ n. two (n - 512)) e)
square_of-digit S q (digit_of l u) =
    let a : nat_lt q 256 ≡ false = grind arith in
    let b : nat_lt q 512 ≡ false = grind arith in
    let c : nat_lt q 66064 ≡ true = grind arith in
    let d : nat_lt q 528 ≡ true = grind arith in
    rw (a, b, c, d) refl

-- its square is that of the quarters
pub small_square-is : (S : List Tree) (a b c d k : ℕ) → Smalls a b c d k → small_square k ≡ quad (square_of S (id_of a)) (square_of S (id_of b))
    (square_of S (id_of c)) (square_of S (id_of d))
unfolding small_square
small_square-is S a b c d k (of_bits la lb lc ld e) =
    let low : nat_lt k 528 ≡ true = grind arith in
    let n : k - 512 ≡ a * 8 + b * 4 + c * 2 + d = omega arith in
    let q = bits_of a b c d la lb lc ld in
    rw low (ap two n ∙ (λ i. quad ((ap point q.0 ∙ sym (square_of-bit S a la)) i) ((ap point q.1 ∙ sym (square_of-bit S b lb)) i)
    ((ap point q.2 ∙ sym (square_of-bit S c lc)) i) ((ap point q.3 ∙ sym (square_of-bit S d ld)) i)))
small_square-is S a b c d k (of_digits ia ib ic id e) =
    let p = a - 512 in let q = b - 512 in let r = c - 512 in let t = d - 512 in
    let la : p < 16 = below_16 a ia in let lb : q < 16 = below_16 b ib in let lc : r < 16 = below_16 c ic in let ld : t < 16 = below_16 d id in
    let low : nat_lt k 528 ≡ false = grind arith in
    let n : k - 528 ≡ p * 4096 + q * 256 + r * 16 + t = omega arith in
    let o = base_16_digits p q r t la lb lc ld in
    rw low (ap four n ∙ (λ i. quad ((ap two o.0 ∙ sym (square_of-digit S a ia)) i) ((ap two o.1 ∙ sym (square_of-digit S b ib)) i)
    ((ap two o.2 ∙ sym (square_of-digit S c ic)) i) ((ap two o.3 ∙ sym (square_of-digit S d id)) i)))
