-- The bits of words that are shifted, divided or cut.
use Rattle.std.proofs.Common.{◌≡◌, ℕ, ◌+◌, ◌*◌, ◌-◌, ◌/◌, ◌%◌, ◌^◌, ◌<◌, ◌≤◌, sym, ◌∙◌, ap, arith, pow_pos, shr-shr}
use Rattle.std.specs.Int.{bit_at}
use Rattle.std.proofs.lemmas.Nat.{shr_split}
use Rattle.std.proofs.lemmas.Nat.Bits.{bit_at-zero, bit_at_cat_low, bit_at_cat_high}
use Rattle.std.proofs.Math.Nat.{add_comm}

-- shifted to the right
pub bit-shr : (n k i : ℕ) → bit_at (n / 2 ^ k) i ≡ bit_at n (i + k)
bit-shr n k i = ap (λ z. z % 2) (shr-shr n k i) ∙ ap (λ z. bit_at n z) (add_comm k i)

-- the bits of a word times a power of two
pub shl-high : (n k i : ℕ) → k ≤ i → bit_at (n * 2 ^ k) i ≡ bit_at n (i - k)
shl-high n k i l =
    let none : n * 2 ^ k ≡ n * 2 ^ k + 0 = omega arith in
    let some : 0 < 2 ^ k = pow_pos k in
    ap (λ z. bit_at z i) none ∙ bit_at_cat_high n k 0 i some l

pub shl-low : (n k i : ℕ) → i < k → bit_at (n * 2 ^ k) i ≡ 0
shl-low n k i l =
    let none : n * 2 ^ k ≡ n * 2 ^ k + 0 = omega arith in
    ap (λ z. bit_at z i) none ∙ bit_at_cat_low n k 0 i l ∙ bit_at-zero i

-- the low bits of a word
pub bit-mod : (n k i : ℕ) → i < k → bit_at (n % 2 ^ k) i ≡ bit_at n i
bit-mod n k i l = sym (bit_at_cat_low (n / 2 ^ k) k (n % 2 ^ k) i l) ∙ ap (λ z. bit_at z i) (shr_split n k)
