-- Signed numbers of any length, as the base layer reads them.
use Rattle.std.proofs.Common.{◌≡◌, ℕ, ◌-◌, ◌^◌, ◌≤◌, Bool, true, false, not, cond, List, drop, refl, sym, ◌∙◌, subst, Some, None, Ok, Err, Option, Result, arith, leb, ℤ, pos, neg_ℤ, codes}
use Rattle.std.proofs.lemmas.Int.{ints}
use Rattle.std.proofs.lemmas.Bool.Decides.{nat_tests}
use Rattle.life_base.specs.declared.kind.Kind.{Kind}
use Rattle.life_base.specs.declared.kind.Kind.TheVariants.{BadNumber, TooLarge}
use Rattle.life_base.specs.declared.cell.TheConstants.{MAX_LEVEL}
use Rattle.life_base.specs.Text.{begins_with, is_digit_text, value_of}
use Rattle.life_base.specs.Numbers.{number_up_to, result_map, i64_of}
use Rattle.life_rle.specs.Plane.{is_coordinate}
use Rattle.life_rle.specs.Position.{signed_number}
use Rattle.life_rle.specs.Reader.{IsNumberRead}

-- the greatest number of the type
abbrev pub greatest : ℤ
greatest = pos (2 ^ 63 - 1)

-- what is kept of the answer: a number beyond the type stands as the greatest
abbrev pub Keeps : Result ℤ Kind → Option ℤ → Type 0
Keeps (Ok z) number = IsNumberRead MAX_LEVEL (Some z) number
Keeps (Err TooLarge) number = IsNumberRead MAX_LEVEL (Some greatest) number
Keeps (Err _) number = IsNumberRead MAX_LEVEL None number

above_out : (n : ℕ) → 2 ^ 63 - 1 ≤ n → is_coordinate MAX_LEVEL (pos n) ≡ false
above_out n h = grind (arith, ints)

below_out : (n : ℕ) → 2 ^ 63 ≤ n → is_coordinate MAX_LEVEL (neg_ℤ (pos n)) ≡ false
below_out n h = grind (arith, ints)

both_out : (z w : ℤ) → is_coordinate MAX_LEVEL z ≡ false → is_coordinate MAX_LEVEL w ≡ false → IsNumberRead MAX_LEVEL (Some z) (Some w)
both_out z w h k = (k ∙ sym h, λ e. cc)

abbrev read_by : (ℕ → ℤ) → ℕ → Bool → Bool → Result ℤ Kind
read_by sign n digits fits = result_map sign (cond (not digits) (Err BadNumber) (cond fits (Ok n) (Err TooLarge)))

abbrev reported_by : (ℕ → ℤ) → ℕ → Bool → Option ℤ
reported_by sign n digits = cond digits (Some (sign n)) None

keeps_by : (sign : ℕ → ℤ) (n : ℕ) (digits fits : Bool) → (fits ≡ false → is_coordinate MAX_LEVEL (sign n) ≡ false)
    → Keeps (read_by sign n digits fits) (reported_by sign n digits)
keeps_by sign n false fits h = tt
keeps_by sign n true true h = (refl, λ _. refl)
keeps_by sign n true false h = both_out greatest (sign n) (above_out (2 ^ 63 - 1) (omega arith)) (h refl)

negative : (text : List ℕ) → Keeps (result_map (λ n. neg_ℤ (pos n)) (number_up_to (2 ^ 63) text))
    (reported_by (λ n. neg_ℤ (pos n)) (value_of text) (is_digit_text text))
negative text = keeps_by (λ n. neg_ℤ (pos n)) (value_of text) (is_digit_text text) (leb (value_of text) (2 ^ 63))
    (λ e. let big : 2 ^ 63 ≤ value_of text = grind (arith, nat_tests) in below_out (value_of text) big)

positive : (text : List ℕ) → Keeps (result_map (λ n. pos n) (number_up_to (2 ^ 63 - 1) text)) (reported_by (λ n. pos n) (value_of text) (is_digit_text text))
positive text = keeps_by (λ n. pos n) (value_of text) (is_digit_text text) (leb (value_of text) (2 ^ 63 - 1))
    (λ e. let big : 2 ^ 63 - 1 ≤ value_of text = grind (arith, nat_tests) in above_out (value_of text) big)

by_sign : (sign : Bool) (text : List ℕ)
    → Keeps (cond sign (result_map (λ n. neg_ℤ (pos n)) (number_up_to (2 ^ 63) (drop 1 text))) (result_map (λ n. pos n) (number_up_to (2 ^ 63 - 1) text)))
    (cond sign (reported_by (λ n. neg_ℤ (pos n)) (value_of (drop 1 text)) (is_digit_text (drop 1 text)))
    (reported_by (λ n. pos n) (value_of text) (is_digit_text text)))
by_sign true text = negative (drop 1 text)
by_sign false text = positive text

-- a signed number of any length, and the number of the type
pub number_kept : (text : List ℕ) → Keeps (i64_of text) (signed_number text)
number_kept text = by_sign (begins_with text (codes "-")) text

pub kept_number : (r : Result ℤ Kind) (text : List ℕ) → r ≡ i64_of text → Keeps r (signed_number text)
kept_number r text e = let P : Result ℤ Kind → Type 0 = λ r. Keeps r (signed_number text) in subst P (sym e) (number_kept text)

pub kept_none : (kind : Kind) (number : Option ℤ) → (kind ≡ TooLarge → ⊥) → Keeps (Err kind) number → IsNumberRead MAX_LEVEL None number
kept_none TooLarge number n k = absurd (n refl)
kept_none _ number n k = k
