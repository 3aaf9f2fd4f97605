-- What stands in an item's place, by the first byte.
use Rattle.std.proofs.Common.{◌≡◌, ◌∷◌, ◌-◌, ◌*◌, ◌≤◌, ◌<◌, ◌+◌, ℕ, List, [], true, false, refl, arith, nat_lt, add-one, length, drop, get_or, ap, sym, ◌∙◌, ◌==◌, drop-drop}
use Rattle.std.specs.Char.{is_ascii_digit}
use Rattle.std.specs.List.{prefix_len}
use Rattle.std.proofs.Math.Seq.{drop-cons}
use Rattle.std.proofs.lemmas.Bool.Decides.{nat_tests}
use Rattle.std.proofs.lemmas.Str.{digit_value_digit}
use Rattle.life_base.proofs.PrefixDigits.{digit_text_in_prefix}
use Rattle.life_base.specs.Numbers.{capped_number}
use Rattle.life_base.specs.Text.{is_digit_text, is_whitespace, value_of}
use Rattle.life_base.specs.declared.cell.TheConstants.{MAX_LEVEL}
use Rattle.life_rle.specs.Items.{item_with_digits, leading_digits, after_digits_of, item_after, next_of}
use Rattle.life_rle.specs.Plane.{most_count}

-- the text from a place on
pub text_at : (line : List ℕ) (at : ℕ) → at < length line → drop at line ≡ get_or line at 0 ∷ drop (at + 1) line
text_at line at h = rw (add-one, drop-cons line at 0) refl

-- digits at the beginning
pub digits_in_prefix : (level b : ℕ) (rest : List ℕ) → is_ascii_digit b ≡ true
    → next_of level (b ∷ rest) ≡ item_with_digits level (leading_digits (b ∷ rest)) (after_digits_of (b ∷ rest))
digits_in_prefix level b rest digit =
    let space : is_whitespace b ≡ false = grind (arith, nat_tests) in
    let mark : (b == 33) ≡ false = grind (arith, nat_tests) in
    rw (space, mark) refl

one_digit : (b : ℕ) (rest : List ℕ) → is_ascii_digit b ≡ true → 0 < prefix_len is_ascii_digit (b ∷ rest)
one_digit b rest digit = rw digit (omega arith)

-- a number at a place, whose digits end at another
pub record NumberAt (level : ℕ) (line : List ℕ) (at number count : ℕ) : Type 0 where
  pub some : 0 < count
  pub digits : is_digit_text (leading_digits (drop at line)) ≡ true
  pub value : number ≡ capped_number (value_of (leading_digits (drop at line)))
  pub reported : next_of level (drop at line) ≡ item_with_digits level (leading_digits (drop at line)) (drop (at + count) line)

pub number_at : (level : ℕ) (line text : List ℕ) (at number count : ℕ) → at < length line → is_ascii_digit (get_or line at 0) ≡ true → text ≡ drop at line
    → number ≡ capped_number (value_of (leading_digits text)) → count ≡ prefix_len is_ascii_digit text → NumberAt level line at number count
number_at level line text at number count inside digit whole value e =
    let parts : drop at line ≡ get_or line at 0 ∷ drop (at + 1) line = text_at line at inside in
    let some : 0 < prefix_len is_ascii_digit (drop at line) = rw parts (one_digit (get_or line at 0) (drop (at + 1) line) digit) in
    let end : count ≡ prefix_len is_ascii_digit (drop at line) = e ∙ ap (prefix_len is_ascii_digit) whole in
    record {
      some = omega (arith, some, end);
      digits = digit_text_in_prefix (drop at line) some;
      value = value ∙ ap (λ t. capped_number (value_of (leading_digits t))) whole;
      reported =
          ap (next_of level) parts ∙ digits_in_prefix level (get_or line at 0) (drop (at + 1) line) digit
          ∙ ap (λ t. item_with_digits level (leading_digits t) (after_digits_of t)) (sym parts)
          ∙ ap (item_with_digits level (leading_digits (drop at line)))
          (drop-drop (prefix_len is_ascii_digit (drop at line)) at line ∙ ap (λ n. drop (at + n) line) (sym end));
    }

-- a digit before a byte that is none
pub digit_in_prefix : (d b : ℕ) (rest : List ℕ) → 49 ≤ d → d ≤ 57 → is_ascii_digit b ≡ false → next_of MAX_LEVEL (d ∷ b ∷ rest) ≡ item_after (d - 48) (b ∷ rest)
digit_in_prefix d b rest low high other =
    let space : is_whitespace d ≡ false = grind (arith, nat_tests) in
    let mark : (d == 33) ≡ false = grind (arith, nat_tests) in
    let digit : is_ascii_digit d ≡ true = grind (arith, nat_tests) in
    let number : value_of (d ∷ []) ≡ d - 48 = omega (arith, digit_value_digit d (omega arith, high)) in
    let some : (d - 48 == 0) ≡ false = grind (arith, nat_tests) in
    let few : nat_lt (most_count MAX_LEVEL) (d - 48) ≡ false = grind (arith, nat_tests) in
    rw (space, mark, digit, other, number, some, few) refl

-- two digits before a byte that is none
pub two_digits_in_prefix : (d e b : ℕ) (rest : List ℕ) → 49 ≤ d → d ≤ 57 → 48 ≤ e → e ≤ 57 → is_ascii_digit b ≡ false
    → next_of MAX_LEVEL (d ∷ e ∷ b ∷ rest) ≡ item_after (10 * (d - 48) + (e - 48)) (b ∷ rest)
two_digits_in_prefix d e b rest low high from to other =
    let space : is_whitespace d ≡ false = grind (arith, nat_tests) in
    let mark : (d == 33) ≡ false = grind (arith, nat_tests) in
    let digit : is_ascii_digit d ≡ true = grind (arith, nat_tests) in
    let second : is_ascii_digit e ≡ true = grind (arith, nat_tests) in
    let number : value_of (d ∷ e ∷ []) ≡ 10 * (d - 48) + (e - 48) =
    omega (arith, digit_value_digit d (omega arith, high), digit_value_digit e (from, to)) in
    let some : (10 * (d - 48) + (e - 48) == 0) ≡ false = grind (arith, nat_tests) in
    let few : nat_lt (most_count MAX_LEVEL) (10 * (d - 48) + (e - 48)) ≡ false = grind (arith, nat_tests) in
    rw (space, mark, digit, second, other, number, some, few) refl
