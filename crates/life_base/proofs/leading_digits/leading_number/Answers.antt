use Rattle.std.proofs.Common.{◌≡◌, ℕ, ◌+◌, ◌-◌, ◌*◌, ◌<◌, List, length, take, get_or, true, sym, ◌∙◌, arith}
use Rattle.std.specs.Char.{is_ascii_digit, digit_value}
use Rattle.std.specs.Str.Parse.{digits_value}
use Rattle.std.proofs.lemmas.Bool.Decides.{nat_tests}
use Rattle.std.proofs.lemmas.Grind.{common_steps}
use Rattle.std.proofs.lemmas.Int.Digits.{digits_value_more}
use Rattle.life_base.specs.Numbers.{capped_number}
use Rattle.life_base.proofs.leading_digits.leading_number.Goals as goal

digit_is : (b : ℕ) → is_ascii_digit b ≡ true → digit_value b ≡ b - 48
digit_is b h = grind (arith, nat_tests)

-- one digit more
capped_more : (text : List ℕ) (i n : ℕ) → i < length text → is_ascii_digit (get_or text i 0) ≡ true → n ≡ capped_number (digits_value 10 (take i text))
    → capped_number (n * 10 + (get_or text i 0 - 48)) ≡ capped_number (digits_value 10 (take (i + 1) text))
capped_more text i n h d e = omega (arith, digits_value_more 10 text i h, digit_is (get_or text i 0) d, e)

pub loop-i-preserved : goal.loop-i-preserved
loop-i-preserved c = record {
  count = grind (arith, common_steps);
  number =
      c.with_digit-number.ensures
      ∙ capped_more c.args.text.now c.loop-i.i c.loop-i.number c.loop-i-test.true (sym c.is_ascii_digit.ensures.value ∙ c.if-not-is_ascii_digit.false)
      c.loop-i.invariant.number;
}
