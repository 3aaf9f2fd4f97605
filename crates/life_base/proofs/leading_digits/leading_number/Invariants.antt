use Rattle.std.proofs.Common.{◌≡◌, ◌+◌, take, drop}
use Rattle.std.specs.Char.{is_ascii_digit}
use Rattle.std.specs.List.{prefix_len}
use Rattle.std.specs.Str.Parse.{digits_value}
use Rattle.life_base.specs.Numbers.{capped_number}
use Rattle.life_base.proofs.leading_digits.leading_number.Given as goal

abbrev pub invariant-loop-i : goal.invariant-loop-i
invariant-loop-i l = record {
  count : l.i + prefix_len is_ascii_digit (drop l.i l.text) ≡ prefix_len is_ascii_digit l.text;
  number : l.number ≡ capped_number (digits_value 10 (take l.i l.text));
}
