use Rattle.std.proofs.Common.{◌-◌, ◌∙◌, length, sym, arith}
use Rattle.std.specs.Char.{is_ascii_digit}
use Rattle.life_base.proofs.Trim.{without_last-take, without_last-whole}
use Rattle.file_hints.proofs.rle_watch.before_last_digits.Goals as goal

pub loop-rest-preserved : goal.loop-rest-preserved
loop-rest-preserved c =
    without_last-take is_ascii_digit c.loop-rest.rest.now (length c.loop-rest.rest.now - 1) (omega arith) (sym c.if-not-is_ascii_digit.ensures.value)
    ∙ c.loop-rest.invariant

pub returns-then-not-is_ascii_digit : goal.returns-then-not-is_ascii_digit
returns-then-not-is_ascii_digit c =
    sym (without_last-whole is_ascii_digit c.loop-rest.rest.now (length c.loop-rest.rest.now - 1) (omega arith) (sym c.if-not-is_ascii_digit.ensures.value))
    ∙ c.loop-rest.invariant
