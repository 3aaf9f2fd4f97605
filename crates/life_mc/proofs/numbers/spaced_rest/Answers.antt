use Rattle.std.proofs.Common.{arith}
use Rattle.life_mc.proofs.FewDigits.{digit_more, few_written, spaced_is}
use Rattle.life_mc.proofs.numbers.spaced_rest.Goals as goal

pub overflow_mul-number : goal.overflow_mul-number
overflow_mul-number c = omega (
  arith,
  few_written c.args.text.now c.args.from c.loop-i.i c.loop-i.number c.loop-i.invariant
      (omega (arith, c.requires.few, c.loop-i-test.true)),
)

pub overflow_add-number : goal.overflow_add-number
overflow_add-number c = omega (
  arith,
  few_written c.args.text.now c.args.from c.loop-i.i c.loop-i.number c.loop-i.invariant
      (omega (arith, c.requires.few, c.loop-i-test.true)),
  c.if-digit-gt9.false,
)

pub returns-then-byte-eq32 : goal.returns-then-byte-eq32
returns-then-byte-eq32 c = spaced_is c.args.text.now c.args.from c.loop-i.i c.loop-i.number c.loop-i.invariant
    (omega (arith, c.requires.few, c.loop-i-test.true)) c.if-i-from.true c.loop-i-test.true c.if-byte-eq32.true

pub loop-i-preserved : goal.loop-i-preserved
loop-i-preserved c =
    let digit = c.digit_of-digit.ensures (omega (arith, c.if-digit-gt9.false)) in
    digit_more c.args.text.now c.args.from c.loop-i.i c.loop-i.number c.digit_of-digit.result c.loop-i.invariant c.loop-i-test.true digit.0 digit.1
