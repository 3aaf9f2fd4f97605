use Rattle.std.proofs.Common.{arith}
use Rattle.life_mc.proofs.LineSpace.{prefix-kept}
use Rattle.life_mc.proofs.line_writing.write_quarter.Goals as goal
use Rattle.life_base.proofs.Texts.{digits_fit}

pub write_digits-start-requires : goal.write_digits-start-requires
write_digits-start-requires c =
    let few = digits_fit c.args.number c.ranges.number.fits in
    (omega (arith, few, c.requires.0), c.requires.1)

pub write_byte-requires : goal.write_byte-requires
write_byte-requires c =
    let few = digits_fit c.args.number c.ranges.number.fits in (
      omega (arith, few, c.requires.0, c.write_digits-start.ensures.start),
      omega (arith, c.requires.1, c.write_digits-start.ensures.start, c.write_digits-start.auto.buf),
    )

pub returns-clause-before : goal.returns-clause-before
returns-clause-before c =
    prefix-kept _ _ _ (omega (arith, c.write_byte.ensures.start)) c.write_byte.ensures.before c.write_digits-start.ensures.before

pub returns-clause-start : goal.returns-clause-start
returns-clause-start c =
    let few = digits_fit c.args.number c.ranges.number.fits in (
      omega (arith, c.write_digits-start.ensures.start, c.write_byte.ensures.start),
      omega (arith, few, c.write_digits-start.ensures.start, c.write_byte.ensures.start),
    )
