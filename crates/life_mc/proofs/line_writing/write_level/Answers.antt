use Rattle.std.proofs.Common.{◌++◌, ◌∙◌, ap, arith, drop, sym}
use Rattle.std.proofs.lemmas.Fmt.{decimal_digit}
use Rattle.life_mc.proofs.LineSpace.{level-fits}
use Rattle.life_mc.proofs.line_writing.write_level.Goals as goal

pub returns-then-level-lt10-clause-written : goal.returns-then-level-lt10-clause-written
returns-then-level-lt10-clause-written c =
    c.write_byte.ensures.written ∙ ap (λ l. l ++ drop c.args.end c.args.text.now) (sym (decimal_digit c.args.level c.if-level-lt10.true))

pub write_digits-requires : goal.write_digits-requires
write_digits-requires c = (rw c.from.ensures (omega (arith, level-fits c.args.level c.ranges.level.fits, c.requires.0)), c.requires.1)

pub returns-clause-start : goal.returns-clause-start
returns-clause-start c =
    let few = level-fits c.args.level c.ranges.level.fits in
    let digits = rw c.from.ensures at c.write_digits.ensures.start in
    (omega (arith, digits), omega (arith, few, digits))
