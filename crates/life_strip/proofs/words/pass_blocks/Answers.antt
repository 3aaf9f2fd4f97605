use Rattle.std.proofs.Common.{arith}
use Rattle.life_strip.proofs.BandLemmas.{at-next, at-passed}
use Rattle.life_strip.proofs.words.pass_blocks.Goals as goal

pub returns-then-number-place : goal.returns-then-number-place
returns-then-number-place c =
    let h = c.requires.place in
    at-passed c.args.blocks.now h.0 c.args.place h.2 c.args.number h.1 c.max.result c.if-number-place.true (omega (arith, c.max.ensures))
    (omega (arith, c.max.ensures)) (λ lt. omega (arith, c.max.ensures, lt)) (λ le. omega (arith, c.max.ensures, le))

pub returns : goal.returns
returns c =
    let h = c.requires.place in
    c.next_block.ensures c.args.number c.requires.number
    (at-next c.args.blocks.now h.0 c.args.place h.2 c.args.number h.1 c.if-number-place.false c.requires.number c.requires.blocks c.requires.reach)
