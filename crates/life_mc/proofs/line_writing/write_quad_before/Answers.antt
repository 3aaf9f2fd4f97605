use Rattle.std.proofs.Common.{drop, arith}
use Rattle.life_mc.proofs.LineSpace.{quad-in-space, prefix-kept}
use Rattle.life_mc.proofs.line_writing.write_quad_before.Goals as goal

pub write_level-requires : goal.write_level-requires
write_level-requires c = (
  omega (
    arith,
    c.requires.0,
    c.write_byte-end.ensures.start,
    c.write_quarter-end.ensures.start.1,
    c.write_quarter-end-2.ensures.start.1,
    c.write_quarter-end-3.ensures.start.1,
    c.write_quarter-end-4.ensures.start.1,
  ),
  omega (
    arith,
    c.requires.1,
    c.write_byte-end.ensures.start,
    c.write_quarter-end.ensures.start.0,
    c.write_quarter-end-2.ensures.start.0,
    c.write_quarter-end-3.ensures.start.0,
    c.write_quarter-end-4.ensures.start.0,
    c.write_byte-end.auto.text,
    c.write_quarter-end.auto.text,
    c.write_quarter-end-2.auto.text,
    c.write_quarter-end-3.auto.text,
    c.write_quarter-end-4.auto.text,
  ),
)

pub returns-clause-written : goal.returns-clause-written
returns-clause-written c =
    quad-in-space c.args.level c.args.nw c.args.ne c.args.sw c.args.se (drop c.args.end c.args.text.now) _ _ _ _ _ _
    c.write_level.ensures.written c.write_quarter-end-4.ensures.written c.write_quarter-end-3.ensures.written
    c.write_quarter-end-2.ensures.written c.write_quarter-end.ensures.written c.write_byte-end.ensures.written

pub returns-clause-before : goal.returns-clause-before
returns-clause-before c =
    let fourth = c.write_quarter-end-4 in
    let third = c.write_quarter-end-3 in
    let second = c.write_quarter-end-2 in
    let first = c.write_quarter-end in
    prefix-kept _ _ _ c.write_level.ensures.start.0 c.write_level.ensures.before
    (prefix-kept _ _ _ fourth.ensures.start.0 fourth.ensures.before
    (prefix-kept _ _ _ third.ensures.start.0 third.ensures.before
    (prefix-kept _ _ _ second.ensures.start.0 second.ensures.before
    (prefix-kept _ _ _ first.ensures.start.0 first.ensures.before c.write_byte-end.ensures.before))))

pub returns-clause-start : goal.returns-clause-start
returns-clause-start c = (
  omega (
    arith,
    c.write_level.ensures.start.0,
    c.write_byte-end.ensures.start,
    c.write_quarter-end.ensures.start.0,
    c.write_quarter-end-2.ensures.start.0,
    c.write_quarter-end-3.ensures.start.0,
    c.write_quarter-end-4.ensures.start.0,
  ),
  omega (
    arith,
    c.write_level.ensures.start.1,
    c.write_byte-end.ensures.start,
    c.write_quarter-end.ensures.start.1,
    c.write_quarter-end-2.ensures.start.1,
    c.write_quarter-end-3.ensures.start.1,
    c.write_quarter-end-4.ensures.start.1,
  ),
)
