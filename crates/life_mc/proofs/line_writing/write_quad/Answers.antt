use Rattle.std.proofs.Common.{arith, ◌+◌, ◌∙◌}
use Rattle.life_mc.proofs.LineSpace.{line-copied, rest-kept, after-line}
use Rattle.life_mc.proofs.line_writing.write_quad.Goals as goal

pub returns-clause-written : goal.returns-clause-written
returns-clause-written c =
    let before = c.write_quad_before-start in
    line-copied c.args.text.now before.new.text c.copy_line.new.text _ c.args.at before.result (c.args.at + 88) c.copy_line.result
    (omega (arith, before.ensures.start)) before.ensures.start.0 (omega (arith, c.requires)) before.auto.text
    before.ensures.written before.ensures.before c.copy_line.ensures.written

pub returns-clause-behind : goal.returns-clause-behind
returns-clause-behind c =
    let before = c.write_quad_before-start in
    let after = after-line c.args.text.now before.new.text _ before.result (c.args.at + 88) before.ensures.start.0 (omega (arith, c.requires))
    before.auto.text before.ensures.written in
    rest-kept (c.args.at + 88 + 16) (c.args.at + 105) _ _ (omega arith) c.copy_line.ensures.behind
    ∙ rest-kept (c.args.at + 88) (c.args.at + 105) _ _ (omega arith) after
