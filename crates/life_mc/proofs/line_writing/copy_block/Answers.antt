use Rattle.std.proofs.Common.{◌∙◌, ◌+◌, ◌-◌, arith}
use Rattle.life_mc.proofs.LineSpace.{part-put, after-block}
use Rattle.life_mc.proofs.line_writing.copy_block.Goals as goal

pub returns-clause-written : goal.returns-clause-written
returns-clause-written g c =
    let is = c.copy_from_slice-2.ensures.after ∙ c.copy_from_slice.ensures.after in
    part-put c.args.text.now c.copy_from_slice-2.new.self c.args.to c.args.count (c.args.to + g.row.N - c.args.to) (c.args.from + g.row.N - c.args.from)
    c.args.from g.row.N (omega (arith, c.requires.to)) (omega arith) (omega arith) c.requires.count is c.requires.from

pub returns-clause-behind : goal.returns-clause-behind
returns-clause-behind g c =
    let is = c.copy_from_slice-2.ensures.after ∙ c.copy_from_slice.ensures.after in
    after-block c.args.text.now c.copy_from_slice-2.new.self c.args.to (c.args.to + g.row.N - c.args.to) (c.args.from + g.row.N - c.args.from) c.args.from
    g.row.N (omega (arith, c.requires.to)) (omega arith) (omega arith) is c.requires.from
