use Rattle.std.proofs.Common.{arith}
use Rattle.life_slide.specs.declared.margins.MarginTable.{MarginTable}
use Rattle.life_slide.proofs.TableLemmas.{both-more}
use Rattle.life_slide.proofs.margins.put.Goals as goal

pub returns : goal.returns
returns c content h here =
    let new : MarginTable = record { numbers = c.push.new.self; margins = c.push-2.new.self } in
    both-more content c.args.table.now new h c.args.id c.args.margins c.in_ok-number.ensures.added c.in_ok-push.ensures.items
    (let a = c.len.ensures in let b = c.if-len-number.false in let n = c.in_ok-number.ensures.number in omega (arith, a, b, n)) here
