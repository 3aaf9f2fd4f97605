use Rattle.std.proofs.Common.{◌<◌, ◌≤◌, ◌+◌, arith}
use Rattle.life_rle.proofs.PutItems.{Puts-short, on-ok-both}
use Rattle.life_rle.proofs.wrapping.ItemLines.put_item.Goals as goal

pub returns-in-Some-clause-item : goal.returns-in-Some-clause-item
returns-in-Some-clause-item c =
    let small : c.item_count-count.result < 10 = let n = c.if-count-ge10.false in omega arith in
    let space : c.args.self.now.used + 2 ≤ 70 = let n = c.if-self-gt-LINE_WIDTH.false in omega arith in
    on-ok-both c.put_short.result
    (Puts-short c.args.rule.now c.args.item c.args.self.now c.put_short.new.self _ _ c.item_count-count.ensures c.in-Some.ensures small space)
    c.put_short.ensures.used c.put_short.ensures.text
