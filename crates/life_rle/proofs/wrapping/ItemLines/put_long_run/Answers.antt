use Rattle.std.proofs.Common.{◌∷◌, []}
use Rattle.std.proofs.lemmas.Result.{on_ok_weaker}
use Rattle.life_rle.specs.declared.item.Item.TheVariants.{Cells}
use Rattle.life_rle.specs.Written.{with_gap}
use Rattle.life_rle.proofs.PutItems.{Puts-then}
use Rattle.life_rle.proofs.wrapping.ItemLines.put_long_run.Goals as goal

pub returns-clause-run : goal.returns-clause-run
returns-clause-run c =
    on_ok_weaker c.put_gap.result
    (Puts-then c.args.rule.now (Cells c.args.count c.args.state ∷ []) (with_gap c.args.gap []) c.args.self.now c.put_item.new.self c.put_gap.new.self
    c.in_ok-put_item.ensures.item)
    c.put_gap.ensures.gap
