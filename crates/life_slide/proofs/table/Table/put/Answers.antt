use Rattle.life_slide.proofs.EntryLemmas.{put-one}
use Rattle.life_slide.proofs.table.Table.put.Goals as goal

pub returns : goal.returns
returns c = put-one _ _ c.args.key c.args.answer c.insert.result c.insert.ensures.entries c.insert.ensures.err
