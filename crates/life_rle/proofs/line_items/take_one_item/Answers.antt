use Rattle.life_rle.proofs.ShortItems.{reads-one}
use Rattle.life_rle.proofs.line_items.take_one_item.Goals as goal

pub returns-in-Ok-clause-read : goal.returns-in-Ok-clause-read
returns-in-Ok-clause-read c =
    let said = c.in-Ok.ensures in
    reads-one c.args.rule.now c.args.line.now c.args.here.at c.in-Spelled.behind c.args.here.cursor c.in-Ok.cursor c.args.runs.now.items
    c.take_item.new.runs.items c.in-Spelled.item c.in-Spelled.ensures.2 said.sound said.cursor said.near said.runs
