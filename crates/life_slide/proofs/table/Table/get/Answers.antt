use Rattle.std.proofs.Common.{sym}
use Rattle.life_slide.proofs.EntryLemmas.{looked-up}
use Rattle.life_slide.proofs.table.Table.get.Goals as goal

pub returns-in-Some : goal.returns-in-Some
returns-in-Some c = looked-up c.args.key.now _ c.args.self.now.entries.entries (sym c.in-Some.ensures.value)
