use Rattle.std.proofs.Common.{sym, ◌==◌}
use Rattle.life_rle.proofs.MarkPlace.{prefix-Some, prefix-None}
use Rattle.life_rle.proofs.line_items.before_mark.Goals as goal

pub returns-in-Some : goal.returns-in-Some
returns-in-Some c = prefix-Some (λ b. b == 33) c.args.line.now c.in-Some.end (sym c.in-Some.ensures)

pub returns-in-None : goal.returns-in-None
returns-in-None c = prefix-None (λ b. b == 33) c.args.line.now (sym c.in-None.ensures)
