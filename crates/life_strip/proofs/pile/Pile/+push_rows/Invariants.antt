use Rattle.std.proofs.Common.{length}
use Rattle.life_strip.proofs.pile.Pile.+push_rows.Given as goal

abbrev pub decreases-push_rows : goal.decreases-push_rows
decreases-push_rows g l = length l.self.now.band.items
