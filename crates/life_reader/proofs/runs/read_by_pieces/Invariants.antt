use Rattle.std.proofs.Common.{◌≡◌, ◌-◌, ◌^◌, ◌<◌, ◌≤◌, length}
use Rattle.life_pattern.specs.Store.{Keeps}
use Rattle.life_reader.proofs.RunFacts.{IsReading}
use Rattle.life_reader.proofs.runs.read_by_pieces.Given as goal

abbrev pub invariant-loop-reader : goal.invariant-loop-reader
invariant-loop-reader g l =
    IsReading l.initial.store l.store (g.R.Source.remaining l.initial.source) (g.R.Source.remaining l.source) l.total l.refused l.reader
    × (g.R.Source.failures l.source ≡ 0) × (l.total ≤ l.most) × Keeps l.initial.store l.store × (0 < length l.piece)

abbrev pub decreases-loop-reader : goal.decreases-loop-reader
decreases-loop-reader g l = 2 ^ 31 - l.total
