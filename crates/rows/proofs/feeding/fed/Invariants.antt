use Rattle.life_reader.specs.Feeding.{Stands}
use Rattle.rows.proofs.feeding.fed.Given as goal

-- the store that was lent has the squares of the reader
abbrev pub invariant-loop-piece : goal.invariant-loop-piece
invariant-loop-piece l = Stands l.store l.reader
