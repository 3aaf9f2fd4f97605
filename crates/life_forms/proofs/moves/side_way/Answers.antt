use Rattle.std.proofs.Common.{arith}
use Rattle.std.proofs.lemmas.Int.{ints}
use Rattle.life_forms.specs.Forms.{at_zero, at_edge}
use Rattle.life_forms.proofs.PlaneFacts.{high-end}
use Rattle.life_forms.proofs.moves.side_way.Goals as goal

pub returns-then-high-low-lt-EDGE-clause-place : goal.returns-then-high-low-lt-EDGE-clause-place
returns-then-high-low-lt-EDGE-clause-place c = let e = high-end in at_zero (omega (arith, ints)) (omega (arith, ints))

pub returns-else-high-low-lt-EDGE-clause-place : goal.returns-else-high-low-lt-EDGE-clause-place
returns-else-high-low-lt-EDGE-clause-place c = let e = high-end in at_edge (omega (arith, ints)) (omega (arith, ints))
