use Rattle.std.proofs.Common.{arith}
use Rattle.std.proofs.lemmas.Int.{ints}
use Rattle.life_quad.proofs.PartLemmas.{gathered-none, gathered-one}
use Rattle.life_quad.proofs.listing.gather_cell.Goals as goal

pub returns-then-state-eq0-clause-cells : goal.returns-then-state-eq0-clause-cells
returns-then-state-eq0-clause-cells c = gathered-none _ c.args.count _ c.args.x c.args.y c.args.state c.if-state-eq0.true

pub returns-else-state-eq0-clause-cells : goal.returns-else-state-eq0-clause-cells
returns-else-state-eq0-clause-cells c =
    gathered-one _ c.args.count c.args.x c.args.y _ _ c.args.state (omega (arith, ints, c.ranges.x)) (omega (arith, ints, c.ranges.y)) c.if-state-eq0.false
    (omega (arith, c.requires))
