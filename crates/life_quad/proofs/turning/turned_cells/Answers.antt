use Rattle.std.proofs.Common.{rules}
use Rattle.life_quad.proofs.TurningLemmas.{turned-four}
use Rattle.life_quad.proofs.turning.turned_cells.Goals as goal

pub returns : goal.returns
returns c =
    let nw = c.turned_quarter-nw.ensures in
    let ne = c.turned_quarter-ne.ensures in
    let sw = c.turned_quarter-sw.ensures in
    let se = c.turned_quarter-se.ensures in
    turned-four c.args.turn c.args.cells _ _ _ _ nw.low ne.low sw.low se.low nw.square ne.square sw.square se.square

pub turned_quarter-nw-requires : goal.turned_quarter-nw-requires
turned_quarter-nw-requires c = search rules

pub turned_quarter-ne-requires : goal.turned_quarter-ne-requires
turned_quarter-ne-requires c = search rules

pub turned_quarter-sw-requires : goal.turned_quarter-sw-requires
turned_quarter-sw-requires c = search rules

pub turned_quarter-se-requires : goal.turned_quarter-se-requires
turned_quarter-se-requires c = search rules
