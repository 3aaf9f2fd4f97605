use Rattle.std.proofs.Common.{◌≡◌, ◌≤◌, ◌<◌, max, sym, ◌∙◌, ap, arith}
use Rattle.life_quad.specs.Store.{eight}
use Rattle.life_quad.proofs.LeafCells.{cells_of_node}
use Rattle.life_quad.proofs.id.Node.cells.Goals as goal

pub returns : goal.returns
returns c = λ stored full.
    let n = c.args.self.now in
    let g = c.max-greatest.result in
    let is : g ≡ max (max n.nw n.ne) (max n.sw n.se) = omega (arith, c.max.ensures, c.max-2.ensures, c.max-greatest.ensures) in
    let low : 528 ≤ g = omega (arith, c.from.ensures, c.if-from-lt-LEVEL_TWO.false) in
    let high : g < 66064 = omega (arith, c.from-else-from-lt-LEVEL_TWO.ensures, c.if-from-ge-FIRST_NODE.false) in
    cells_of_node stored n full g is low high ∙ ap eight (sym c.cells_of_ids.ensures)
