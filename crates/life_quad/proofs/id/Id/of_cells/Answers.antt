use Rattle.std.proofs.Common.{◌≡◌, ◌+◌, ◌-◌, ◌∙◌, ap, arith}
use Rattle.life_quad.specs.Store.{four}
use Rattle.life_quad.proofs.SmallCells.{cells_named}
use Rattle.life_quad.proofs.id.Id.of_cells.Goals as goal

pub returns-clause-square : goal.returns-clause-square
returns-clause-square c = λ stored.
    let fits = c.ranges.cells in
    let cells = c.from.ensures in
    let same : 528 + c.from.result - 528 ≡ c.args.cells = omega (arith, cells) in
    cells_named stored _ (omega arith) (omega (arith, fits, cells)) ∙ ap four same
