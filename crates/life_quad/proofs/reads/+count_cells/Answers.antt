use Rattle.std.proofs.Common.{arith, sym, ◌∙◌, ap}
use Rattle.life_quad.specs.Cells.{population}
use Rattle.life_quad.proofs.CountLemmas.{quarters_small, four-ones}
use Rattle.life_quad.proofs.reads.+count_cells.Goals as goal

pub returns-in-Some : goal.returns-in-Some
returns-in-Some g t c =
    c.from.ensures ∙ sym (four-ones c.in-Some.cells (omega arith)) ∙ ap population (sym c.in-Some.ensures)

pub overflow_add-result : goal.overflow_add-result
overflow_add-result g t c =
    let few = quarters_small _ _ _ _ _ (g.met.S.Squares.full _ _ c.requires.known) (g.met.S.Squares.low _ _ c.requires.known) c.divide.ensures.square in
    omega (arith, few, c.count_cells-a.ensures, c.count_cells-b.ensures)

pub overflow_add-result-2 : goal.overflow_add-result-2
overflow_add-result-2 g t c =
    let few = quarters_small _ _ _ _ _ (g.met.S.Squares.full _ _ c.requires.known) (g.met.S.Squares.low _ _ c.requires.known) c.divide.ensures.square in
    omega (arith, few, c.count_cells-a.ensures, c.count_cells-b.ensures, c.count_cells-c.ensures)

pub overflow_add-result-3 : goal.overflow_add-result-3
overflow_add-result-3 g t c =
    let few = quarters_small _ _ _ _ _ (g.met.S.Squares.full _ _ c.requires.known) (g.met.S.Squares.low _ _ c.requires.known) c.divide.ensures.square in
    omega (arith, few, c.count_cells-a.ensures, c.count_cells-b.ensures, c.count_cells-c.ensures, c.count_cells-d.ensures)

pub returns : goal.returns
returns g t c =
    let all = ap population c.divide.ensures.square in
    omega (arith, all, c.count_cells-a.ensures, c.count_cells-b.ensures, c.count_cells-c.ensures, c.count_cells-d.ensures)
