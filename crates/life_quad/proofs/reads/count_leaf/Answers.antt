use Rattle.std.proofs.Common.{arith, sym, ◌∙◌, ap}
use Rattle.life_quad.specs.Cells.{population}
use Rattle.life_quad.proofs.CountLemmas.{eight-ones}
use Rattle.life_quad.proofs.reads.count_leaf.Goals as goal

pub returns : goal.returns
returns g c = c.from.ensures ∙ sym (eight-ones c.in_ok-leaf.leaf (omega arith)) ∙ ap population (sym c.in_ok-leaf.ensures)
