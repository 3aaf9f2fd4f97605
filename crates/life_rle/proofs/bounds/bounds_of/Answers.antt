use Rattle.std.proofs.Common.{◌+◌, drop, sym, ap, ◌∙◌}
use Rattle.std.proofs.lemmas.List.{at_drop_more, at_drop_all}
use Rattle.life_rle.proofs.BoxOnto.{bounds_onto, bounds_onto-first, bounds_onto-sides}
use Rattle.life_rle.proofs.bounds.bounds_of.Goals as goal

pub loop-cell-init : goal.loop-cell-init
loop-cell-init c = ap (λ b. bounds_onto b c.args.cells.now) c.bounds_of_cell-bounds.ensures ∙ bounds_onto-first c.args.first.now c.args.cells.now

pub loop-cell-preserved : goal.loop-cell-preserved
loop-cell-preserved c =
    let said = c.bounds_with-bounds.ensures in
    bounds_onto-sides c.loop-cell.bounds c.bounds_with-bounds.result _ (drop (c.loop-cell.cell-index + 1) c.args.cells.now)
    said.left said.top said.right said.bottom
    ∙ sym (at_drop_more (bounds_onto c.loop-cell.bounds) c.args.cells.now c.loop-cell.cell-index _ c.loop-cell-test.true)
    ∙ c.loop-cell.invariant

pub returns : goal.returns
returns c = sym (at_drop_all (bounds_onto c.loop-cell.bounds) c.args.cells.now c.loop-cell.cell-index c.loop-cell-test.false) ∙ c.loop-cell.invariant
