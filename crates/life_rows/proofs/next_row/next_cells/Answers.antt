use Rattle.life_rows.proofs.NextRowLemmas.{next-states}
use Rattle.life_rows.proofs.next_row.next_cells.Goals as goal

pub returns : goal.returns
returns c north here south place in_north in_here in_south at next column there =
    next-states c.args.rule.now (record { before = c.columns_around.result; here = c.columns_around-2.result; after = c.columns_around-3.result })
    c.next_word.result place north here south c.requires c.next_word.ensures in_north in_here in_south
    (c.columns_around.ensures north place at.0 next.0) (c.columns_around-2.ensures here place at.1 next.1) (c.columns_around-3.ensures south place at.2 next.2)
    column there
