use Rattle.life_quad.proofs.reads.+count_cells.Given as goal

abbrev pub decreases-count_cells : goal.decreases-count_cells
decreases-count_cells g l = l.level
