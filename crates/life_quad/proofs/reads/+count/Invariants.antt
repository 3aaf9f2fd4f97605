use Rattle.life_quad.proofs.reads.+count.Given as goal

abbrev pub decreases-count : goal.decreases-count
decreases-count g l = l.level
