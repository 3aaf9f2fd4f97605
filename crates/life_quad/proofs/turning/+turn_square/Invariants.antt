use Rattle.life_quad.proofs.turning.+turn_square.Given as goal

abbrev pub decreases-turn_square : goal.decreases-turn_square
decreases-turn_square g l = l.level
