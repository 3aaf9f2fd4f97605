use Rattle.life_slide.proofs.margins.+find.Given as goal

abbrev pub decreases-find : goal.decreases-find
decreases-find g l = l.level
