use Rattle.life_slide.proofs.parts.+part.Given as goal

abbrev pub decreases-part : goal.decreases-part
decreases-part g l = l.level
