use Rattle.life_slide.proofs.slide.+window.Given as goal

abbrev pub decreases-window : goal.decreases-window
decreases-window g l = l.level
