use Rattle.life_pattern.proofs.Fits.{read-fits}
use Rattle.rows.proofs.patterns.texts_read.Goals as goal

pub texts_of-requires : goal.texts_of-requires
texts_of-requires c = read-fits _ _ _ c.in_ok-pattern.ensures.pattern
