use Rattle.life_pattern.proofs.Fits.{read-fits, read-same}
use Rattle.life_pattern.proofs.laws.patterns_fit.Goals as goal

pub returns : goal.returns
returns c = λ bytes store pattern h. (read-fits bytes store pattern h, read-same bytes store pattern h)
