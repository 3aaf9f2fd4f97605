use Rattle.life_strip.proofs.FillingLemmas.{filling-stays}
use Rattle.life_strip.proofs.laws.filling_stays.Goals as goal

pub returns : goal.returns
returns g c = filling-stays _ g.S.Squares.knows g.S.Squares.content
