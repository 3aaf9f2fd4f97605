use Rattle.life_strip.proofs.FillingLemmas.{empty-fills}
use Rattle.life_strip.proofs.laws.empty_builder_fills.Goals as goal

pub returns : goal.returns
returns g c = empty-fills _ g.S.Squares.knows g.S.Squares.content
