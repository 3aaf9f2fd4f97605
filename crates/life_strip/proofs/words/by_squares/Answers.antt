use Rattle.std.proofs.Common.{◌∙◌, ap}
use Rattle.std.specs.Int.{bit_at}
use Rattle.life_strip.proofs.WordLemmas.{squares-place}
use Rattle.life_strip.proofs.words.by_squares.Goals as goal

pub returns : goal.returns
returns c i r k li lr lk =
    c.exchange.ensures _ ∙ c.exchange-squares.ensures _ ∙ c.exchange-halves.ensures _ ∙ ap (bit_at c.args.rows) (squares-place i r k li lr lk)
