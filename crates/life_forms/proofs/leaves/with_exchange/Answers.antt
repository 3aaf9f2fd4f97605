use Rattle.std.proofs.Common.{false, sym, ◌∙◌, ap, arith}
use Rattle.life_quad.specs.Store.{eight}
use Rattle.life_quad.specs.Turning.{turned_tree}
use Rattle.life_forms.specs.Turns.{turn_of}
use Rattle.life_forms.proofs.TurnedLeaves.{exchange-turned}
use Rattle.life_forms.proofs.leaves.with_exchange.Goals as goal

pub returns : goal.returns
returns c =
    exchange-turned c.args.cells c.exchange.result (omega arith) (omega arith)
    (λ p. c.exchange.ensures p ∙ c.exchange-quarters.ensures _ ∙ c.exchange-halves.ensures _)
    ∙ ap (λ b. turned_tree (turn_of b false false) (eight c.args.cells)) (sym c.if-not-exchanged.false)
