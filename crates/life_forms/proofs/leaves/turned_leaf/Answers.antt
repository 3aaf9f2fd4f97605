use Rattle.std.proofs.Common.{◌∙◌, ap, false}
use Rattle.life_quad.specs.Turning.{turned_tree}
use Rattle.life_forms.specs.Turns.{turn_of}
use Rattle.life_forms.proofs.TurnedLeaves.{all-turned}
use Rattle.life_forms.proofs.leaves.turned_leaf.Goals as goal

pub returns : goal.returns
returns c =
    let turn = c.args.turn in
    c.with_exchange.ensures ∙ ap (turned_tree (turn_of turn.exchange false false)) c.with_rows-rows.ensures
    ∙ ap (λ t. turned_tree (turn_of turn.exchange false false) (turned_tree (turn_of false false turn.rows) t)) c.with_columns-columns.ensures
    ∙ all-turned turn.exchange turn.columns turn.rows c.args.cells
