use Rattle.std.proofs.Common.{refl, ◌∙◌}
use Rattle.life_writer.proofs.PieceFacts.{pieces-text}
use Rattle.life_writer.proofs.writer.text_of.Goals as goal

pub returns-clause-text : goal.returns-clause-text
returns-clause-text c =
    c.in_ok-walk_pattern.ensures.took
    ∙ pieces-text c.args.store.now c.args.pattern.now c.requires _ _ c.in_ok-prefix_with_space.ensures.prefix refl
