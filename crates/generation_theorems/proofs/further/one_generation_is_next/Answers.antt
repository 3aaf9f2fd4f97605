use Rattle.std.proofs.Common.{sym, ◌∙◌}
use Rattle.generation_theorems.proofs.further.one_generation_is_next.Goals as goal

pub returns : goal.returns
returns c =
    c.are_equal.ensures.1 (c.deref.ensures.value
    ∙ c.later_texts_are_unique.ensures 1 c.args.file.now _ _ c.in_ok-text.ensures.later
    (c.one_generation_is_step.ensures c.args.file.now _ c.in_ok-next.ensures.stepped) ∙ sym c.deref-2.ensures.value)
