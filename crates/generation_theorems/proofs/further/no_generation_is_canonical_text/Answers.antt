use Rattle.std.proofs.Common.{sym, ◌∙◌}
use Rattle.theorems.proofs.StreamLaw.{one_text}
use Rattle.generation_theorems.proofs.further.no_generation_is_canonical_text.Goals as goal

pub returns : goal.returns
returns c =
    c.are_equal.ensures.1 (c.deref.ensures.value
    ∙ one_text c.files_are_unique.ensures c.args.file.now _ _
    ((c.no_generation_is_canonical.ensures c.args.file.now _).0 c.in_ok-text.ensures.later) c.in_ok-canonical.ensures.text ∙ sym c.deref-2.ensures.value)
