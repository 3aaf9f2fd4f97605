use Rattle.std.proofs.Common.{sym, ◌∙◌}
use Rattle.theorems.proofs.StepLaw.{next_is_fixed}
use Rattle.theorems.proofs.stepping.next_text_is_fixed.Goals as goal

pub returns : goal.returns
returns c =
    let again = rw c.deref.ensures.value at c.in_ok-again.ensures.text in
    c.are_equal.ensures.1 (c.deref-2.ensures.value
    ∙ next_is_fixed c.files_are_unique.ensures c.args.file.now _ _ c.in_ok-text.ensures.stepped again ∙ sym c.deref-3.ensures.value)
