use Rattle.std.proofs.Common.{sym, ◌∙◌}
use Rattle.theorems.proofs.StepBy.{next_by_is_fixed}
use Rattle.theorems.proofs.by_table.next_text_by_table_is_fixed.Goals as goal

pub returns : goal.returns
returns c =
    let again = rw c.deref.ensures.value at c.in_ok-again.ensures.text in
    c.are_equal.ensures.1 (c.deref-2.ensures.value
    ∙ next_by_is_fixed c.files_are_unique.ensures _ c.args.file.now _ _ c.in_ok-text.ensures.stepped again ∙ sym c.deref-3.ensures.value)
