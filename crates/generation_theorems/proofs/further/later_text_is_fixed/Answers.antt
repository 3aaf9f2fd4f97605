use Rattle.std.proofs.Common.{sym, ◌∙◌}
use Rattle.generation_theorems.proofs.FurtherLaw.{later-is_fixed}
use Rattle.generation_theorems.proofs.further.later_text_is_fixed.Goals as goal

pub returns : goal.returns
returns c =
    let again = rw c.deref.ensures.value at c.in_ok-again.ensures.text in
    c.are_equal.ensures.1 (c.deref-2.ensures.value
    ∙ later-is_fixed c.files_are_unique.ensures c.args.generations c.args.file.now _ _ c.in_ok-text.ensures.later again ∙ sym c.deref-3.ensures.value)
