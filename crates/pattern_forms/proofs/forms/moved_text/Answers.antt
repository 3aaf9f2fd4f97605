use Rattle.std.proofs.lemmas.Result.{IfOk-weaker}
use Rattle.pattern_forms.proofs.forms.moved_text.Goals as goal

pub returns-clause-text : goal.returns-clause-text
returns-clause-text c =
    IfOk-weaker c.text_of.result _ _ (λ text is. record { form = _; moved = c.in_ok-form.ensures.moved; is = is }) c.text_of.ensures.text
