use Rattle.std.proofs.Common.{sym, ◌∙◌}
use Rattle.library_calls.proofs.Answering.{at-form}
use Rattle.library_calls.proofs.in_form.canon_form.Goals as goal

pub returns-clause-answers : goal.returns-clause-answers
returns-clause-answers c = at-form _ _ _ c.in-Some.form (sym c.form_of.ensures ∙ c.in-Some.is) c.answer.ensures.answers
