use Rattle.std.proofs.Common.{sym, ◌∙◌}
use Rattle.library_calls.proofs.Answering.{at-form}
use Rattle.library_calls.proofs.comparison.same_form.Goals as goal

pub returns-clause-compares : goal.returns-clause-compares
returns-clause-compares c = at-form _ _ _ c.in-Some.form (sym c.form_of.ensures ∙ c.in-Some.is) c.compare.ensures.compares
