use Rattle.std.proofs.Common.{refl, sym, ap, ◌∙◌}
use Rattle.sha2.specs.Sha256.{sha256}
use Rattle.library_calls.specs.Reported.{by_text, by_fault}
use Rattle.library_calls.proofs.Answering.{at-form, no-text}
use Rattle.library_calls.proofs.in_form.key.Goals as goal

pub returns-in-Ok-clause-answers : goal.returns-in-Ok-clause-answers
returns-in-Ok-clause-answers c =
    at-form _ _ _ c.in-Some.form (sym c.form_of.ensures ∙ c.in-Some.is) (by_text c.digest.result (
      c.in-Ok.text.items,
      c.in-Ok.ensures.text,
      c.digest.ensures ∙ ap sha256 c.as_slice.ensures.value,
    ) c.give.ensures.gives c.give.ensures.line)

pub returns-in-Err-clause-answers : goal.returns-in-Err-clause-answers
returns-in-Err-clause-answers c =
    at-form _ _ _ c.in-Some.form (sym c.form_of.ensures ∙ c.in-Some.is) (by_fault c.in-Err.fault
    c.in-Err.ensures.fault
    (record { status = c.refuse.ensures.status; line = c.refuse.ensures.line; needed = c.refuse.ensures.needed; kept = refl }))

pub returns-in-Err-clause-fits : goal.returns-in-Err-clause-fits
returns-in-Err-clause-fits c = no-text c.refuse.result c.in-Err.fault c.refuse.ensures.status
