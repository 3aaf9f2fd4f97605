use Rattle.std.proofs.Common.{refl, sym, subst}
use Rattle.library_calls.specs.ComparingInForm.{ComparesInForm, by_answer, by_fault}
use Rattle.library_calls.proofs.Answering.{is-answer, not-compared}
use Rattle.library_calls.proofs.comparison.compare.Goals as goal

pub returns-in-Ok-clause-compares : goal.returns-in-Ok-clause-compares
returns-in-Ok-clause-compares c =
    subst (ComparesInForm c.args.form c.args.options.limit c.args.first.now c.args.second.now) (sym c.of.ensures)
    (by_answer refl refl c.in-Ok.ensures.accepted.0 c.in-Ok.ensures.accepted.1
    (c.in-Ok.ensures.small c.args.options.limit c.new_store-store.ensures) (is-answer c.in-Ok.answer c.in-Ok.ensures.answer))

pub returns-in-Ok-clause-fits : goal.returns-in-Ok-clause-fits
returns-in-Ok-clause-fits c = λ status. c.in-Ok.ensures.fits c.args.options.limit c.new_store-store.ensures

pub returns-clause-compares : goal.returns-clause-compares
returns-clause-compares c =
    subst (ComparesInForm c.args.form c.args.options.limit c.args.first.now c.args.second.now) (sym c.refused.ensures)
    (by_fault c.in-Err.fault refl refl refl (c.in-Err.ensures.fault c.args.options.limit c.new_store-store.ensures))

pub returns-clause-fits : goal.returns-clause-fits
returns-clause-fits c = not-compared c.refused.result c.in-Err.fault c.refused.ensures
