use Rattle.std.proofs.Common.{inl, inr, refl}
use Rattle.std.proofs.lemmas.Result.{err_from_is_err_and, IfErr-weaker}
use Rattle.life_cli.proofs.WorkLemmas.{placed_refused}
use Rattle.life_cli.proofs.later.later_by.Goals as goal

pub returns-in_err-text-clause-err : goal.returns-in_err-text-clause-err
returns-in_err-text-clause-err g c =
    let p = err_from_is_err_and c.from_residual.result c.from_residual.ensures.1 in
    rw (p.1, p.2) (refl, inl (placed_refused _ _ c.in_err-text.ensures.err))

pub returns-clause-err : goal.returns-clause-err
returns-clause-err g c =
    let has = c.in_ok-text.ensures.ok in
    IfErr-weaker c.text_after.result _ _ (λ refusal h. (h.0, inr (has.bytes, has.read, h.1 has.bytes has.is))) c.text_after.ensures.err
