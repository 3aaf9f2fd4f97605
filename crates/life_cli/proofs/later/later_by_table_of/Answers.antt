use Rattle.std.proofs.Common.{inl, inr, refl}
use Rattle.std.proofs.lemmas.Result.{IfErr-weaker, IfOk-weaker}
use Rattle.life_cli.proofs.later.later_by_table_of.Goals as goal

pub returns-in-Err-clause-err : goal.returns-in-Err-clause-err
returns-in-Err-clause-err g c = inl (c.in-Err.ensures.err, (refl, c.requires.first_reads))

pub returns-clause-ok : goal.returns-clause-ok
returns-clause-ok g c = IfOk-weaker c.later_by.result _ _ (λ text has. (c.in-Ok.table, c.in-Ok.ensures.ok, has)) c.later_by.ensures.ok

pub returns-clause-err : goal.returns-clause-err
returns-clause-err g c =
    IfErr-weaker c.later_by.result _ _ (λ refusal h. inr (h.0, (c.in-Ok.table, c.in-Ok.ensures.ok, h.1))) c.later_by.ensures.err
