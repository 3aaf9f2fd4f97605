use Rattle.std.proofs.Common.{inl, inr, refl}
use Rattle.std.proofs.lemmas.Result.{err_from_is_err_and}
use Rattle.life_cli.proofs.steps.next_by_table_of.Goals as goal

pub returns-in_err-table-clause-err : goal.returns-in_err-table-clause-err
returns-in_err-table-clause-err g c =
    let p = err_from_is_err_and c.from_residual.result c.from_residual.ensures.1 in
    rw (p.1, p.2) (inl (c.in_err-table.ensures.err, (refl, c.requires.first_reads)))

pub returns-in_err-next_by-clause-err : goal.returns-in_err-next_by-clause-err
returns-in_err-next_by-clause-err g c =
    let p = err_from_is_err_and c.from_residual-in_err-next_by.result c.from_residual-in_err-next_by.ensures.1 in
    rw (p.1, p.2) (inr (refl, (c.in_ok-table.table, c.in_ok-table.ensures.ok, c.in_err-next_by.ensures.err)))
