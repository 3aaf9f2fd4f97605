use Rattle.std.proofs.lemmas.Result.{err_from_is_err_and}
use Rattle.life_cli.proofs.WorkLemmas.{no_table_input, read_as_table, refused_table}
use Rattle.life_cli.proofs.steps.table_in.Goals as goal

pub returns-in_err-bytes-clause-err : goal.returns-in_err-bytes-clause-err
returns-in_err-bytes-clause-err g c =
    let p = err_from_is_err_and c.from_residual.result c.from_residual.ensures.1 in
    rw (p.1, p.2) (no_table_input _ _ c.in_err-bytes.ensures.err)

pub returns-clause-ok : goal.returns-clause-ok
returns-clause-ok g c =
    read_as_table _ c.in_ok-bytes.bytes.items c.read_table_seeded.result c.in_ok-bytes.ensures.ok
    (rw c.as_slice.ensures.value at c.read_table_seeded.ensures.ok)

pub returns-clause-err : goal.returns-clause-err
returns-clause-err g c =
    refused_table _ c.in_ok-bytes.bytes.items c.read_table_seeded.result c.in_ok-bytes.ensures.ok
    (rw c.as_slice.ensures.value at c.read_table_seeded.ensures.err)
