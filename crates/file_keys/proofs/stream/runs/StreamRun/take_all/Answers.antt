use Rattle.std.proofs.lemmas.Result.{err_from_is_err_and}
use Rattle.file_keys.proofs.KeyRunLemmas.{on_ok}
use Rattle.file_keys.proofs.StreamRunLemmas.{written_err, written_flushed}
use Rattle.file_keys.proofs.stream.runs.StreamRun.take_all.Goals as goal

pub returns-in_err-take_opened-clause-reported : goal.returns-in_err-take_opened-clause-reported
returns-in_err-take_opened-clause-reported g c =
    let p = err_from_is_err_and c.from_residual.result c.from_residual.ensures.1 in
    let (entries, is_all, all, tells, writes) = c.in_err-take_opened.ensures.reported in
    rw p.1 (entries, is_all, tt, tells, written_err _ _ _ _ _ _ _ _ _ _ _ _ entries writes)

pub returns-clause-reported : goal.returns-clause-reported
returns-clause-reported g c =
    let (entries, is_all, all, tells, writes) = c.in_ok-take_opened.ensures.reported in
    (entries, is_all, on_ok _ c.flush.result all, tells, written_flushed _ _ _ _ _ _ _ _ _ _ _ c.flush.result entries writes c.flush.ensures.bytes)
