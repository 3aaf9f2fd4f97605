use Rattle.std.proofs.Common.{[]}
use Rattle.std.proofs.lemmas.Result.{err_from_is_err_and}
use Rattle.file_keys.proofs.StreamRunLemmas.{partly_reported, stream_reported}
use Rattle.file_keys.proofs.stream.runs.StreamRun.take_stream.Goals as goal

pub returns-in_err-broken-clause-reported : goal.returns-in_err-broken-clause-reported
returns-in_err-broken-clause-reported g c =
    let p = err_from_is_err_and c.from_residual.result c.from_residual.ensures.1 in
    let (came, left, consumes, own, took) = c.in_err-broken.ensures.took [] c.requires.begun in
    rw p.1 (partly_reported _ _ _ _ c.args.self.now.form _ _ came left _ _ _ _ _ _ _ _ consumes took)

pub returns-clause-reported : goal.returns-clause-reported
returns-clause-reported g c =
    let (came, left, consumes, own, took) = c.in_ok-broken.ensures.took [] c.requires.begun in
    let (entries, tells, writes) = c.end_stream.ensures.reported left own in
    stream_reported _ _ _ _ c.args.self.now.form _ _ _ came left c.in_ok-broken.broken _ _ _ _ _ _ _ _ _ c.end_stream.result entries
    c.in_ok-broken.ensures.form c.in_ok-broken.ensures.style consumes took c.in_ok-broken.ensures.end tells writes
