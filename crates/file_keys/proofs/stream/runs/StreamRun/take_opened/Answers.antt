use Rattle.file_keys.proofs.StreamRunLemmas.{unopened_reported}
use Rattle.file_keys.proofs.stream.runs.StreamRun.take_opened.Goals as goal

pub returns-in-Ok-clause-reported : goal.returns-in-Ok-clause-reported
returns-in-Ok-clause-reported g c =
    let (entries, is_all, all, tells, writes) = c.take_stream.ensures.reported in
    rw c.in-Ok.is (entries, is_all, all, (c.take_stream.new.source, tells), writes)

pub returns-in-Err-clause-reported : goal.returns-in-Err-clause-reported
returns-in-Err-clause-reported g c =
    rw c.in-Err.is (unopened_reported _ _ _ _ _ _ _ _ _ _ c.put_warned.result c.args.name.now c.in-Err.error c.kind.result c.kind.ensures
    c.put_warned.ensures.entry)
