use Rattle.std.proofs.Common.{◌∙◌}
use Rattle.file_keys.proofs.KeyRunLemmas.{hears_on}
use Rattle.file_keys.proofs.StreamRunLemmas.{entry_of, goes_on}
use Rattle.file_keys.proofs.stream.runs.StreamRun.end_piece.Goals as goal

pub returns-clause-entry : goal.returns-clause-entry
returns-clause-entry g c = λ piece holds.
    let processed = c.processed-outcome.ensures piece holds in
    entry_of _ _ _ _ _ _ _ _ _ _ c.put_warned.result c.args.self.now.form _ piece _ _ _ (c.as_bytes-name.ensures.value ∙ c.format.ensures.text)
    processed.0 processed.1 c.put_warned.ensures.entry

pub returns-clause-can : goal.returns-clause-can
returns-clause-can g c =
    goes_on _ c.put_warned.result _ _ c.put_warned.ensures.sink.works (hears_on _ _ _ _ _ _ _ _ c.put_warned.ensures.entry.writes.reported)
