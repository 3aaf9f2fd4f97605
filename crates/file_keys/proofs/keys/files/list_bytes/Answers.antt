use Rattle.std.proofs.Common.{inl, refl}
use Rattle.pattern_sources.specs.Sources.{by_source}
use Rattle.file_keys.proofs.KeyRunLemmas.{lacks_bytes, unfailed}
use Rattle.file_keys.proofs.keys.files.list_bytes.Goals as goal

pub returns-then-failed-clause-err : goal.returns-then-failed-clause-err
returns-then-failed-clause-err g c =
    let failed = c.failed.ensures.0 c.if-failed.true in
    record { why = inl (by_source refl failed); read_fault = (λ is. failed, λ is. refl) }

pub read_within-requires-clause-working : goal.read_within-requires-clause-working
read_within-requires-clause-working g c = unfailed _ _ (g.met.R.Source.at_most_one c.args.source.now) c.failed.ensures c.if-failed.false

pub returns-clause-err : goal.returns-clause-err
returns-clause-err g c = lacks_bytes _ c.read_within.result c.read_within.ensures.failed c.read_within.ensures.long c.read_within.ensures.kinds
    c.read_within.ensures.reported
