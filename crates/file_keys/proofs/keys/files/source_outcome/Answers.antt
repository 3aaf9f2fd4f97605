use Rattle.std.proofs.Common.{ap, sym}
use Rattle.life_base.specs.declared.fault.Fault.{Fault}
use Rattle.pattern_sources.specs.Sources.{by_input, by_source}
use Rattle.file_hints.specs.Refused.{foreign_on}
use Rattle.file_keys.proofs.KeyRunLemmas.{outcome_of_fault, outcome_of_key, unfailed}
use Rattle.file_keys.proofs.keys.files.source_outcome.Goals as goal

pub returns-then-failed : goal.returns-then-failed
returns-then-failed g c =
    let failed = c.failed.ensures.0 c.if-failed.true in
    record {
      comes = (by_input (by_source c.of-fault.ensures failed), sym (ap (λ (f : Fault). foreign_on f.kind c.args.foreign) c.of-fault.ensures));
      read_fault = (λ is. failed, λ is. ap (λ (f : Fault). f.kind) c.of-fault.ensures);
    }

pub key_of-requires : goal.key_of-requires
key_of-requires g c = unfailed _ _ (g.met.R.Source.at_most_one c.args.source.now) c.failed.ensures c.if-failed.false

pub returns-in-Ok : goal.returns-in-Ok
returns-in-Ok g c = outcome_of_key _ _ _ _ c.in-Ok.ensures.ok c.in-Ok.ensures.reported

pub returns-in-Err : goal.returns-in-Err
returns-in-Err g c = outcome_of_fault c.refusals_have_kinds.ensures _ _ _ _ c.in-Err.ensures.err c.foreign_on-foreign.ensures c.in-Err.ensures.reported
