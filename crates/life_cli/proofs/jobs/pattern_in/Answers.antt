use Rattle.std.proofs.Common.{ap, refl, Err}
use Rattle.life_base.specs.declared.fault.Fault.{Fault}
use Rattle.life_cli.proofs.WorkLemmas.{no_file, no_pattern, not_so}
use Rattle.pattern_sources.proofs.SourceLemmas.{too_small}
use Rattle.life_cli.proofs.jobs.pattern_in.Goals as goal

pub returns-in-Ok-clause-pattern : goal.returns-in-Ok-clause-pattern
returns-in-Ok-clause-pattern g c =
    let whole = c.in-Ok.ensures.only in
    record { bytes = whole.bytes; read = whole.read; pattern = whole.is; adds = whole.adds; fault = tt }

pub returns-in-Err-clause-err : goal.returns-in-Err-clause-err
returns-in-Err-clause-err g c =
    let why = no_file _ _ c.pattern_of.new.store c.in-Err.fault c.refusals_have_kinds.ensures c.in-Err.ensures.reads.fault
    (λ full. too_small _ _ _ _ c.in-Err.ensures.reads.reads c.pattern_of.ensures.squares (ap (λ (f : Fault). Err f) full))
    (c.is_of_no_file.ensures.0 c.if-is_of_no_file.true) in
    rw c.refusal_in.ensures (refl, (refl, why))

pub returns-in-Err-2-clause-pattern : goal.returns-in-Err-2-clause-pattern
returns-in-Err-2-clause-pattern g c =
    rw c.refusal_in-in-Err-2.ensures (no_pattern c.args.of_second _ c.pattern_of.new.store _ c.in-Err.fault c.in-Err.ensures.reads.fault
    (not_so c.is_of_no_file.result _ c.is_of_no_file.ensures c.if-is_of_no_file.false))
