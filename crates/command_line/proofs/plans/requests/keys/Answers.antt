use Rattle.std.proofs.Common.{codes, inl, refl, sym, subst, IsSome, Option}
use Rattle.clap.specs.Words.{Text, found_of, rows_of}
use Rattle.command_line.proofs.TaskLemmas.{files_explain, stream_explains}
use Rattle.command_line.proofs.plans.requests.keys.Goals as goal

pub returns-in-Err-clause-refused : goal.returns-in-Err-clause-refused
returns-in-Err-clause-refused c =
    stream_explains (codes "keys", rows_of (found_of c.args.found.now)) c.in-Err.usage refl
    (subst (λ (o : Option Text). IsSome o) c.in-Some.ensures refl) c.requires c.in-Err.ensures.err

pub returns-in-Err-any_files-clause-refused : goal.returns-in-Err-any_files-clause-refused
returns-in-Err-any_files-clause-refused c =
    files_explain (codes "keys", rows_of (found_of c.args.found.now)) c.in-Err-any_files.usage (inl refl)
    (λ lacks. (lacks, inl (refl, sym c.in-None.ensures))) c.requires c.in-Err-any_files.ensures.err
