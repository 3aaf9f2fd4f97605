use Rattle.std.proofs.Common.{sym}
use Rattle.clap.specs.Words.{found_of, rows_of}
use Rattle.command_line.specs.Plans.{HasNoFormat}
use Rattle.command_line.proofs.MatchesLemmas.{such_word}
use Rattle.command_line.proofs.plans.requests.target.Goals as goal

pub returns-in-None-target_named-clause-err : goal.returns-in-None-target_named-clause-err
returns-in-None-target_named-clause-err c =
    let read = rw c.in-Some.is at c.value.ensures in
    let named = rw c.in-None-target_named.is at c.target_named.ensures in
    such_word (HasNoFormat (rows_of (found_of c.args.found.now))) c.refusal.result c.refusal.ensures (c.in-Some.word.now, sym read, named)
