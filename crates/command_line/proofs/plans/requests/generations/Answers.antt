use Rattle.std.proofs.Common.{sym}
use Rattle.clap.specs.Words.{found_of, rows_of}
use Rattle.command_line.specs.Plans.{HasNoNumber}
use Rattle.command_line.proofs.MatchesLemmas.{such_word}
use Rattle.command_line.proofs.plans.requests.generations.Goals as goal

pub returns-in-None-number_of-clause-err : goal.returns-in-None-number_of-clause-err
returns-in-None-number_of-clause-err c =
    let read = rw c.in-Some.is at c.value.ensures in
    let named = rw c.in-None-number_of.is at c.number_of.ensures in
    such_word (HasNoNumber (rows_of (found_of c.args.found.now))) c.refusal.result c.refusal.ensures (c.in-Some.word.now, sym read, named)
