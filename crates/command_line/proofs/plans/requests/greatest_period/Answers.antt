use Rattle.std.proofs.Common.{sym}
use Rattle.clap.specs.Words.{found_of, rows_of}
use Rattle.command_line.specs.Plans.{HasNoMost}
use Rattle.command_line.proofs.MatchesLemmas.{such_word}
use Rattle.command_line.proofs.plans.requests.greatest_period.Goals as goal

pub returns-in-None-most_of-clause-err : goal.returns-in-None-most_of-clause-err
returns-in-None-most_of-clause-err c =
    let read = rw c.in-Some.is at c.value.ensures in
    let named = rw c.in-None-most_of.is at c.most_of.ensures in
    such_word (HasNoMost c.args.id.now (rows_of (found_of c.args.found.now))) c.refusal.result c.refusal.ensures (c.in-Some.word.now, sym read, named)
