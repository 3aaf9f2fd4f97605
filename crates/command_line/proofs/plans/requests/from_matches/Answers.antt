use Rattle.std.proofs.Common.{List, Option, refl, subst, sym}
use Rattle.clap.specs.Words.{Row, Text, found_of, rows_of, subcommand_rows_of}
use Rattle.std.proofs.lemmas.Bool.{false≢true}
use Rattle.command_line.specs.Plans.{AreWhole, NamesInputTwice}
use Rattle.command_line.proofs.TaskLemmas.{anyway, entered, not_entered}
use Rattle.command_line.proofs.plans.requests.from_matches.Goals as goal

pub unreachable-unreachable : goal.unreachable-unreachable
unreachable-unreachable c = not_entered c.args.matches.now c.in_default.ensures.name c.requires

pub returns-then-names_input_twice-clause-refused : goal.returns-then-names_input_twice-clause-refused
returns-then-names_input_twice-clause-refused c =
    let at = entered c.args.matches.now c.in-Some.command.now (rows_of (found_of c.in-Some.found.now)) c.in-Some.ensures.name c.in-Some.ensures.rows in
    (refl, rw at (c.if-names_input_twice.ensures.0 refl))

pub request_of-requires-clause-whole : goal.request_of-requires-clause-whole
request_of-requires-clause-whole c =
    let at = entered c.args.matches.now c.in-Some.command.now (rows_of (found_of c.in-Some.found.now)) c.in-Some.ensures.name c.in-Some.ensures.rows in
    subst AreWhole at c.requires

pub request_of-requires-clause-once : goal.request_of-requires-clause-once
request_of-requires-clause-once c = λ twice. false≢true (c.if-names_input_twice.ensures.1 twice)

pub returns-clause-ok : goal.returns-clause-ok
returns-clause-ok c =
    let at = entered c.args.matches.now c.in-Some.command.now (rows_of (found_of c.in-Some.found.now)) c.in-Some.ensures.name c.in-Some.ensures.rows in
    rw at c.request_of.ensures.ok

pub returns-clause-once : goal.returns-clause-once
returns-clause-once c =
    let at = entered c.args.matches.now c.in-Some.command.now (rows_of (found_of c.in-Some.found.now)) c.in-Some.ensures.name c.in-Some.ensures.rows in
    let once = subst (λ (m : Option (Text × List Row)). ¬ NamesInputTwice m) (sym at) (λ twice. false≢true (c.if-names_input_twice.ensures.1 twice)) in
    anyway c.request_of.result (¬ NamesInputTwice (subcommand_rows_of c.args.matches.now)) once

pub returns-clause-refused : goal.returns-clause-refused
returns-clause-refused c =
    let at = entered c.args.matches.now c.in-Some.command.now (rows_of (found_of c.in-Some.found.now)) c.in-Some.ensures.name c.in-Some.ensures.rows in
    rw at c.request_of.ensures.refused
