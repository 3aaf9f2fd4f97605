use Rattle.std.proofs.Common.{◌≡◌, refl, true, map}
use Rattle.clap.specs.Words.{is_simple}
use Rattle.clap.proofs.OnLiterals.{clap_on_literals}
use Rattle.command_line.specs.CommandLine.{program}
use Rattle.command_line.proofs.Faultless.{whole}
use Rattle.command_line.proofs.MatchesLemmas.{files_of_request, in_matches}
use Rattle.command_line.proofs.plans.requests.request.Goals as goal

simple : is_simple program ≡ true
unfolding clap_on_literals
simple = refl

pub from_matches-requires : goal.from_matches-requires
from_matches-requires g c =
    let entered = (c.in_ok-matches.ensures.ok simple).1 in
    rw entered (whole (map g.S.AsStr.text c.args.words.now) c.in_ok-matches.ensures.kinds)

pub returns-clause-ok : goal.returns-clause-ok
returns-clause-ok g c = let entered = (c.in_ok-matches.ensures.ok simple).1 in rw (← entered) c.from_matches.ensures.ok

pub returns-clause-files : goal.returns-clause-files
returns-clause-files g c = files_of_request _ c.from_matches.result c.from_matches.ensures.ok

pub returns-clause-once : goal.returns-clause-once
returns-clause-once g c = let entered = (c.in_ok-matches.ensures.ok simple).1 in rw (← entered) c.from_matches.ensures.once

pub returns-clause-refused : goal.returns-clause-refused
returns-clause-refused g c =
    in_matches _ _ _ c.from_matches.result c.in_ok-matches.ensures.kinds (c.in_ok-matches.ensures.ok simple).1 c.from_matches.ensures.refused
