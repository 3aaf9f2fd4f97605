use Rattle.std.proofs.Common.{◌≡◌, true, refl, map}
use Rattle.clap.specs.Words.{is_simple_and_free}
use Rattle.clap.proofs.OnLiterals.{clap_on_literals}
use Rattle.command_line.specs.CommandLine.{program}
use Rattle.command_line.proofs.MatchesLemmas.{fails_by_line}
use Rattle.command_line.proofs.plans.commands.parse.Goals as goal

simple : is_simple_and_free program ≡ true
unfolding clap_on_literals
simple = refl

pub returns-clause-kinds : goal.returns-clause-kinds
returns-clause-kinds g c =
    fails_by_line program _ (map g.S.AsStr.text c.args.words.now) _ c.in_ok-command.ensures.app c.try_get_matches_from.ensures.kinds simple
