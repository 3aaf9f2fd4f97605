use Rattle.std.proofs.Common.{subst, IfOk}
use Rattle.std.proofs.lemmas.Result.{IfOk-weaker}
use Rattle.clap.specs.Words.{with_subcommand}
use Rattle.command_line.specs.CommandLine.{ReadsAs}
use Rattle.command_line.proofs.LineLemmas.{reads-subcommand}
use Rattle.command_line.proofs.plans.commands.with_command.Goals as goal

pub returns : goal.returns
returns c = λ line more reads below.
    let old = subst (λ r. IfOk r (ReadsAs line)) c.in_ok-command.was reads in
    let new = subst (λ r. IfOk r (ReadsAs more)) c.in_ok-added.was below in
    IfOk-weaker c.subcommand.result _ (ReadsAs (with_subcommand line more.top))
    (λ made adds. reads-subcommand line more _ _ made old adds new) c.subcommand.ensures
