use Rattle.std.proofs.Common.{subst, IfOk}
use Rattle.std.proofs.lemmas.Result.{IfOk-weaker}
use Rattle.clap.specs.Words.{with_rule}
use Rattle.command_line.specs.CommandLine.{ReadsAs}
use Rattle.command_line.proofs.LineLemmas.{reads-argument}
use Rattle.command_line.proofs.plans.commands.with_argument.Goals as goal

pub returns : goal.returns
returns c = λ line rule reads has.
    let old = subst (λ r. IfOk r (ReadsAs line)) c.in_ok-command.was reads in
    IfOk-weaker c.arg.result _ (ReadsAs (with_rule line rule)) (λ new adds. reads-argument line rule _ c.args.argument new old adds has) c.arg.ensures
