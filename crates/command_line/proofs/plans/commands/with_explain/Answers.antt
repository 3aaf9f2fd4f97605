use Rattle.std.proofs.Common.{codes}
use Rattle.command_line.specs.CommandLine.{flag}
use Rattle.command_line.proofs.plans.commands.with_explain.Goals as goal

pub returns : goal.returns
returns c = λ line reads. c.with_argument.ensures line (flag (codes "explain")) reads c.explain.ensures
