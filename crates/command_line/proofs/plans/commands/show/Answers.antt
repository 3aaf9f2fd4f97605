use Rattle.std.proofs.Common.{codes}
use Rattle.command_line.specs.CommandLine.{one_file_line, option}
use Rattle.command_line.proofs.plans.commands.show.Goals as goal

pub returns : goal.returns
returns c =
    let one = c.with_argument-command.ensures (one_file_line (codes "show")) (option (codes "period")) c.one_file-command.ensures c.option.ensures in
    c.with_explain.ensures _ one
