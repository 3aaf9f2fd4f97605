use Rattle.std.proofs.Common.{codes}
use Rattle.command_line.specs.CommandLine.{one_file_line, option}
use Rattle.command_line.proofs.plans.commands.step.Goals as goal

pub returns : goal.returns
returns c =
    let one = c.with_argument-command.ensures (one_file_line (codes "step")) (option (codes "table")) c.one_file-command.ensures c.option.ensures in
    let two = c.with_argument-command-2.ensures _ (option (codes "generations")) one c.option-2.ensures in
    c.with_explain.ensures _ two
