use Rattle.std.proofs.Common.{codes}
use Rattle.command_line.specs.CommandLine.{one_file_line, required_option}
use Rattle.command_line.proofs.plans.commands.convert.Goals as goal

pub returns : goal.returns
returns c =
    let line = one_file_line (codes "convert") in
    let one = c.with_argument-command.ensures line (required_option (codes "to")) c.one_file-command.ensures c.needed_option.ensures in
    c.with_explain.ensures _ one
