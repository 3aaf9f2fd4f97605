use Rattle.std.proofs.Common.{codes}
use Rattle.command_line.specs.CommandLine.{one_file_line}
use Rattle.command_line.proofs.plans.commands.canon.Goals as goal

pub returns : goal.returns
returns c = c.with_explain.ensures _ (c.with_form-command.ensures (one_file_line (codes "canon")) c.one_file-command.ensures)
