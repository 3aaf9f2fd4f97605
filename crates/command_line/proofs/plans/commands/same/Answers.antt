use Rattle.std.proofs.Common.{codes}
use Rattle.command_line.specs.CommandLine.{two_files_line}
use Rattle.command_line.proofs.plans.commands.same.Goals as goal

pub returns : goal.returns
returns c = c.with_explain.ensures _ (c.with_form-command.ensures (two_files_line (codes "same")) c.two_files-command.ensures)
