use Rattle.std.proofs.Common.{codes}
use Rattle.clap.specs.Words.{new_app}
use Rattle.command_line.specs.CommandLine.{required_file}
use Rattle.command_line.proofs.plans.commands.one_file.Goals as goal

pub returns : goal.returns
returns c = c.with_argument.ensures (new_app c.args.name.now) (required_file (codes "FILE")) c.new_command.ensures c.file-file.ensures
