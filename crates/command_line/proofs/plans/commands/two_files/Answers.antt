use Rattle.std.proofs.Common.{codes}
use Rattle.clap.specs.Words.{new_app}
use Rattle.command_line.specs.CommandLine.{required_file}
use Rattle.command_line.proofs.plans.commands.two_files.Goals as goal

pub returns : goal.returns
returns c =
    let name = c.args.name.now in
    let one = c.with_argument-command.ensures (new_app name) (required_file (codes "A")) c.new_command.ensures c.file-first.ensures in
    c.with_argument.ensures _ (required_file (codes "B")) one c.file-second.ensures
