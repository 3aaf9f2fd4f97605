use Rattle.std.proofs.Common.{codes}
use Rattle.clap.specs.Words.{new_app}
use Rattle.command_line.specs.CommandLine.{files_rule, flag, option, short_flag}
use Rattle.command_line.proofs.plans.commands.any_files.Goals as goal

pub returns : goal.returns
returns c =
    let one = c.with_argument-command.ensures (new_app c.args.name.now) files_rule c.new_command.ensures c.files-files.ensures in
    let two = c.with_form-command.ensures _ one in
    let three = c.with_argument-command-2.ensures _ (flag (codes "ignore-generation")) two c.flag.ensures in
    let four = c.with_argument-command-3.ensures _ (flag (codes "zero")) three c.flag-2.ensures in
    let five = c.with_argument-command-4.ensures _ (option (codes "from")) four c.option.ensures in
    c.with_argument.ensures _ (short_flag (codes "recursive") 114) five c.short_flag.ensures
