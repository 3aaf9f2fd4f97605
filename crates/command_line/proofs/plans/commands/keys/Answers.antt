use Rattle.std.proofs.Common.{codes}
use Rattle.command_line.specs.CommandLine.{files_line, flag, option}
use Rattle.clap.specs.Words.{with_rule}
use Rattle.command_line.proofs.plans.commands.keys.Goals as goal

pub returns : goal.returns
returns c =
    let with_json = c.with_argument-command.ensures (files_line (codes "keys")) (flag (codes "json")) c.any_files-command.ensures c.flag.ensures in
    c.with_argument.ensures (with_rule (files_line (codes "keys")) (flag (codes "json"))) (option (codes "stream")) with_json c.option.ensures
