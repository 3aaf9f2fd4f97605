use Rattle.std.proofs.Common.{codes}
use Rattle.command_line.specs.CommandLine.{named_program, canon_line, convert_line, same_line, show_line, step_line, keys_line, files_line}
use Rattle.command_line.proofs.plans.commands.golly_canon.Goals as goal

pub returns : goal.returns
returns c =
    let one = c.with_command-command.ensures named_program canon_line c.bare-command.ensures c.canon.ensures in
    let two = c.with_command-command-2.ensures _ convert_line one c.convert.ensures in
    let three = c.with_command-command-3.ensures _ same_line two c.same.ensures in
    let four = c.with_command-command-4.ensures _ show_line three c.show.ensures in
    let five = c.with_command-command-5.ensures _ step_line four c.step.ensures in
    let six = c.with_command-command-6.ensures _ keys_line five c.keys.ensures in
    c.with_command.ensures _ (files_line (codes "duplicates")) six c.any_files-duplicates.ensures
