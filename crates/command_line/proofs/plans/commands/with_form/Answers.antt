use Rattle.std.proofs.Common.{codes}
use Rattle.command_line.specs.CommandLine.{option}
use Rattle.command_line.proofs.plans.commands.with_form.Goals as goal

pub returns : goal.returns
returns c = λ line reads.
    let one = c.with_argument-command.ensures line (option (codes "form")) reads c.option.ensures in
    c.with_argument.ensures _ (option (codes "within")) one c.option-2.ensures
