use Rattle.life_step.specs.Stepped.{IsSteppedBy}
use Rattle.library_calls.specs.Stepping.{RefusesStepByWithin}
use Rattle.library_calls.proofs.Answering.{answered, where-reported}
use Rattle.library_calls.proofs.steps.step_by.Goals as goal

pub returns-clause-answers : goal.returns-clause-answers
returns-clause-answers c =
    answered (λ text. text.items) (IsSteppedBy c.args.table.now c.args.bytes.now)
    (RefusesStepByWithin c.args.table.now c.args.options.limit c.args.bytes.now) _ _ _
    c.next_of_file.result c.next_of_file.ensures.text c.next_of_file.ensures.fault c.tell.ensures.gives c.tell.ensures.no_line c.tell.ensures.tells

pub returns-clause-fits : goal.returns-clause-fits
returns-clause-fits c = where-reported c.tell.result c.next_of_file.result c.next_of_file.ensures.fits c.tell.ensures.text
