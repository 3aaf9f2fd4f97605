use Rattle.theorems.proofs.FileLaw.{map_ok}
use Rattle.theorems.proofs.StepLaw.{next_is_fixed}
use Rattle.library_theorems.proofs.Reworded.{fixed_so, fixed_by_so}
use Rattle.library_theorems.proofs.steps.reported_next_texts_are_fixed.Goals as goal

pub returns-clause-by_rule : goal.returns-clause-by_rule
returns-clause-by_rule c = λ status here.
    map_ok c.canon.result
    (λ again is. fixed_so c.args.text.now again.items _ _ _
    (λ it stepped. next_is_fixed c.files_are_unique.ensures c.args.file.now it again.items stepped) c.step-by_rule.ensures.answers status here is)
    c.canon.ensures.text

pub returns-clause-by_table : goal.returns-clause-by_table
returns-clause-by_table c = λ status here.
    map_ok c.canon.result
    (λ again is. fixed_by_so c.files_are_unique.ensures c.args.options.limit c.args.file.now c.args.rules.now c.args.text.now again.items _ _ _ _
    c.step_by_table.ensures.steps status here is) c.canon.ensures.text
