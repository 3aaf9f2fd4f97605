use Rattle.theorems.proofs.FileLaw.{map_ok}
use Rattle.theorems.proofs.RefusalLaw.{map_err}
use Rattle.theorems.proofs.StepLaw.{stepped_is, unstepped_as}
use Rattle.theorems.proofs.stepping.next_generation.Goals as goal

pub returns-clause-stepped : goal.returns-clause-stepped
returns-clause-stepped c =
    map_ok c.step_life.result (λ text h. stepped_is c.files_are_on_plane.ensures c.args.file.now text.items h) c.step_life.ensures.stepped

pub returns-clause-refused : goal.returns-clause-refused
returns-clause-refused c =
    map_err c.step_life.result (λ fault h. unstepped_as c.files_are_on_plane.ensures c.args.file.now _ fault h) c.step_life.ensures.refused
