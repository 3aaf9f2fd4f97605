use Rattle.theorems.proofs.StepLaw.{stepped_is}
use Rattle.library_theorems.proofs.Reworded.{reworded, unstepped}
use Rattle.library_theorems.proofs.steps.next_is_reported.Goals as goal

pub returns : goal.returns
returns c =
    reworded c.step.ensures.answers (stepped_is c.files_are_on_plane.ensures c.args.file.now)
    (unstepped c.files_are_on_plane.ensures c.args.options.limit c.args.file.now)
