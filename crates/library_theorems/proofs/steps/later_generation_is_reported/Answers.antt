use Rattle.generation_theorems.proofs.FurtherLaw.{later-is}
use Rattle.library_theorems.proofs.Reworded.{reworded, not_advanced}
use Rattle.library_theorems.proofs.steps.later_generation_is_reported.Goals as goal

pub returns : goal.returns
returns c =
    reworded c.step_generations.ensures.answers (later-is c.files_are_on_plane.ensures c.args.generations c.args.file.now)
    (not_advanced c.files_are_on_plane.ensures c.args.generations c.args.file.now)
