use Rattle.theorems.proofs.FileLaw.{map_ok}
use Rattle.theorems.proofs.RefusalLaw.{map_err}
use Rattle.generation_theorems.proofs.FurtherLaw.{later-is, not-consumed_as}
use Rattle.generation_theorems.proofs.further.later_generation.Goals as goal

pub returns-clause-later : goal.returns-clause-later
returns-clause-later c =
    map_ok c.step_later.result (λ text h. later-is c.files_are_on_plane.ensures c.args.generations c.args.file.now text.items h) c.step_later.ensures.later

pub returns-clause-refused : goal.returns-clause-refused
returns-clause-refused c =
    map_err c.step_later.result (λ fault h. not-consumed_as c.files_are_on_plane.ensures c.args.generations c.args.file.now _ fault h)
    c.step_later.ensures.refused
