use Rattle.theorems.proofs.FileLaw.{same_is}
use Rattle.theorems.proofs.RefusalLaw.{both_files, map_err, uncompared_as}
use Rattle.theorems.proofs.comparing.files_are_same.Goals as goal
use Rattle.life_base.proofs.Results.{if_ok_both}

pub returns-clause-answer : goal.returns-clause-answer
returns-clause-answer c =
    if_ok_both c.same.result (λ answer are h. same_is c.files_are_on_plane.ensures c.args.first.now c.args.second.now answer are h) c.same.ensures.accepted
    c.same.ensures.answer

pub returns-clause-refused : goal.returns-clause-refused
returns-clause-refused c = map_err c.same.result (λ fault h. uncompared_as c.args.first.now c.args.second.now _ fault h) c.same.ensures.fault

pub returns-clause-files : goal.returns-clause-files
returns-clause-files c = both_files c.args.first.now c.args.second.now c.same.result c.same.ensures.accepted
