use Rattle.std.proofs.Common.{List, ℕ, ◌++◌, ap, ◌∙◌, Some}
use Rattle.theorems.proofs.FileLaw.{map_ok}
use Rattle.theorems.proofs.StreamLaw.{appended, one_text}
use Rattle.program_theorems.proofs.AnswerLaw.{given_second, written_canonical}
use Rattle.program_theorems.proofs.outputs.written_text_is_that_of_canon.Goals as goal

pub work_seeded-status-requires-clause-second_given : goal.work_seeded-status-requires-clause-second_given
work_seeded-status-requires-clause-second_given g c = given_second c.args.run.now.task c.requires.given.second_given

pub returns : goal.returns
returns g c =
    λ held e f few is.
    let done = c.work_seeded-status.ensures.done few in
    let text = done.text in
    map_ok c.canon.result
    (λ other k. appended _ _ held text done.written f
    ∙ ap (λ (t : List ℕ). Some (held ++ t))
    (one_text c.layers_agree.ensures.unique c.args.file.now text other.items
    (written_canonical c.args.run.now.task _ _ _ text c.args.file.now done.answer e is) k))
    c.canon.ensures.text
