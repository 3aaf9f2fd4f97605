use Rattle.theorems.proofs.FileLaw.{map_ok}
use Rattle.library_theorems.proofs.Reworded.{text_so, counted_so}
use Rattle.library_theorems.proofs.texts.reported_texts_are_those_of_canon.Goals as goal

pub returns-clause-text : goal.returns-clause-text
returns-clause-text c = λ status.
    map_ok c.canon.result (λ text is. text_so c.files_are_unique.ensures c.args.file.now text.items _ _ _ is c.canon-text.ensures.answers status)
    c.canon.ensures.text

pub returns-clause-lines : goal.returns-clause-lines
returns-clause-lines c = λ status.
    map_ok c.canon.result
    (λ text is. counted_so c.files_are_on_plane.ensures c.files_are_unique.ensures c.texts_are_files.ensures c.args.file.now text.items _ _ _ is
    c.show-lines.ensures.answers status) c.canon.ensures.text
