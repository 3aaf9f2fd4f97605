use Rattle.library_theorems.proofs.Reworded.{reworded, lines_so, unread}
use Rattle.library_theorems.proofs.texts.lines_are_reported.Goals as goal

pub returns : goal.returns
returns c =
    reworded c.show.ensures.answers
    (lines_so c.canonical_is_least.ensures c.files_are_on_plane.ensures c.files_are_unique.ensures c.texts_are_files.ensures c.texts_keep_patterns.ensures
    c.args.file.now)
    (unread c.args.options.limit c.args.file.now)
