use Rattle.library_theorems.proofs.Reworded.{reworded, canonical_to, unread}
use Rattle.library_theorems.proofs.texts.text_is_reported.Goals as goal

pub returns : goal.returns
returns c =
    reworded c.canon.ensures.answers (canonical_to c.files_are_on_plane.ensures c.texts_are_files.ensures c.texts_keep_patterns.ensures c.args.file.now)
    (unread c.args.options.limit c.args.file.now)
