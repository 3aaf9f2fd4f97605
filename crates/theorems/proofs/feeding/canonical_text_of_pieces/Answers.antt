use Rattle.theorems.specs.Joined.{all_bytes}
use Rattle.theorems.proofs.FileLaw.{map_ok, text_is_file}
use Rattle.theorems.proofs.TextLaw.{text_of_file}
use Rattle.theorems.proofs.feeding.canonical_text_of_pieces.Goals as goal

pub returns-clause-text : goal.returns-clause-text
returns-clause-text c =
    map_ok c.text_of_pieces.result (λ text h. text_of_file c.files_are_on_plane.ensures (all_bytes c.args.pieces.now) text.items h)
    c.text_of_pieces.ensures.text

pub returns-clause-same : goal.returns-clause-same
returns-clause-same c =
    map_ok c.text_of_pieces.result (λ text h. text_is_file c.texts_keep_patterns.ensures (all_bytes c.args.pieces.now) text.items h)
    c.text_of_pieces.ensures.text
