use Rattle.std.proofs.Common.{inl}
use Rattle.theorems.specs.Joined.{all_bytes}
use Rattle.theorems.proofs.StepLaw.{stepped_is}
use Rattle.generation_theorems.proofs.FurtherLaw.{later-is}
use Rattle.library_theorems.proofs.Pieces.{is_open, status_is}
use Rattle.library_theorems.proofs.Reworded.{ended_so, canonical_to, rle_so, lines_so, unread, unread_at_all, unwritten, unstepped, not_advanced}
use Rattle.library_theorems.proofs.streams.text_of_stream.Goals as goal

pub returns-clause-opened : goal.returns-clause-opened
returns-clause-opened c = status_is c.args.output c.args.options.limit c.open-opened.result c.open-opened.new.stream.held.session c.open-opened.ensures

pub returns-clause-canonical : goal.returns-clause-canonical
returns-clause-canonical c = λ is ok.
    let file = all_bytes c.args.pieces.now in
    let begun = is_open c.args.output c.args.options.limit c.open-opened.result c.open-opened.new.stream.held.session c.open-opened.ensures ok in
    ended_so is c.args.options.limit file (c.reported_of_pieces.ensures c.args.output c.args.options.limit begun)
    (canonical_to c.files_are_on_plane.ensures c.texts_are_files.ensures c.texts_keep_patterns.ensures file) (λ fault u. u) (unread c.args.options.limit file)

pub returns-clause-rle : goal.returns-clause-rle
returns-clause-rle c = λ is ok.
    let file = all_bytes c.args.pieces.now in
    let begun = is_open c.args.output c.args.options.limit c.open-opened.result c.open-opened.new.stream.held.session c.open-opened.ensures ok in
    ended_so is c.args.options.limit file (c.reported_of_pieces.ensures c.args.output c.args.options.limit begun) (rle_so file) (λ fault. inl)
    (unwritten c.args.options.limit file)

pub returns-clause-lines : goal.returns-clause-lines
returns-clause-lines c = λ is ok.
    let file = all_bytes c.args.pieces.now in
    let begun = is_open c.args.output c.args.options.limit c.open-opened.result c.open-opened.new.stream.held.session c.open-opened.ensures ok in
    ended_so is c.args.options.limit file (c.reported_of_pieces.ensures c.args.output c.args.options.limit begun)
    (lines_so c.canonical_is_least.ensures c.files_are_on_plane.ensures c.files_are_unique.ensures c.texts_are_files.ensures
    c.texts_keep_patterns.ensures file) (λ fault u. u) (unread c.args.options.limit file)

pub returns-clause-next : goal.returns-clause-next
returns-clause-next c = λ is ok.
    let file = all_bytes c.args.pieces.now in
    let begun = is_open c.args.output c.args.options.limit c.open-opened.result c.open-opened.new.stream.held.session c.open-opened.ensures ok in
    ended_so is c.args.options.limit file (c.reported_of_pieces.ensures c.args.output c.args.options.limit begun) (stepped_is c.files_are_on_plane.ensures file)
    (λ fault u. inl (unread_at_all c.args.options.limit file fault u))
    (unstepped c.files_are_on_plane.ensures c.args.options.limit file)

pub returns-clause-later : goal.returns-clause-later
returns-clause-later c = λ n is ok.
    let file = all_bytes c.args.pieces.now in
    let begun = is_open c.args.output c.args.options.limit c.open-opened.result c.open-opened.new.stream.held.session c.open-opened.ensures ok in
    ended_so is c.args.options.limit file (c.reported_of_pieces.ensures c.args.output c.args.options.limit begun) (later-is c.files_are_on_plane.ensures n file)
    (λ fault u. inl (unread_at_all c.args.options.limit file fault u))
    (not_advanced c.files_are_on_plane.ensures n file)
