use Rattle.theorems.specs.Joined.{all_bytes}
use Rattle.theorems.proofs.FileLaw.{map_ok}
use Rattle.theorems.proofs.StepLaw.{next_is_fixed}
use Rattle.library_theorems.proofs.Pieces.{is_open}
use Rattle.library_theorems.proofs.Reworded.{text_so, counted_so, fixed_so, of_form}
use Rattle.library_theorems.proofs.streams.text_of_stream_is_that_of_canon.Goals as goal

pub returns-clause-text : goal.returns-clause-text
returns-clause-text c = λ is cut opened status.
    let begun = is_open c.args.output c.args.options.limit c.open-opened.result c.open-opened.new.stream.held.session c.open-opened.ensures opened in
    map_ok c.canon-text.result
    (λ text canonical. text_so c.files_are_unique.ensures (all_bytes c.args.pieces.now) text.items _ _ _ canonical
    (of_form is c.args.options.limit (all_bytes c.args.pieces.now)
    (c.reported_of_pieces.ensures c.args.output c.args.options.limit begun)) status) (rw cut at c.canon-text.ensures.text)

pub returns-clause-lines : goal.returns-clause-lines
returns-clause-lines c = λ is cut opened status.
    let begun = is_open c.args.output c.args.options.limit c.open-opened.result c.open-opened.new.stream.held.session c.open-opened.ensures opened in
    map_ok c.canon-text.result
    (λ text canonical. counted_so c.files_are_on_plane.ensures c.files_are_unique.ensures c.texts_are_files.ensures (all_bytes c.args.pieces.now)
    text.items _ _ _ canonical
    (of_form is c.args.options.limit (all_bytes c.args.pieces.now)
    (c.reported_of_pieces.ensures c.args.output c.args.options.limit begun)) status) (rw cut at c.canon-text.ensures.text)

pub returns-clause-next : goal.returns-clause-next
returns-clause-next c = λ is opened status here.
    let begun = is_open c.args.output c.args.options.limit c.open-opened.result c.open-opened.new.stream.held.session c.open-opened.ensures opened in
    map_ok c.canon-text.result
    (λ again canonical. fixed_so c.args.bytes.now again.items _ _ _
    (λ it stepped. next_is_fixed c.files_are_unique.ensures (all_bytes c.args.pieces.now) it again.items stepped)
    (of_form is c.args.options.limit (all_bytes c.args.pieces.now)
    (c.reported_of_pieces.ensures c.args.output c.args.options.limit begun)) status here canonical) c.canon-text.ensures.text
