use Rattle.life_quad.proofs.LawLemmas.{known_squares_are_full}
use Rattle.life_pattern.specs.Store.{content}
use Rattle.life_forms.proofs.PlaneFacts.{columns-ordered, rows-ordered}
use Rattle.life_forms.proofs.corners.cells_in.Goals as goal

pub has_sides_up_to-requires-clause-columns : goal.has_sides_up_to-requires-clause-columns
has_sides_up_to-requires-clause-columns c =
    let low = (known_squares_are_full c.args.store.now c.args.pattern.now.root c.requires.trimmed.known.0).1 in
    columns-ordered (content c.args.store.now c.args.pattern.now.root) c.args.found.now low c.requires.bounds

pub has_sides_up_to-requires-clause-rows : goal.has_sides_up_to-requires-clause-rows
has_sides_up_to-requires-clause-rows c =
    let low = (known_squares_are_full c.args.store.now c.args.pattern.now.root c.requires.trimmed.known.0).1 in
    rows-ordered (content c.args.store.now c.args.pattern.now.root) c.args.found.now low c.requires.bounds

pub has_sides_up_to-requires-2-clause-columns : goal.has_sides_up_to-requires-2-clause-columns
has_sides_up_to-requires-2-clause-columns c =
    let low = (known_squares_are_full c.args.store.now c.args.pattern.now.root c.requires.trimmed.known.0).1 in
    columns-ordered (content c.args.store.now c.args.pattern.now.root) c.args.found.now low c.requires.bounds

pub has_sides_up_to-requires-2-clause-rows : goal.has_sides_up_to-requires-2-clause-rows
has_sides_up_to-requires-2-clause-rows c =
    let low = (known_squares_are_full c.args.store.now c.args.pattern.now.root c.requires.trimmed.known.0).1 in
    rows-ordered (content c.args.store.now c.args.pattern.now.root) c.args.found.now low c.requires.bounds

pub has_sides_up_to-requires-3-clause-columns : goal.has_sides_up_to-requires-3-clause-columns
has_sides_up_to-requires-3-clause-columns c =
    let low = (known_squares_are_full c.args.store.now c.args.pattern.now.root c.requires.trimmed.known.0).1 in
    columns-ordered (content c.args.store.now c.args.pattern.now.root) c.args.found.now low c.requires.bounds

pub has_sides_up_to-requires-3-clause-rows : goal.has_sides_up_to-requires-3-clause-rows
has_sides_up_to-requires-3-clause-rows c =
    let low = (known_squares_are_full c.args.store.now c.args.pattern.now.root c.requires.trimmed.known.0).1 in
    rows-ordered (content c.args.store.now c.args.pattern.now.root) c.args.found.now low c.requires.bounds
