use Rattle.std.proofs.Common.{ℕ, ◌≤◌, ◌^◌, false, ap, ◌∙◌, subst, to_z, of_z, w64, arith}
use Rattle.std.proofs.lemmas.Result.{IfOk-weaker}
use Rattle.life_base.specs.Tree.{tree_cell}
use Rattle.life_quad.proofs.GrowsLemmas.{grows-as, only-grows}
use Rattle.life_quad.specs.Refused.{SomePart}
use Rattle.life_quad.specs.Turning.{turned_tree}
use Rattle.life_pattern.specs.Universe.{Universe}
use Rattle.life_forms.specs.Cells.{IsWay}
use Rattle.life_forms.specs.Needed.{IsMovedRoot, SomeOfMovedRoot}
use Rattle.life_forms.specs.Turns.{turn_of}
use Rattle.life_forms.proofs.CornerFacts.{counted_box, side-counted}
use Rattle.life_forms.proofs.MirrorFacts.{full-mirrored, image_way, long-mirrored, low-mirrored, mirrored, mirrored-box, mirrored-universe, part-mirrored, root-mirrored, side-read, way-mirrored}
use Rattle.life_forms.proofs.MovedFacts.{is-whole, middle-needed, middle-root, plane-needed, plane-root}
use Rattle.life_forms.proofs.PlaneFacts.{box-of-square, columns-ordered, rows-ordered, ordered-read, way-of-box}
use Rattle.life_forms.proofs.moves.move_box.Given.{Over}
use Rattle.life_forms.proofs.moves.move_box.Goals as goal
use Rattle.life_forms.proofs.moves.move_box.Goals.{After-counted_way-y}

high-of : (m k : ℕ) → 1 ≤ m → m ≤ k → 1 ≤ k
high-of m k p h = omega (arith, p, h)

pub fits_quarter-requires-clause-columns : goal.fits_quarter-requires-clause-columns
fits_quarter-requires-clause-columns g c = columns-ordered _ c.args.found.now (g.met.S.Squares.low _ _ c.requires.known) c.requires.bounds

pub fits_quarter-requires-clause-rows : goal.fits_quarter-requires-clause-rows
fits_quarter-requires-clause-rows g c = rows-ordered _ c.args.found.now (g.met.S.Squares.low _ _ c.requires.known) c.requires.bounds

pub moved_to_middle-requires-clause-columns : goal.moved_to_middle-requires-clause-columns
moved_to_middle-requires-clause-columns g c = (c.fits_quarter.ensures.short c.if-fits_quarter.true).0

pub moved_to_middle-requires-clause-rows : goal.moved_to_middle-requires-clause-rows
moved_to_middle-requires-clause-rows g c = (c.fits_quarter.ensures.short c.if-fits_quarter.true).1

least-high : (n m : ℕ) → n ≤ m → m ≤ 62 → n ≤ 62
least-high n m le low = omega (arith, le, low)

pub returns-then-fits_quarter-clause-moved : goal.returns-then-fits_quarter-clause-moved
returns-then-fits_quarter-clause-moved g c =
    let t = g.S.Squares.content c.args.from.now c.args.root in
    let box = c.args.found.now in
    let centre = c.squares_are_centred.ensures in
    let tell = c.centred_squares_tell_cells.ensures in
    let v = c.args.columns in
    let w = c.args.rows in
    let turn = turn_of false v w in
    let full = g.met.S.Squares.full _ _ c.requires.known in
    let low = g.met.S.Squares.low _ _ c.requires.known in
    let high = high-of _ _ c.requires.positive c.requires.high in
    let short = c.fits_quarter.ensures.short c.if-fits_quarter.true in
    let now = g.T.Squares.content c.moved_to_middle.new.to in
    IfOk-weaker c.moved_to_middle.result _ _
    (λ id h rule generation.
    subst (λ (u : Universe). IsMovedRoot u c.args.least (turned_tree turn (now id))) (mirrored-universe centre tell v w t full high rule generation)
    (middle-root (mirrored centre tell v w t full high) (counted_box v w box) (mirrored-box centre tell v w t full high box
    (box-of-square t box c.requires.bounds))
    (side-counted v box.left box.right (2 ^ 61) short.0) (side-counted w box.top box.bottom (2 ^ 61) short.1) rule generation c.args.least _
    (ap (turned_tree turn) h ∙ root-mirrored centre tell v w t full high box c.args.least c.requires.positive (least-high _ _ c.requires.high low))))
    c.moved_to_middle.ensures.square

pub returns-then-fits_quarter-clause-grows : goal.returns-then-fits_quarter-clause-grows
returns-then-fits_quarter-clause-grows g c =
    let t = g.S.Squares.content c.args.from.now c.args.root in
    let box = c.args.found.now in
    let centre = c.squares_are_centred.ensures in
    let tell = c.centred_squares_tell_cells.ensures in
    let v = c.args.columns in
    let w = c.args.rows in
    let turn = turn_of false v w in
    let full = g.met.S.Squares.full _ _ c.requires.known in
    let low = g.met.S.Squares.low _ _ c.requires.known in
    let high = high-of _ _ c.requires.positive c.requires.high in
    let short = c.fits_quarter.ensures.short c.if-fits_quarter.true in
    let e = c.moved_to_middle.ensures in
    grows-as _ (only-grows (record { keeps = e.keeps; refusals = e.refusals; needed = e.needed; adds = e.adds }))
    (λ P s rule generation.
    subst (λ (u : Universe). SomeOfMovedRoot (λ x. P (turned_tree turn x)) u c.args.least) (mirrored-universe centre tell v w t full high rule generation)
    (middle-needed (mirrored centre tell v w t full high) (counted_box v w box) (mirrored-box centre tell v w t full high box
    (box-of-square t box c.requires.bounds))
    (side-counted v box.left box.right (2 ^ 61) short.0) (side-counted w box.top box.bottom (2 ^ 61) short.1) rule generation
    (λ x. P (turned_tree turn x)) c.args.least
    (subst (SomePart (λ x. P (turned_tree turn x))) (root-mirrored centre tell v w t full high box c.args.least c.requires.positive
    (least-high _ _ c.requires.high low))
    (part-mirrored v w P _ s))))

pub counted_way-x-requires : goal.counted_way-x-requires
counted_way-x-requires g c = ordered-read _ _ (columns-ordered _ c.args.found.now (g.met.S.Squares.low _ _ c.requires.known) c.requires.bounds)

pub counted_way-y-requires : goal.counted_way-y-requires
counted_way-y-requires g c = ordered-read _ _ (rows-ordered _ c.args.found.now (g.met.S.Squares.low _ _ c.requires.known) c.requires.bounds)

-- the way of the box of the image
way : (g : Over) (c : After-counted_way-y g) → let t = g.S.Squares.content c.args.from.now c.args.root in
    let full = g.met.S.Squares.full _ _ c.requires.known in
    let high = high-of _ _ c.requires.positive c.requires.high in
    IsWay (tree_cell (mirrored c.squares_are_centred.ensures c.centred_squares_tell_cells.ensures c.args.columns c.args.rows t full high))
    (image_way c.args.columns (to_z w64 (of_z w64 c.counted_way-x.result)))
    (image_way c.args.rows (to_z w64 (of_z w64 c.counted_way-y.result)))
way g c =
    let t = g.S.Squares.content c.args.from.now c.args.root in
    let full = g.met.S.Squares.full _ _ c.requires.known in
    let high = high-of _ _ c.requires.positive c.requires.high in
    let low = g.met.S.Squares.low _ _ c.requires.known in
    let found = c.args.found.now in
    let x = c.counted_way-x.ensures in
    let y = c.counted_way-y.ensures in
    let centre = c.squares_are_centred.ensures in
    let tell = c.centred_squares_tell_cells.ensures in
    let v = c.args.columns in
    let w = c.args.rows in
    way-of-box _ (counted_box v w found) _ _ (mirrored-box centre tell v w t full high found (box-of-square t found c.requires.bounds))
    (side-read v found.left found.right c.counted_way-x.result (columns-ordered _ found low c.requires.bounds)
    (record { sfits = c.counted_way-x.type_inv }) x.place x.opposite)
    (side-read w found.top found.bottom c.counted_way-y.result (rows-ordered _ found low c.requires.bounds)
    (record { sfits = c.counted_way-y.type_inv }) y.place y.opposite)

pub moved_on_plane-requires-clause-whole : goal.moved_on_plane-requires-clause-whole
moved_on_plane-requires-clause-whole g c =
    is-whole _ c.args.found.now c.requires.bounds (c.fits_quarter.ensures.long c.if-fits_quarter.false) (g.met.S.Squares.full _ _ c.requires.known)
    (g.met.S.Squares.low _ _ c.requires.known) (high-of _ _ c.requires.positive c.requires.high)

pub returns-clause-moved : goal.returns-clause-moved
returns-clause-moved g c =
    let t = g.S.Squares.content c.args.from.now c.args.root in
    let box = c.args.found.now in
    let centre = c.squares_are_centred.ensures in
    let tell = c.centred_squares_tell_cells.ensures in
    let v = c.args.columns in
    let w = c.args.rows in
    let turn = turn_of false v w in
    let full = g.met.S.Squares.full _ _ c.requires.known in
    let low = g.met.S.Squares.low _ _ c.requires.known in
    let high = high-of _ _ c.requires.positive c.requires.high in
    let there = way g (goal.at.returns-clause-moved g c).After-counted_way-y in
    let now = g.T.Squares.content c.moved_on_plane.new.to in
    IfOk-weaker c.moved_on_plane.result _ _
    (λ id h rule generation.
    subst (λ (u : Universe). IsMovedRoot u c.args.least (turned_tree turn (now id))) (mirrored-universe centre tell v w t full high rule generation)
    (plane-root (mirrored centre tell v w t full high) (counted_box v w box) (mirrored-box centre tell v w t full high box
    (box-of-square t box c.requires.bounds))
    (long-mirrored v w box (c.fits_quarter.ensures.long c.if-fits_quarter.false)) (full-mirrored centre tell v w t full high)
    (low-mirrored centre tell v w t full high low) _ _ there rule
    generation _ c.requires.positive _ (ap (turned_tree turn) h ∙ way-mirrored centre tell v w t full high _ _)))
    c.moved_on_plane.ensures.square

pub returns-clause-grows : goal.returns-clause-grows
returns-clause-grows g c =
    let t = g.S.Squares.content c.args.from.now c.args.root in
    let box = c.args.found.now in
    let centre = c.squares_are_centred.ensures in
    let tell = c.centred_squares_tell_cells.ensures in
    let v = c.args.columns in
    let w = c.args.rows in
    let turn = turn_of false v w in
    let full = g.met.S.Squares.full _ _ c.requires.known in
    let low = g.met.S.Squares.low _ _ c.requires.known in
    let high = high-of _ _ c.requires.positive c.requires.high in
    let there = way g (goal.at.returns-clause-grows g c).After-counted_way-y in
    let e = c.moved_on_plane.ensures in
    grows-as _ (only-grows (record { keeps = e.keeps; refusals = e.refusals; needed = e.needed; adds = e.adds }))
    (λ P s rule generation.
    subst (λ (u : Universe). SomeOfMovedRoot (λ x. P (turned_tree turn x)) u c.args.least) (mirrored-universe centre tell v w t full high rule generation)
    (plane-needed (mirrored centre tell v w t full high) (counted_box v w box) (mirrored-box centre tell v w t full high box
    (box-of-square t box c.requires.bounds))
    (long-mirrored v w box (c.fits_quarter.ensures.long c.if-fits_quarter.false)) (full-mirrored centre tell v w t full high)
    (low-mirrored centre tell v w t full high low) _ _ there rule
    generation _ c.requires.positive (λ x. P (turned_tree turn x))
    (subst (SomePart (λ x. P (turned_tree turn x))) (way-mirrored centre tell v w t full high _ _) (part-mirrored v w P _ s))))
