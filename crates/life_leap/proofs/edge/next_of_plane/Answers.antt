use Rattle.std.proofs.Common.{◌^◌, inr, refl}
use Rattle.std.proofs.lemmas.Result.{IfOk-weaker}
use Rattle.life_base.proofs.Results.{if_ok_two}
use Rattle.life_base.specs.Tree.{tree_cell}
use Rattle.life_pieces.specs.Pieces.{step_back}
use Rattle.life_leap.specs.After.{after}
use Rattle.life_leap.specs.Grid.{AreNineSquares}
use Rattle.life_leap.proofs.AfterLemmas.{after-binary}
use Rattle.life_leap.proofs.LeapLemmas.{no-leaps}
use Rattle.life_leap.proofs.PlaneEdge.{all-stay, alone, cell-outside, first_place, nine-later, piece-of_plane, plane-later}
use Rattle.life_leap.proofs.edge.next_of_plane.Given.{Over}
use Rattle.life_leap.proofs.edge.next_of_plane.Goals as goal
use Rattle.life_leap.proofs.edge.next_of_plane.Goals.{After-is_ring_blank}

pub nine_after-requires-clause-remembers : goal.nine_after-requires-clause-remembers
nine_after-requires-clause-remembers g c =
    no-leaps _ c.new-memory.ensures

-- the nine squares, a generation later
nine : (g : Over) (c : After-is_ring_blank g) → let cells = after c.args.rule.now 1 (tree_cell (g.S.Squares.content c.args.squares.now c.args.id)) in
    AreNineSquares (g.S.Squares.content c.nine_after.new.squares) cells (2 ^ 61) (step_back first_place (2 ^ 60)) (step_back first_place (2 ^ 60))
    c.in_ok-nine.nine
nine g c =
    let rule = c.args.rule.now in
    let old = g.S.Squares.content c.args.squares.now in
    let t = old c.args.id in
    let full = g.met.S.Squares.full _ _ c.requires.known.known in
    let whole = c.requires.known.level in
    let quiet = c.requires.quiet in
    let sixteen = c.amid_blank-sixteen.ensures.pieces (tree_cell t) first_place (piece-of_plane rule t quiet whole full) (alone rule t quiet whole) in
    nine-later rule t quiet whole old _ c.amid_blank-sixteen.result c.in_ok-nine.nine c.requires.states sixteen c.in_ok-nine.ensures.later

pub returns-then-is_ring_blank-clause-later : goal.returns-then-is_ring_blank-clause-later
returns-then-is_ring_blank-clause-later g c =
    let rule = c.args.rule.now in
    let t = g.S.Squares.content c.args.squares.now c.args.id in
    let nine = nine g (goal.at.returns-then-is_ring_blank-clause-later g c).After-is_ring_blank in
    let ring = (c.is_ring_blank.ensures (after rule 1 (tree_cell t)) first_place nine).blank c.if-is_ring_blank.true in
    if_ok_two c.inner_of_nine.result
    (λ r at h. plane-later rule t c.requires.quiet c.requires.known.level _ (g.met.S.Squares.full _ _ at.known) at.level ring
    ((h rule).later (after rule 1 (tree_cell t)) (step_back first_place (2 ^ 60)) (step_back first_place (2 ^ 60))
    (after-binary rule 1 (tree_cell t) c.requires.states) nine))
    c.inner_of_nine.ensures.at c.inner_of_nine.ensures.later

pub returns-then-is_ring_blank-clause-stays : goal.returns-then-is_ring_blank-clause-stays
returns-then-is_ring_blank-clause-stays g c =
    let rule = c.args.rule.now in
    let t = g.S.Squares.content c.args.squares.now c.args.id in
    let nine = nine g (goal.at.returns-then-is_ring_blank-clause-stays g c).After-is_ring_blank in
    let ring = (c.is_ring_blank.ensures (after rule 1 (tree_cell t)) first_place nine).blank c.if-is_ring_blank.true in
    IfOk-weaker c.inner_of_nine.result _ _ (λ r at. all-stay rule t c.requires.quiet c.requires.known.level ring) c.inner_of_nine.ensures.at

pub returns-clause-refusals : goal.returns-clause-refusals
returns-clause-refusals g c =
    let cells = after c.args.rule.now 1 (tree_cell (g.S.Squares.content c.args.squares.now c.args.id)) in
    let nine = nine g (goal.at.returns-clause-refusals g c).After-is_ring_blank in
    inr (refl, cell-outside cells ((c.is_ring_blank.ensures cells first_place nine).other c.if-is_ring_blank.false))
