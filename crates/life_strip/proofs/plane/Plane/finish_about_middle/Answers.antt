use Rattle.std.proofs.Common.{suc, ◌-◌, ◌^◌, ◌≤◌, ◌<◌, ◌++◌, ◌∷◌, [], length-append, arith, sym, ◌∙◌, ap, subst, Result, Ok, Err, IfOk}
use Rattle.life_base.specs.declared.cell.TheConstants.{MAX_LEVEL}
use Rattle.life_base.specs.declared.kind.Kind.{Kind}
use Rattle.life_base.specs.Tree.{Tree}
use Rattle.life_quad.specs.declared.id.Id.{Id}
use Rattle.life_quad.proofs.GrowsLemmas.{grows-as}
use Rattle.life_strip.specs.declared.pile.Pile.{Pile}
use Rattle.life_strip.specs.declared.plane.Plane.{Plane}
use Rattle.life_strip.specs.Given.{half_plane}
use Rattle.life_strip.specs.Middle.{IsBlankTo, IsLeastSouth}
use Rattle.life_strip.specs.Needed.{SomeSquare}
use Rattle.life_strip.specs.Pile.{pile_height, pile_state, pile_state_with}
use Rattle.life_strip.specs.Plane.{IsFilled, cell_so_far, state_so_far}
use Rattle.life_strip.proofs.MiddlePlanes.{blank-north, cells-of-middle, least-high, level-of-middle, needs-of-middle, whole-cells, whole-level, whole-needs}
use Rattle.life_strip.proofs.MiddleConsumed.{IsSouthern, southern-of, consumed-height, consumed-pile, with-beyond}
use Rattle.life_strip.proofs.RowLemmas.{with-above}
use Rattle.life_strip.proofs.plane.Plane.finish_about_middle.Given.{Over}
use Rattle.life_strip.proofs.plane.Plane.finish_about_middle.Goals as goal
use Rattle.life_strip.proofs.plane.Plane.finish_about_middle.Goals.{After-about_middle}

ok-by : {T : Type 0} {P Q : T → Type 0} (r : Result T Kind) → IfOk r P → ((x : T) → P x → Q x) → IfOk r Q
ok-by (Ok x) p f = f x p
ok-by (Err e) p f = tt

ok-both : {T : Type 0} {P Q R : T → Type 0} (r : Result T Kind) → IfOk r P → IfOk r Q → ((x : T) → P x → Q x → R x) → IfOk r R
ok-both (Ok x) p q f = f x p q
ok-both (Err e) p q f = tt

-- where all cells are in the northern half
northern : (knows : Id → Type 0) (content : Id → Tree) (p : Plane) → IsFilled knows content p → p.rows < half_plane
    → IsLeastSouth MAX_LEVEL (cell_so_far content p)
northern knows content p filled few =
    least-high (state_so_far content p) (suc p.rows) (omega (arith, few)) (λ i j le.
    let n = length-append p.pile.band.items (p.row ∷ []) in
    let h = filled.rows in
    with-beyond content p.pile.strips.items (p.pile.band.items ++ p.row ∷ []) i j (omega (arith, n, h, le))) MAX_LEVEL

-- where one of them is
also-north : (knows : Id → Type 0) (content : Id → Tree) (p : Plane) → IsFilled knows content p → half_plane ≤ p.rows
    → (2 ^ (MAX_LEVEL - 1) ≤ pile_height p.pile → ¬ IsBlankTo (2 ^ (MAX_LEVEL - 1)) (pile_state content p.pile))
    → IsLeastSouth MAX_LEVEL (cell_so_far content p)
also-north knows content p filled tall cell lower three lt south x y =
    let h = filled.rows in
    absurd (cell (omega (arith, h, tall)) (λ i j li lj.
    sym (with-above content p.pile.strips.items p.pile.band.items p.row i j (omega (arith, lj, h, tall)))
    ∙ blank-north (state_so_far content p) lower south i j li lj))

pub about_middle-requires-clause-pile : goal.about_middle-requires-clause-pile
about_middle-requires-clause-pile g c =
    consumed-pile (g.S.Squares.content c.args.squares.now) c.args.self.pile c.take_northern_half.new.self
    (c.take_northern_half.ensures.consumed c.if-not-take_northern_half.false) (g.S.Squares.knows c.args.squares.now) c.requires.filled.pile

pub about_middle-requires-clause-height : goal.about_middle-requires-clause-height
about_middle-requires-clause-height g c =
    let t = consumed-height (g.S.Squares.content c.args.squares.now) c.args.self.pile c.take_northern_half.new.self
    (c.take_northern_half.ensures.consumed c.if-not-take_northern_half.false) in
    let h = c.requires.filled.rows in
    omega (arith, t, h)

pub returns-then-rows-lt-HALF-clause-level : goal.returns-then-rows-lt-HALF-clause-level
returns-then-rows-lt-HALF-clause-level g c =
    let K = g.S.Squares.knows c.args.squares.now in
    let C = g.S.Squares.content c.args.squares.now in
    ok-by c.whole_plane.result c.whole_plane.ensures.level
    (λ id e. whole-level (state_so_far C c.args.self) (northern K C c.args.self c.requires.filled c.if-rows-lt-HALF.true) _ e)

pub returns-then-rows-lt-HALF-clause-grows : goal.returns-then-rows-lt-HALF-clause-grows
returns-then-rows-lt-HALF-clause-grows g c =
    let K = g.S.Squares.knows c.args.squares.now in
    let C = g.S.Squares.content c.args.squares.now in
    grows-as _ c.whole_plane.ensures.grows
    (whole-needs (state_so_far C c.args.self) (northern K C c.args.self c.requires.filled c.if-rows-lt-HALF.true))

pub returns-then-not-take_northern_half-clause-level : goal.returns-then-not-take_northern_half-clause-level
returns-then-not-take_northern_half-clause-level g c =
    let K = g.S.Squares.knows c.args.squares.now in
    let C = g.S.Squares.content c.args.squares.now in
    let call = c.whole_plane-then-not-take_northern_half in
    ok-by call.result call.ensures.level
    (λ id e. whole-level (state_so_far C c.args.self) (also-north K C c.args.self c.requires.filled c.if-rows-lt-HALF.false
    (c.take_northern_half.ensures.cell c.if-not-take_northern_half.true)) _ e)

pub returns-then-not-take_northern_half-clause-cells : goal.returns-then-not-take_northern_half-clause-cells
returns-then-not-take_northern_half-clause-cells g c =
    let C = g.S.Squares.content c.args.squares.now in
    let call = c.whole_plane-then-not-take_northern_half in
    let left = c.take_northern_half.ensures.left c.if-not-take_northern_half.true in
    ok-both call.result call.ensures.level call.ensures.cells
    (λ id e cells. whole-cells (state_so_far C c.args.self) _ e
    (λ i j li lj. cells i j li lj ∙ ap (λ (p : Pile). pile_state_with C p c.args.self.row i j) left))

pub returns-then-not-take_northern_half-clause-grows : goal.returns-then-not-take_northern_half-clause-grows
returns-then-not-take_northern_half-clause-grows g c =
    let K = g.S.Squares.knows c.args.squares.now in
    let C = g.S.Squares.content c.args.squares.now in
    let call = c.whole_plane-then-not-take_northern_half in
    let left = c.take_northern_half.ensures.left c.if-not-take_northern_half.true in
    grows-as _ call.ensures.grows (λ P n.
    whole-needs (state_so_far C c.args.self) (also-north K C c.args.self c.requires.filled c.if-rows-lt-HALF.false
    (c.take_northern_half.ensures.cell c.if-not-take_northern_half.true)) P
    (subst (λ (p : Pile). SomeSquare P (2 ^ MAX_LEVEL) (pile_state_with C p c.args.self.row)) left n))

-- ---- the cells from the middle on

southern : (g : Over) (c : After-about_middle g) → let C = g.S.Squares.content c.args.squares.now in
    IsSouthern (state_so_far C c.args.self) (pile_state_with C c.take_northern_half.new.self c.args.self.row) (c.args.self.rows - half_plane)
southern g c =
    southern-of (g.S.Squares.content c.args.squares.now) c.args.self.pile c.take_northern_half.new.self c.args.self.row c.args.self.rows
    (c.take_northern_half.ensures.consumed c.if-not-take_northern_half.false) c.requires.filled.rows
    c.if-rows-lt-HALF.false c.requires.filled.most c.requires.cell

pub returns-clause-level : goal.returns-clause-level
returns-clause-level g c =
    let s = southern g (goal.at.returns-clause-level g c).After-about_middle in
    ok-by c.about_middle.result c.about_middle.ensures.square (λ id is. level-of-middle _ _ _ s.north s.south s.beyond s.last s.few _ is)

pub returns-clause-cells : goal.returns-clause-cells
returns-clause-cells g c =
    let s = southern g (goal.at.returns-clause-cells g c).After-about_middle in
    ok-by c.about_middle.result c.about_middle.ensures.square (λ id is. cells-of-middle _ _ _ s.north s.south s.beyond s.last s.few _ is)

pub returns-clause-grows : goal.returns-clause-grows
returns-clause-grows g c =
    let s = southern g (goal.at.returns-clause-grows g c).After-about_middle in
    grows-as _ c.about_middle.ensures.grows (needs-of-middle _ _ _ s.north s.south s.beyond s.last s.few)
