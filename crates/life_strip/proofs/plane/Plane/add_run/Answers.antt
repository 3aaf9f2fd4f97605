use Rattle.std.proofs.Common.{ℕ, ℤ, pos, nat_abs, ◌+ℤ◌, ◌≡◌, ◌∙◌, subst, arith, if◌then◌else◌}
use Rattle.std.proofs.lemmas.Int.{ints}
use Rattle.std.proofs.lemmas.Result.{on_ok_weaker}
use Rattle.life_base.specs.Tree.{Tree}
use Rattle.life_quad.proofs.KeepingLemmas.{adds-as}
use Rattle.life_quad.proofs.GrowsLemmas.{grows-err, grows-still}
use Rattle.life_quad.specs.Span.{is_in_span}
use Rattle.life_strip.specs.Given.{half_plane}
use Rattle.life_strip.specs.Needed.{SomeSquare}
use Rattle.life_strip.specs.Pile.{pile_height, pile_state_with}
use Rattle.life_strip.specs.Plane.{state_so_far}
use Rattle.life_strip.proofs.PlaneLemmas.{column_of_run, row_of_run, next_ends, below_run, adjacent_run, AddsRun-span}
use Rattle.life_strip.proofs.RowLemmas.{with-filled}
use Rattle.life_strip.proofs.plane.Plane.add_run.Goals as goal

pub go_to_row-requires-clause-filled : goal.go_to_row-requires-clause-filled
go_to_row-requires-clause-filled g c = c.requires.filled

pub add-requires : goal.add-requires
add-requires g c =
    let ex = column_of_run c.args.run c.offset-column.result c.requires.inside c.requires.positive c.offset-column.ensures in
    let ey = row_of_run c.args.run c.offset-row.result c.requires.inside c.offset-row.ensures in
    record {
      row = c.in_ok-go_to_row.ensures.begun.filled.row;
      before = c.in_ok-go_to_row.ensures.begun.ends c.offset-column.result
          (next_ends c.args.self.now c.args.run.x c.args.run.y c.offset-column.result c.offset-row.result ex ey c.requires.free);
      some = omega (arith, c.requires.positive);
      within = omega (arith, ints, ex, c.requires.inside.east);
    }

pub returns-clause-cells : goal.returns-clause-cells
returns-clause-cells g c =
    let ex = column_of_run c.args.run c.offset-column.result c.requires.inside c.requires.positive c.offset-column.ensures in
    let ey = row_of_run c.args.run c.offset-row.result c.requires.inside c.offset-row.ensures in
    let C = g.S.Squares.content c.go_to_row.new.squares in
    let self = c.go_to_row.new.self in
    let begun = c.in_ok-go_to_row.ensures.begun in
    let tall : pile_height self.pile ≡ c.offset-row.result = begun.filled.rows ∙ begun.rows in
    on_ok_weaker c.add.result
    (λ fills.
    AddsRun-span (state_so_far (g.S.Squares.content c.args.squares.now) c.args.self.now) (pile_state_with C self.pile c.add.new.self)
    c.args.run c.offset-column.result c.offset-row.result c.requires.inside ex ey
    (λ i j. with-filled C self.pile.strips.items self.pile.band.items self.row c.add.new.self c.offset-column.result c.args.run.len c.args.run.state
    fills.states i j
    ∙ (λ k. if is_in_span c.offset-column.result (tall k) c.args.run.len i j then c.args.run.state else begun.picture i j k)))
    c.add.ensures.fills

pub returns-clause-filled : goal.returns-clause-filled
returns-clause-filled g c =
    let begun = c.in_ok-go_to_row.ensures.begun.filled in
    let pile = begun.pile in
    on_ok_weaker c.add.result
    (λ fills. record {
      pile = record { strips = pile.strips; lowest = pile.lowest; rows = pile.rows; few = pile.few };
      row = fills.row;
      rows = begun.rows;
      most = begun.most;
    })
    c.add.ensures.fills

pub returns-clause-below : goal.returns-clause-below
returns-clause-below g c =
    let ey = row_of_run c.args.run c.offset-row.result c.requires.inside c.offset-row.ensures in
    on_ok_weaker c.add.result
    (λ fills i j below. below_run (record c.go_to_row.new.self { pile = record c.go_to_row.new.self.pile { spare = c.add.new.spare }; row = c.add.new.self })
    c.args.run.y i j c.offset-row.result ey
    c.in_ok-go_to_row.ensures.begun.rows below)
    c.add.ensures.fills

pub returns-clause-adjacent : goal.returns-clause-adjacent
returns-clause-adjacent g c =
    let ex = column_of_run c.args.run c.offset-column.result c.requires.inside c.requires.positive c.offset-column.ensures in
    let ey = row_of_run c.args.run c.offset-row.result c.requires.inside c.offset-row.ensures in
    on_ok_weaker c.add.result
    (λ fills i adjacent. adjacent_run
    (record c.go_to_row.new.self { pile = record c.go_to_row.new.self.pile { spare = c.add.new.spare }; row = c.add.new.self })
    c.args.run.x c.args.run.y i c.offset-column.result
    c.offset-row.result c.args.run.len ex ey c.in_ok-go_to_row.ensures.begun.rows fills.before adjacent)
    c.add.ensures.fills

-- the row of a run, counted from the edge of the plane
of-row : (state : ℕ → ℕ → ℕ) (row : ℕ) (y : ℤ) → pos row ≡ y → (P : Tree → Type 0) → SomeSquare P row state → SomeSquare P (nat_abs y) state
of-row state row y same P n = subst (λ z. SomeSquare P (nat_abs z) state) same n

pub returns-in_err-go_to_row-clause-grows : goal.returns-in_err-go_to_row-clause-grows
returns-in_err-go_to_row-clause-grows g c =
    grows-err _ c.in_err-go_to_row.ensures.grows c.from_residual.ensures.1
    (of-row (state_so_far (g.S.Squares.content c.args.squares.now) c.args.self.now) c.offset-row.result (c.args.run.y +ℤ pos half_plane)
    (row_of_run c.args.run c.offset-row.result c.requires.inside c.offset-row.ensures))

pub returns-clause-grows : goal.returns-clause-grows
returns-clause-grows g c =
    let row = c.in_ok-go_to_row.ensures.grows in
    grows-still _ row.keeps
    (adds-as _ row.adds
    (of-row (state_so_far (g.S.Squares.content c.args.squares.now) c.args.self.now) c.offset-row.result (c.args.run.y +ℤ pos half_plane)
    (row_of_run c.args.run c.offset-row.result c.requires.inside c.offset-row.ensures)))
    c.add.ensures.refusals
