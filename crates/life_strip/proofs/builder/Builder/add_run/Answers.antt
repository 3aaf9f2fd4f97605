use Rattle.std.proofs.Common.{List, ◌≤◌, ◌^◌, ◌+ℤ◌, pos, nat_abs, sym, subst, arith}
use Rattle.std.proofs.lemmas.Int.{ints}
use Rattle.life_quad.proofs.GrowsLemmas.{grows-err, grows-ok}
use Rattle.life_base.specs.declared.cell.Run.{Run}
use Rattle.life_base.specs.declared.cell.TheConstants.{MAX_LEVEL}
use Rattle.life_base.specs.Tree.{Tree}
use Rattle.life_strip.specs.Given.{IsNextRunStart, by_columns, half_plane, state_by}
use Rattle.life_strip.specs.Needed.{SomeSquare}
use Rattle.life_strip.specs.Plane.{cell_so_far, state_so_far}
use Rattle.life_strip.specs.Filling.{Building, IsFilling}
use Rattle.life_strip.proofs.GivenLemmas.{next-push}
use Rattle.life_strip.proofs.FillingLemmas.{filling-push, needed-seen}
use Rattle.life_strip.proofs.builder.Builder.add_run.Given.{Over}
use Rattle.life_strip.proofs.builder.Builder.add_run.Goals as goal
use Rattle.life_strip.proofs.builder.Builder.add_run.Goals.{After-add_run}

pub add_run-requires-clause-free : goal.add_run-requires-clause-free
add_run-requires-clause-free g c =
    let K = g.S.Squares.knows c.args.squares.now in
    let C = g.S.Squares.content c.args.squares.now in
    let inside : Building = record { runs = c.self.inside.log.runs; kept = c.self.inside.plane } in
    let fill : IsFilling K C inside = subst (IsFilling K C) (sym c.self.view_is) c.requires.filling in
    fill.next c.args.run.x c.args.run.y c.requires.inside.north
    (subst (λ (b : Building). IsNextRunStart b.runs c.args.run.x c.args.run.y) (sym c.self.view_is) c.requires.next)

pub returns-clause-filling : goal.returns-clause-filling
returns-clause-filling g c =
    let K = g.S.Squares.knows c.args.squares.now in
    let C = g.S.Squares.content c.args.squares.now in
    let K' = g.S.Squares.knows c.add_run.new.squares in
    let C' = g.S.Squares.content c.add_run.new.squares in
    let inside : Building = record { runs = c.self.inside.log.runs; kept = c.self.inside.plane } in
    let fill : IsFilling K C inside = subst (IsFilling K C) (sym c.self.view_is) c.requires.filling in
    let next = subst (λ (b : Building). IsNextRunStart b.runs c.args.run.x c.args.run.y) (sym c.self.view_is) c.requires.next in
    let h = c.in_ok-add_run.ensures in
    subst (λ (runs : List Run). IsFilling K' C' (record { runs = runs; kept = c.add_run.new.self })) (sym c.then-self-inside.ensures)
    (filling-push K' C' c.add_run.new.self (cell_so_far C inside.kept) inside.runs c.args.run fill.order next fill.cells h.filled h.cells h.below h.adjacent)

pub returns-clause-next : goal.returns-clause-next
returns-clause-next g c i j h =
    subst (λ (runs : List Run). IsNextRunStart runs i j) (sym c.then-self-inside.ensures) (next-push c.self.inside.log.runs c.args.run i j h)

-- a square that the plane needs is one of the runs before
needed : (g : Over) (c : After-add_run g) (P : Tree → Type 0) → let rows = nat_abs (c.args.run.y +ℤ pos half_plane) in
    SomeSquare P rows (state_so_far (g.S.Squares.content c.args.squares.now) c.self.inside.plane)
    → SomeSquare P rows (by_columns (state_by c.args.self.now.runs))
needed g c =
    let inside : Building = record { runs = c.self.inside.log.runs; kept = c.self.inside.plane } in
    let rows = nat_abs (c.args.run.y +ℤ pos half_plane) in
    let north = c.requires.inside.north in
    let south = c.requires.inside.south in
    let few : rows ≤ 2 ^ MAX_LEVEL = omega (arith, ints, north, south) in
    needed-seen (g.S.Squares.knows c.args.squares.now) (g.S.Squares.content c.args.squares.now) inside _ rows few c.self.view_is c.requires.filling

pub returns-in_err-add_run-clause-grows : goal.returns-in_err-add_run-clause-grows
returns-in_err-add_run-clause-grows g c =
    grows-err _ c.in_err-add_run.ensures.grows c.from_residual.ensures.1 (needed g (goal.at.returns-in_err-add_run-clause-grows g c).After-add_run)

pub returns-clause-grows : goal.returns-clause-grows
returns-clause-grows g c = grows-ok _ c.in_ok-add_run.ensures.grows (needed g (goal.at.returns-clause-grows g c).After-add_run)
