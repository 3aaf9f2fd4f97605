use Rattle.std.proofs.Common.{◌≡◌, ◌+◌, pos, ◌+ℤ◌, List, [], ◌∷◌, ◌++◌, sym, ◌∙◌, ap, subst, arith, Option}
use Rattle.std.proofs.lemmas.Int.{ints}
use Rattle.life_strip.specs.Given.{IsAfterRun, IsNextRunStart, IsRunOnPlane, state_by}
use Rattle.life_strip.proofs.GivenLemmas.{runs_grow}
use Rattle.life_base.specs.declared.cell.Run.{Run}
use Rattle.life_sweep.specs.RunBuilder.{drawn_runs, open_runs, one_cell}
use Rattle.life_sweep.proofs.RunBuilderLemmas.{run_of, cell-here, cell-others, longer-here, longer-others, longer-next, kept, GoesOn, goes-on, next-kept}
use Rattle.life_sweep.proofs.run_builder.RunBuilder.draw.Given.{Over}
use Rattle.life_sweep.proofs.run_builder.RunBuilder.draw.Goals as goal

-- the open run goes on with the cell
on : (g : Over) (c : goal.After-self-1 g) → GoesOn c.args.self.now.builder.runs c.in-Some.run' c.args.x c.args.y c.args.state
on g c =
    goes-on c.args.self.now.builder.runs c.args.self.now.unclosed c.in-Some.run' c.args.x c.args.y c.args.state c.in-Some.is c.requires.holding.unclosed
    (omega (arith, ints, c.ranges.x))
    (omega (arith, ints, c.ranges.y)) (c.is_continued_by.ensures.0 c.if-is_continued_by.true)

pub returns-then-is_continued_by-clause-holding : goal.returns-then-is_continued_by-clause-holding
returns-then-is_continued_by-clause-holding g c =
    let on = on g c in
    record {
      filling = c.requires.holding.filling;
      unclosed = record {
        some_cell = omega arith;
        inside = record {
          west = omega (arith, ints, on.column, on.opened.inside.west);
          east = omega (arith, ints, on.column, on.more.1, c.requires.inside.east);
          north = omega (arith, ints, on.row, on.opened.inside.north);
          south = omega (arith, ints, on.row, on.opened.inside.south);
        };
        next = on.next;
        nonzero = on.opened.nonzero;
      };
    }

pub returns-then-is_continued_by-clause-here : goal.returns-then-is_continued_by-clause-here
returns-then-is_continued_by-clause-here g c =
    let runs = c.args.self.now.builder.runs in
    let run = c.in-Some.run' in
    let on = on g c in
    let x = kept run.x in
    let y = kept run.y in
    let row : c.args.y ≡ y = sym on.more.0 ∙ on.row in
    let all = runs ++ run_of x y (run.len + 1) run.state ∷ [] in
    ap (λ z. state_by all c.args.x z) row
    ∙ longer-here runs x y run.len run.state c.args.x c.requires.holding.filling.order on.next (sym (ap (λ z. z +ℤ pos run.len) on.column) ∙ on.more.1)
    ∙ on.more.2

pub returns-then-is_continued_by-clause-others : goal.returns-then-is_continued_by-clause-others
returns-then-is_continued_by-clause-others g c column row ne =
    let runs = c.args.self.now.builder.runs in
    let run = c.in-Some.run' in
    let on = on g c in
    let x = kept run.x in
    let y = kept run.y in
    let before : drawn_runs c.args.self.now ≡ runs ++ run_of x y run.len run.state ∷ [] =
    ap (λ (o : Option Run). runs ++ open_runs o) c.in-Some.is ∙ (λ j. runs ++ run_of (on.column j) (on.row j) run.len run.state ∷ []) in
    longer-others runs x y run.len run.state c.args.x c.requires.holding.filling.order on.next (sym (ap (λ z. z +ℤ pos run.len) on.column) ∙ on.more.1)
    column row (λ e1 e2. ne e1 (e2 ∙ sym on.row ∙ on.more.0))
    ∙ sym (ap (λ (l : List Run). state_by l column row) before)

pub returns-then-is_continued_by-clause-next : goal.returns-then-is_continued_by-clause-next
returns-then-is_continued_by-clause-next g c column row h =
    let runs = c.args.self.now.builder.runs in
    let run = c.in-Some.run' in
    let on = on g c in
    longer-next runs (kept run.x) (kept run.y) run.len run.state c.args.x (sym (ap (λ z. z +ℤ pos run.len) on.column) ∙ on.more.1) column row
    (subst (λ z. IsAfterRun (one_cell c.args.x z run.state) column row) (sym on.more.0 ∙ on.row) h)

-- the cell's place is one of numbers of 64 bits, and after the runs that were given
x-kept : (g : Over) (c : goal.After-self-2-1 g) → c.args.x ≡ kept c.args.x
x-kept g c = omega (arith, ints, c.ranges.x)

y-kept : (g : Over) (c : goal.After-self-2-1 g) → c.args.y ≡ kept c.args.y
y-kept g c = omega (arith, ints, c.ranges.y)

next : (g : Over) (c : goal.After-self-2-1 g) → IsNextRunStart c.close.new.self.builder.runs (kept c.args.x) (kept c.args.y)
next g c = next-kept _ (drawn_runs c.args.self.now) c.args.x c.args.y (x-kept g c) (y-kept g c) c.in_ok-close.ensures.drawn c.requires.next

pub returns-clause-holding : goal.returns-clause-holding
returns-clause-holding g c =
    let ex = x-kept g c in
    let ey = y-kept g c in
    record {
      filling = c.in_ok-close.ensures.filling;
      unclosed = record {
        some_cell = omega arith;
        inside = subst (λ z. IsRunOnPlane z (kept c.args.y) 1) ex (subst (λ z. IsRunOnPlane c.args.x z 1) ey c.requires.inside);
        next = next g c;
        nonzero = c.requires.nonzero;
      };
    }

pub returns-clause-here : goal.returns-clause-here
returns-clause-here g c =
    let runs = c.close.new.self.builder.runs in
    let all = runs ++ one_cell (kept c.args.x) (kept c.args.y) c.args.state ∷ [] in
    let ex = x-kept g c in
    let ey = y-kept g c in
    (λ j. state_by all (ex j) (ey j)) ∙ cell-here runs _ _ c.args.state c.in_ok-close.ensures.filling.order (next g c)

pub returns-clause-others : goal.returns-clause-others
returns-clause-others g c column row ne =
    cell-others _ _ _ c.args.state c.in_ok-close.ensures.filling.order (next g c) column row (λ e1 e2. ne (e1 ∙ sym (x-kept g c)) (e2 ∙ sym (y-kept g c)))
    ∙ ap (λ (l : List Run). state_by l column row) c.in_ok-close.ensures.drawn

pub returns-clause-next : goal.returns-clause-next
returns-clause-next g c column row h =
    let ex = x-kept g c in
    let ey = y-kept g c in
    (runs_grow c.close.new.self.builder.runs (one_cell (kept c.args.x) (kept c.args.y) c.args.state) column row).0.1
    (subst (λ (run : Run). IsAfterRun run column row) (λ j. one_cell (ex j) (ey j) c.args.state) h)
