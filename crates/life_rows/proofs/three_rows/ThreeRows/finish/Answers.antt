use Rattle.std.proofs.Common.{◌≡◌, ◌+◌, ◌-◌, ◌^◌, ◌∙◌, Option, Result, Ok, Err, IfOk, IfSome, ℕ, ℤ, List, refl, sym, subst, arith}
use Rattle.std.specs.Result.{result_ok}
use Rattle.life_base.specs.declared.cell.Run.{Run}
use Rattle.life_base.specs.declared.cell.TheConstants.{MAX_LEVEL}
use Rattle.life_quad.proofs.KeepingLemmas.{adds-then, keeps-then}
use Rattle.life_rows.specs.Stepping.{AreCellsTo}
use Rattle.life_rows.proofs.NeededLemmas.{more-needed, next-needed}
use Rattle.life_rows.proofs.ThreeRowsLemmas.{rows-all}
use Rattle.life_strip.specs.Given.{state_by}
use Rattle.life_strip.specs.Plane.{cell_so_far, state_so_far}
use Rattle.life_next.specs.Generation.{next_life}
use Rattle.life_rows.proofs.three_rows.ThreeRows.finish.Given.{Over}
use Rattle.life_rows.proofs.three_rows.ThreeRows.finish.Goals as goal
use Rattle.life_rows.proofs.three_rows.ThreeRows.finish.Goals.{After-loop}

some-by : {T E : Type 0} {P Q : T → Type 0} (r : Result T E) (o : Option T) → o ≡ result_ok r → IfOk r P → ((x : T) → P x → Q x) → IfSome o Q
some-by {Q = Q} (Ok x) o e p f = subst (λ z. IfSome z Q) (sym e) (f x p)
some-by {Q = Q} (Err x) o e p f = subst (λ z. IfSome z Q) (sym e) tt

-- once three rows have ended, the builder has the whole next generation
done : (g : Over) (c : After-loop g) (x y : ℤ)
    → cell_so_far (g.S.Squares.content c.loop.squares) c.loop.rows.builder x y ≡ next_life c.loop.rows.rule (state_by c.loop.rows.log.runs) x y
done g c =
    let s = c.loop.rows in
    let i = c.loop.invariant in
    let first = c.args.self in
    let row : first.north_row + 2 ≡ s.north_row - 1 = (let at = i.row in omega (arith, at)) in
    let cells : AreCellsTo (s.north_row - 1) (state_by s.log.runs) =
    subst (λ (n : ℕ). AreCellsTo n (state_by s.log.runs)) row
    (subst (λ (runs : List Run). AreCellsTo (first.north_row + 2) (state_by runs)) (sym i.runs) c.requires.rows.cells) in
    rows-all (g.S.Squares.knows c.loop.squares) (g.S.Squares.content c.loop.squares) s.rule s.builder s.north.items s.here.items s.south.items
    s.north_row s.left s.log.runs i.rows cells (let at = i.row in omega (arith, at))

pub returns-clause-cells : goal.returns-clause-cells
returns-clause-cells g c =
    let i = c.loop.invariant in
    let all = done g (goal.at.returns-clause-cells g c).After-loop in
    some-by c.finish.result c.ok.result c.ok.ensures.value c.finish.ensures.cells
    (λ id h x y. h x y ∙ all x y ∙ (λ k. next_life (i.rule k) (state_by (i.runs k)) x y))

pub returns-then-not-end_row-clause-keeps : goal.returns-then-not-end_row-clause-keeps
returns-then-not-end_row-clause-keeps g c = keeps-then c.loop.invariant.keeps c.end_row.ensures.keeps

pub loop-preserved : goal.loop-preserved
loop-preserved g c =
    let i = c.loop.invariant in
    let e = c.if-not-end_row.ensures in
    record {
      keeps = keeps-then i.keeps e.keeps;
      adds = adds-then _ i.adds e.adds (λ P s. s) (λ P. more-needed (omega arith) i.rule i.runs);
      rows = e.rows refl;
      row = (let next = e.row refl in let at = i.row in omega (arith, next, at));
      rule = e.rule refl ∙ i.rule;
      runs = e.runs refl ∙ i.runs;
    }

pub returns-clause-keeps : goal.returns-clause-keeps
returns-clause-keeps g c = keeps-then c.loop.invariant.keeps c.finish.ensures.grows.keeps

pub returns-then-not-end_row-clause-adds : goal.returns-then-not-end_row-clause-adds
returns-then-not-end_row-clause-adds g c =
    let i = c.loop.invariant in adds-then _ i.adds c.end_row.ensures.adds (λ P s. s) (λ P. more-needed (omega arith) i.rule i.runs)

pub returns-clause-adds : goal.returns-clause-adds
returns-clause-adds g c =
    let s = c.loop.rows in
    let i = c.loop.invariant in
    let all = done g (goal.at.returns-clause-adds g c).After-loop in
    adds-then _ i.adds c.finish.ensures.grows.adds (λ P n. n)
    (λ P n. more-needed (omega arith) i.rule i.runs
    (next-needed (state_so_far (g.S.Squares.content c.loop.squares) s.builder) s.rule (state_by s.log.runs) (2 ^ MAX_LEVEL) (omega arith)
    (λ x y lt. all x y) P n))
