use Rattle.std.proofs.Common.{◌≡◌, ◌<◌, ◌-◌, ◌++◌, ◌∷◌, List, drop, drop-cons, length, get_or, sym, ap, ◌∙◌, arith, pos}
use Rattle.std.proofs.lemmas.List.{length-drop, take_all}
use Rattle.life_base.specs.Tree.{Tree}
use Rattle.life_base.specs.declared.cell.Run.{Run}
use Rattle.life_quad.proofs.GrowsLemmas.{grows-behind, grows-err}
use Rattle.life_quad.proofs.KeepingLemmas.{adds-then, keeps-then}
use Rattle.life_strip.specs.Needed.{SomeOfRuns}
use Rattle.life_strip.proofs.RunLemmas.{left-more, some-above}
use Rattle.life_strip.proofs.builder.Builder.add_by_rows.Goals as goal

-- a run in the place of one that isn't there
abbrev none : Run
none = record { x = pos 0; y = pos 0; len = 0; state = 0 }

-- the runs before the first that is left, that one, and those after it
split : (all so_far runs : List Run) → 0 < length runs → so_far ++ runs ≡ all → so_far ++ get_or runs 0 none ∷ drop 1 runs ≡ all
split all so_far runs h e = ap (λ z. so_far ++ z) (sym (drop-cons runs 0 none h)) ∙ e

pub loop-left-smaller : goal.loop-left-smaller
loop-left-smaller g c =
    let fewer = c.add_row_runs-left-in-loop-left.ensures.fewer in
    let h : 0 < length c.loop-left.left.now = grind (arith, c.is_empty.ensures, c.loop-left-test.true) in
    let n = length-drop 1 c.loop-left.left.now in
    let same = ap length (take_all (length c.loop-left.left.now - 1) (drop 1 c.loop-left.left.now) (omega (arith, n))) in
    omega (arith, fewer, n, h, same)

pub loop-left-preserved : goal.loop-left-preserved
loop-left-preserved g c =
    let runs = c.loop-left.left.now in
    let h : 0 < length runs = grind (arith, c.is_empty.ensures, c.loop-left-test.true) in
    let i = c.loop-left.invariant in
    let e = c.in_ok-add_run.ensures in
    let m = c.add_row_runs-left-in-loop-left.ensures in
    let all = c.args.self.now.runs ++ c.args.runs.now in
    let n = length-drop 1 runs in
    record {
      filling = m.filling;
      next = m.next;
      left = m.runs ∙ ap (λ z. c.add_run.new.self.runs ++ z) (take_all (length runs - 1) (drop 1 runs) (omega (arith, n)))
          ∙ left-more all c.loop-left.self.runs c.add_run.new.self.runs runs 0 none h i.left e.runs;
      keeps = keeps-then i.keeps e.grows.keeps;
      adds = adds-then _ i.adds e.grows.adds (λ P a. a)
          (λ P s. some-above P all c.loop-left.self.runs (drop 1 runs) (get_or runs 0 none) (split all c.loop-left.self.runs runs h i.left) s);
    }

pub returns-in_err-add_run-clause-grows : goal.returns-in_err-add_run-clause-grows
returns-in_err-add_run-clause-grows g c =
    let runs = c.loop-left.left.now in
    let h : 0 < length runs = grind (arith, c.is_empty.ensures, c.loop-left-test.true) in
    let i = c.loop-left.invariant in
    let all = c.args.self.now.runs ++ c.args.runs.now in
    let Needs : (Tree → Type 0) → Type 0 = λ P. SomeOfRuns P all in
    let grows = grows-behind Needs i.keeps i.adds c.in_err-add_run.ensures.grows
    (λ P s. some-above P all c.loop-left.self.runs (drop 1 runs) (get_or runs 0 none) (split all c.loop-left.self.runs runs h i.left) s) in
    grows-err Needs grows c.from_residual.ensures.1 (λ P a. a)
