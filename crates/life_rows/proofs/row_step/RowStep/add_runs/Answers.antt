use Rattle.std.proofs.Common.{◌≡◌, ℕ, suc, ◌++◌, ◌∷◌, ◌<◌, List, drop, drop-cons, length, get_or, pos, sym, ap, subst, ◌∙◌, refl, arith}
use Rattle.life_base.specs.Sets.{OuterTotalistic}
use Rattle.life_base.specs.declared.cell.Run.{Run}
use Rattle.life_quad.proofs.KeepingLemmas.{adds-then, keeps-then}
use Rattle.life_rows.specs.Needed.{SomeNextOfRuns}
use Rattle.life_rows.proofs.NeededLemmas.{of-runs}
use Rattle.life_strip.proofs.RunLemmas.{left-more, next-more}
use Rattle.life_rows.proofs.row_step.RowStep.add_runs.Goals as goal

-- a run in the place of one that isn't there
abbrev none : Run
none = record { x = pos 0; y = pos 0; len = 0; state = 0 }

-- the runs before one, that one, and those after it
split : (all so_far runs : List Run) (i : ℕ) → i < length runs → so_far ++ drop i runs ≡ all → so_far ++ get_or runs i none ∷ drop (suc i) runs ≡ all
split all so_far runs i h e = ap (λ z. so_far ++ z) (sym (drop-cons runs i none h)) ∙ e

pub loop-run-preserved : goal.loop-run-preserved
loop-run-preserved g c =
    let h : c.loop-run.run-index < length c.args.runs.now = omega arith in
    let i = c.loop-run.invariant in
    let e = c.if-not-add_run.ensures in
    let s = c.loop-run.self-inside.rows in
    let all = c.args.self.now.runs ++ c.args.runs.now in
    record {
      keeps = keeps-then i.keeps e.keeps;
      adds = adds-then _ i.adds e.adds (λ P a. a)
          (λ P n. subst (λ (r : OuterTotalistic). SomeNextOfRuns P r all) i.rule
          (of-runs P s.rule all s.log.runs (drop (suc c.loop-run.run-index) c.args.runs.now) (get_or c.args.runs.now c.loop-run.run-index none)
          (split all s.log.runs c.args.runs.now c.loop-run.run-index h i.left) n));
      rows = e.rows refl;
      between = e.between refl;
      next = next-more s.log.runs c.add_run.new.self.log.runs c.args.runs.now c.loop-run.run-index none h i.next (e.runs refl);
      left = left-more all s.log.runs c.add_run.new.self.log.runs c.args.runs.now c.loop-run.run-index none h i.left (e.runs refl);
      rule = e.rule refl ∙ i.rule;
    }

pub returns-then-not-add_run-clause-adds : goal.returns-then-not-add_run-clause-adds
returns-then-not-add_run-clause-adds g c =
    let h : c.loop-run.run-index < length c.args.runs.now = omega arith in
    let i = c.loop-run.invariant in
    let s = c.loop-run.self-inside.rows in
    let all = c.args.self.now.runs ++ c.args.runs.now in
    adds-then _ i.adds c.add_run.ensures.adds (λ P a. a)
    (λ P n. subst (λ (r : OuterTotalistic). SomeNextOfRuns P r all) i.rule
    (of-runs P s.rule all s.log.runs (drop (suc c.loop-run.run-index) c.args.runs.now) (get_or c.args.runs.now c.loop-run.run-index none)
    (split all s.log.runs c.args.runs.now c.loop-run.run-index h i.left) n))
