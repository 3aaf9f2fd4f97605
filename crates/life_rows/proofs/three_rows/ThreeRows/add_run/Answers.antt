use Rattle.std.proofs.Common.{ℕ, ◌-◌, pos, nat_abs, ◌+ℤ◌, ap, subst}
use Rattle.life_base.specs.Tree.{Tree}
use Rattle.life_quad.proofs.KeepingLemmas.{adds-as}
use Rattle.life_rows.specs.Needed.{SomeNextAbove}
use Rattle.life_strip.specs.Given.{half_plane, state_by}
use Rattle.life_strip.proofs.PlaneLemmas.{row_of_run}
use Rattle.life_rows.proofs.three_rows.ThreeRows.add_run.Given.{Over}
use Rattle.life_rows.proofs.three_rows.ThreeRows.add_run.Goals as goal
use Rattle.life_rows.proofs.three_rows.ThreeRows.add_run.Goals.{After-offset-row}

-- the row of the run, in other words
module _ (g : Over) (c : After-offset-row g) where
  by-run : let s = c.args.self.now in (P : Tree → Type 0) → SomeNextAbove P (c.offset-row.result - 1) s.rule (state_by s.log.runs)
      → SomeNextAbove P (nat_abs (c.args.run.y +ℤ pos half_plane) - 1) s.rule (state_by s.log.runs)
  by-run P n =
      let s = c.args.self.now in
      let row = row_of_run c.args.run c.offset-row.result c.requires.inside c.offset-row.ensures in
      subst (λ (n : ℕ). SomeNextAbove P (n - 1) s.rule (state_by s.log.runs)) (ap nat_abs row) n

pub returns-then-not-reach_row-clause-adds : goal.returns-then-not-reach_row-clause-adds
returns-then-not-reach_row-clause-adds g c = adds-as _ c.reach_row.ensures.adds (by-run g (goal.at.returns-then-not-reach_row-clause-adds g c).After-offset-row)

pub returns-then-run-self-clause-adds : goal.returns-then-run-self-clause-adds
returns-then-run-self-clause-adds g c = adds-as _ c.reach_row.ensures.adds (by-run g (goal.at.returns-then-run-self-clause-adds g c).After-offset-row)

pub returns-else-run-self-clause-adds : goal.returns-else-run-self-clause-adds
returns-else-run-self-clause-adds g c = adds-as _ c.reach_row.ensures.adds (by-run g (goal.at.returns-else-run-self-clause-adds g c).After-offset-row)
