use Rattle.std.proofs.Common.{◌≡◌, ◌+◌, ◌-◌, ◌≤◌, ℤ}
use Rattle.life_base.specs.Tree.{tree_cell}
use Rattle.life_base.specs.declared.cell.TheConstants.{MAX_LEVEL}
use Rattle.life_base.specs.declared.rule.Rule.TheVariants.{Life}
use Rattle.life_quad.specs.Store.{content}
use Rattle.life_pattern.specs.Store.{IsTrimmed}
use Rattle.life_pattern.specs.Universe.{square_universe}
use Rattle.life_leap.specs.After.{after}
use Rattle.life_phase_forms.specs.Phases.{IsLeastOfPhases}
use Rattle.life_phase_forms.proofs.texts.least_text.Given as goal

abbrev pub invariant-loop-done : goal.invariant-loop-done
invariant-loop-done l = record {
  count : l.done + 1 ≤ l.fn.count;
  trimmed : IsTrimmed l.course (record { rule = Life l.fn.rule; generation = 0; root = l.now });
  later : (x y : ℤ) → tree_cell (content l.course l.now) x y ≡ after l.fn.rule l.done (tree_cell (content l.fn.course l.fn.start)) x y;
  least : IsLeastOfPhases MAX_LEVEL l.fn.rule (l.done + 1) (square_universe (Life l.fn.rule) 0 (content l.fn.course l.fn.start)) l.best.items;
}

abbrev pub decreases-loop-done : goal.decreases-loop-done
decreases-loop-done l = l.fn.count - l.done
