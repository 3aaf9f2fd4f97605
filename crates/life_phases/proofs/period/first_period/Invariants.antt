use Rattle.std.proofs.Common.{◌≡◌, ◌-◌, ◌<◌, ◌≤◌, ℤ}
use Rattle.life_base.specs.Tree.{depth, tree_cell}
use Rattle.life_quad.specs.Store.{content}
use Rattle.life_leap.specs.After.{after}
use Rattle.life_later.specs.Course.{LeavesWithin}
use Rattle.life_later.specs.Stores.{IsKnownInShared, KeepsShared}
use Rattle.life_phases.specs.Periods.{HasNoPeriodUpTo}
use Rattle.life_phases.proofs.period.first_period.Given as goal

abbrev pub invariant-loop-done : goal.invariant-loop-done
invariant-loop-done l = record {
  most : l.done ≤ l.fn.most;
  known : IsKnownInShared l.course l.now;
  low : 3 ≤ depth (content l.course l.now);
  states : (x y : ℤ) → tree_cell (content l.course l.now) x y < 2;
  later : (x y : ℤ) → tree_cell (content l.course l.now) x y ≡ after l.fn.rule l.done (tree_cell (content l.fn.course l.fn.start)) x y;
  none : HasNoPeriodUpTo l.fn.rule (tree_cell (content l.fn.course l.fn.start)) l.done;
  stays : ¬ (LeavesWithin l.fn.rule l.done (tree_cell (content l.fn.course l.fn.start)));
  keeps : KeepsShared l.fn.middles l.middles;
}

abbrev pub decreases-loop-done : goal.decreases-loop-done
decreases-loop-done l = l.fn.most - l.done
