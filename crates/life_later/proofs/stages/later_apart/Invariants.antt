use Rattle.std.proofs.Common.{◌-◌, ◌<◌, ◌≤◌, ℤ}
use Rattle.life_base.specs.Tree.{tree_cell}
use Rattle.life_quad.specs.Store.{content}
use Rattle.life_later.specs.Course.{IsCourse}
use Rattle.life_later.specs.Stores.{IsKnownInShared}
use Rattle.life_later.proofs.stages.later_apart.Given as goal

abbrev pub invariant-loop-left : goal.invariant-loop-left
invariant-loop-left l = record {
  most : l.left ≤ l.fn.generations;
  known : IsKnownInShared l.own l.now;
  states : (x y : ℤ) → tree_cell (content l.own l.now) x y < 2;
  course : IsCourse l.fn.rule (l.fn.generations - l.left) (content l.fn.from l.fn.root) (content l.own l.now);
}

abbrev pub decreases-loop-left : goal.decreases-loop-left
decreases-loop-left l = l.left
