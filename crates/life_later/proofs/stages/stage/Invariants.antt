use Rattle.std.proofs.Common.{◌-◌, ◌<◌, ◌≤◌, ℤ}
use Rattle.life_base.specs.Tree.{tree_cell}
use Rattle.life_quad.specs.IdMap.{value_of_id}
use Rattle.life_quad.specs.Store.{content}
use Rattle.life_leap.specs.Leaps.{RemembersLeaps}
use Rattle.life_leap.specs.declared.growing.TheConstants.{FASTEST}
use Rattle.life_later.specs.Course.{IsCourse}
use Rattle.life_later.specs.Stores.{IsKnownInShared, KeepsShared}
use Rattle.life_later.proofs.stages.stage.Given as goal

abbrev pub invariant-loop-left : goal.invariant-loop-left
invariant-loop-left l = record {
  most : l.left ≤ l.fn.generations;
  remembers : RemembersLeaps (IsKnownInShared l.squares) (content l.squares) l.fn.rule FASTEST (value_of_id l.memory);
  known : IsKnownInShared l.squares l.now;
  states : (x y : ℤ) → tree_cell (content l.squares l.now) x y < 2;
  course : IsCourse l.fn.rule (l.fn.generations - l.left) (content l.fn.squares l.fn.root) (content l.squares l.now);
  keeps : KeepsShared l.fn.squares l.squares;
}

abbrev pub decreases-loop-left : goal.decreases-loop-left
decreases-loop-left l = l.left
