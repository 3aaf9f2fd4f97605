use Rattle.std.proofs.Common.{◌+◌, ◌≤◌, take, All}
use Rattle.life_table.specs.Taking.{IsGrouped}
use Rattle.life_table.proofs.groups.groups_in_order.Given as goal

-- the groups of the inputs so far
abbrev pub invariant-loop-entry : goal.invariant-loop-entry
invariant-loop-entry l = record {
  grouped : IsGrouped l.first l.fn.output (take l.entry-index l.inputs) (take l.count l.groups);
  few : l.count ≤ l.entry-index + 1;
  small : All (λ g. g.times ≤ l.entry-index) (take l.count l.groups);
}
