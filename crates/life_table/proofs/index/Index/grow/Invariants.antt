use Rattle.std.proofs.Common.{◌≡◌}
use Rattle.life_table.proofs.index.Index.grow.Given as goal

-- it is the same table
abbrev pub invariant-loop : goal.invariant-loop
invariant-loop l = l.self ≡ l.fn.self
