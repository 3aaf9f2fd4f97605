use Rattle.life_table.specs.Index.{KeepsOrders}
use Rattle.life_table.proofs.block.Block.with_every_subset.Given as goal

-- the lines that may fit an order stay
abbrev pub invariant-loop-i : goal.invariant-loop-i
invariant-loop-i l = KeepsOrders l.self l.others l.lines l.rest
