use Rattle.std.proofs.Common.{◌≡◌, ℕ, ◌<◌, List, Contains}
use Rattle.std.specs.Int.{bit_at}
use Rattle.life_table.specs.Index.{MayComeAfter}
use Rattle.life_table.specs.Orders.{orders}
use Rattle.life_table.proofs.block.Block.with_each_input.Given as goal

-- the lines that may fit an order stay
abbrev pub invariant-loop-p : goal.invariant-loop-p
invariant-loop-p l = (k : ℕ) (v : List ℕ) → k < 64 → Contains (orders l.others) v → MayComeAfter l.self v k → bit_at l.lines k ≡ 1 → bit_at l.rest k ≡ 1
