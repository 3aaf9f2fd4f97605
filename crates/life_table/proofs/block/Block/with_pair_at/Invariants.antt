use Rattle.std.proofs.Common.{◌≡◌, ℕ, ◌<◌, ◌∷◌, List, Contains}
use Rattle.std.specs.Int.{bit_at}
use Rattle.life_table.specs.Index.{MayFit}
use Rattle.life_table.specs.Orders.{orders}
use Rattle.life_table.proofs.block.Block.with_pair_at.Given as goal

-- the lines that may fit an order stay
abbrev pub invariant-loop-q : goal.invariant-loop-q
invariant-loop-q l =
    (k centre : ℕ) (v : List ℕ) → k < 64 → Contains (orders l.others) v → MayFit l.self (centre ∷ v) k → bit_at l.lines k ≡ 1 → bit_at l.rest k ≡ 1
