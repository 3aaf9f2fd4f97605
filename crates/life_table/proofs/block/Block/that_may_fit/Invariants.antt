use Rattle.std.proofs.Common.{◌≡◌, ℕ, ◌<◌}
use Rattle.std.specs.Int.{bit_at}
use Rattle.life_table.specs.Index.{MayFit}
use Rattle.life_table.proofs.block.Block.that_may_fit.Given as goal

-- a line that may fit stays
abbrev pub invariant-loop-p : goal.invariant-loop-p
invariant-loop-p l = (k : ℕ) → k < 64 → MayFit l.self l.image k → bit_at l.lines k ≡ 1
