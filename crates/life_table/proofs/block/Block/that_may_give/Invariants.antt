use Rattle.std.proofs.Common.{◌≡◌, ℕ, ◌<◌, [], take, get_or}
use Rattle.std.specs.Int.{bit_at}
use Rattle.life_table.specs.Index.{MayFit}
use Rattle.life_table.proofs.block.Block.that_may_give.Given as goal

-- the lines that may fit an image so far are there
abbrev pub invariant-loop-j : goal.invariant-loop-j
invariant-loop-j l = (k i : ℕ) → k < 64 → i < l.j → MayFit l.self (take l.n (get_or l.images.cells i [])) k → bit_at l.lines k ≡ 1
