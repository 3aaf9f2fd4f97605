use Rattle.std.proofs.Common.{◌≡◌, ℕ, ◌%◌, ◌<◌, length, slice_index}
use Rattle.life_table.proofs.seen.round.Given as goal

-- the places so far have their neighbours
abbrev pub invariant-loop-k : goal.invariant-loop-k
invariant-loop-k l = record {
  each : (j : ℕ) → j < l.k → slice_index l.around j ≡ slice_index l.others (j % length l.others);
  size : length l.around ≡ 16;
}
