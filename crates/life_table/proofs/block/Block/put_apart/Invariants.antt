use Rattle.std.proofs.Common.{◌≡◌, ◌≢◌, ℕ, ◌+◌, ◌*◌, ◌<◌, length, slice_index}
use Rattle.std.specs.Int.{bit_at}
use Rattle.life_table.specs.Index.{Stay, entry_at}
use Rattle.life_table.proofs.block.Block.put_apart.Given as goal

-- the line is in the sets of the places so far
abbrev pub invariant-loop-q : goal.invariant-loop-q
invariant-loop-q l = record {
  put : (q : ℕ) → q < l.q → entry_at l.inputs l.p ≢ entry_at l.inputs q → bit_at (slice_index l.self.apart (9 * l.p + q)) l.k ≡ 1;
  stay : Stay l.fn.self.apart l.self.apart;
  same : l.self.sets ≡ l.fn.self.sets;
  size : length l.self.apart ≡ 81;
  twice : length l.self.twice ≡ 9;
}
