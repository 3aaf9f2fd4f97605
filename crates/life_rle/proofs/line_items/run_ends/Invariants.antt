use Rattle.std.proofs.Common.{◌≡◌, ◌≤◌, length, take, filter}
use Rattle.life_rle.specs.Runs.{is_run_end}
use Rattle.life_rle.proofs.line_items.run_ends.Given as goal

abbrev pub invariant-loop-byte : goal.invariant-loop-byte
invariant-loop-byte l = record {
  low : l.count ≤ l.byte-index;
  counted : l.count ≡ length (filter is_run_end (take l.byte-index l.text));
}
