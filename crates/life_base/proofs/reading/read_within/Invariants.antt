use Rattle.std.proofs.Common.{◌≡◌, ◌≤◌, ◌-◌, vec_len}
use Rattle.std.specs.Io.KnownBytes.{Consumes}
use Rattle.life_base.proofs.reading.read_within.Given as goal

abbrev pub invariant-loop-bytes : goal.invariant-loop-bytes
invariant-loop-bytes g l = record {
  within : vec_len l.bytes ≤ l.most;
  works : g.R.Source.failures l.reader ≡ 0;
  consumed : Consumes (g.R.Source.remaining l.initial.reader) (g.R.Source.remaining l.reader) l.bytes.items;
}

abbrev pub decreases-loop-bytes : goal.decreases-loop-bytes
decreases-loop-bytes g l = l.most - vec_len l.bytes
