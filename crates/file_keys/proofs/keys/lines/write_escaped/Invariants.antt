use Rattle.std.proofs.Common.{◌≡◌, length}
use Rattle.file_keys.proofs.KeyLines.{Written}
use Rattle.file_keys.proofs.keys.lines.write_escaped.Given as goal

abbrev pub invariant-loop-rest : goal.invariant-loop-rest
invariant-loop-rest g l = record {
  works : g.E.Sink.failures l.err ≡ 0;
  stalled : g.E.Sink.stalled l.err ≡ g.E.Sink.stalled l.initial.err;
  written : Written (g.E.Sink.contents l.initial.err) (g.E.Sink.contents l.err) l.name l.rest;
}

abbrev pub decreases-loop-rest : goal.decreases-loop-rest
decreases-loop-rest g l = length l.rest
