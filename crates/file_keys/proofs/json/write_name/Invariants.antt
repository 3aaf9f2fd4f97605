use Rattle.std.proofs.Common.{◌≡◌}
use Rattle.std.specs.Str.Chunks.{utf8_chunks_rest}
use Rattle.file_keys.proofs.JsonLemmas.{Written}
use Rattle.file_keys.proofs.json.write_name.Given as goal

abbrev pub invariant-loop-chunk : goal.invariant-loop-chunk
invariant-loop-chunk g l = record {
  works : g.W.Sink.failures l.out ≡ 0;
  stalled : g.W.Sink.stalled l.out ≡ g.W.Sink.stalled l.initial.out;
  written : Written (g.W.Sink.contents l.initial.out) (g.W.Sink.contents l.out) l.name (utf8_chunks_rest l.chunk-iterator);
}
