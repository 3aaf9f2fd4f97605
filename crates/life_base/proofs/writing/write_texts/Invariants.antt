use Rattle.std.proofs.Common.{◌≡◌, take}
use Rattle.std.specs.List.{flat_map}
use Rattle.std.specs.Io.KnownBytes.{Appends}
use Rattle.life_base.proofs.writing.write_texts.Given as goal

abbrev pub invariant-loop-text : goal.invariant-loop-text
invariant-loop-text g l = record {
  works : g.W.Sink.failures l.writer ≡ 0;
  stalled : g.W.Sink.stalled l.writer ≡ g.W.Sink.stalled l.initial.writer;
  written : Appends (g.W.Sink.contents l.initial.writer) (g.W.Sink.contents l.writer) (flat_map (λ text. text.now) (take l.text-index l.texts));
}
