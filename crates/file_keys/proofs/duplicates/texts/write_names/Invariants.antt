use Rattle.std.proofs.Common.{◌≡◌, drop, map}
use Rattle.file_keys.proofs.DuplicateLemmas.{Printed}
use Rattle.file_keys.proofs.duplicates.texts.write_names.Given as goal

abbrev pub invariant-loop-name : goal.invariant-loop-name
invariant-loop-name g l = record {
  works : g.W.Sink.failures l.out ≡ 0;
  stalled : g.W.Sink.stalled l.out ≡ g.W.Sink.stalled l.initial.out;
  printed : Printed (g.W.Sink.contents l.initial.out) (g.W.Sink.contents l.out) l.zero (map (λ name. name.now) l.names)
      (map (λ name. name.now) (drop l.name-index l.names));
}
