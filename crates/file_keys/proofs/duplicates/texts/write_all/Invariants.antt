use Rattle.std.proofs.Common.{◌≡◌}
use Rattle.file_keys.specs.Duplicates.{kept_groups}
use Rattle.file_keys.specs.Groups.{printed_names}
use Rattle.file_keys.proofs.DuplicateLemmas.{left_names, Printed, several_of}
use Rattle.file_keys.proofs.duplicates.texts.write_all.Given as goal

abbrev pub invariant-loop-group : goal.invariant-loop-group
invariant-loop-group g l = record {
  works : g.W.Sink.failures l.out ≡ 0;
  stalled : g.W.Sink.stalled l.out ≡ g.W.Sink.stalled l.initial.out;
  printed : Printed (g.W.Sink.contents l.initial.out) (g.W.Sink.contents l.out) l.zero (printed_names (kept_groups l.groups))
      (left_names l.is_first (several_of l.group-iterator));
}
