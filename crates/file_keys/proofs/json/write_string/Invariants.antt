use Rattle.std.proofs.Common.{◌≡◌, take}
use Rattle.std.specs.List.{flat_map}
use Rattle.std.specs.Io.KnownBytes.{Appends}
use Rattle.file_keys.specs.Json.{json_byte}
use Rattle.file_keys.proofs.json.write_string.Given as goal

abbrev pub invariant-loop-byte : goal.invariant-loop-byte
invariant-loop-byte g l = record {
  works : g.W.Sink.failures l.out ≡ 0;
  stalled : g.W.Sink.stalled l.out ≡ g.W.Sink.stalled l.initial.out;
  written : Appends (g.W.Sink.contents l.initial.out) (g.W.Sink.contents l.out) (flat_map json_byte (take l.byte-index l.text));
}
