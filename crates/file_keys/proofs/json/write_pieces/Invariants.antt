use Rattle.std.proofs.Common.{◌≡◌, take}
use Rattle.std.specs.List.{flat_map}
use Rattle.std.specs.Io.KnownBytes.{Appends}
use Rattle.file_keys.specs.Pieces.{piece_text}
use Rattle.file_keys.proofs.json.write_pieces.Given as goal

abbrev pub invariant-loop-piece : goal.invariant-loop-piece
invariant-loop-piece g l = record {
  works : g.W.Sink.failures l.out ≡ 0;
  stalled : g.W.Sink.stalled l.out ≡ g.W.Sink.stalled l.initial.out;
  written : Appends (g.W.Sink.contents l.initial.out) (g.W.Sink.contents l.out) (flat_map piece_text (take l.piece-index l.pieces));
}
