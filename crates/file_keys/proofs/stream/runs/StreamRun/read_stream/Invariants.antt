use Rattle.std.proofs.Common.{◌≡◌, ◌≤◌, ◌+◌, ◌-◌, ◌^◌, ℕ, List, length, Ok}
use Rattle.std.specs.Io.KnownBytes.{Consumes}
use Rattle.file_keys.specs.Stream.{CanTakePieces, HoldsPiece, TakesPieces}
use Rattle.file_keys.proofs.stream.runs.StreamRun.read_stream.Given as goal

abbrev pub invariant-loop-count : goal.invariant-loop-count
invariant-loop-count g l = record {
  can : CanTakePieces l.self (g.W.Sink.failures l.out) (g.E.Sink.failures l.err);
  working : g.R.Source.failures l.source ≡ 0;
  form : l.self.form ≡ l.initial.self.form;
  style : l.self.outputs.style ≡ l.initial.self.outputs.style;
  stalled : g.W.Sink.stalled l.out ≡ g.W.Sink.stalled l.initial.out;
  within : l.self.count + l.left ≤ 2 ^ 64 - 2;
  came : (bytes : List ℕ) × Consumes (g.R.Source.remaining l.initial.source) (g.R.Source.remaining l.source) bytes × (length bytes + l.left ≡ 2 ^ 64 - 2)
      × ((begun : List ℕ) → HoldsPiece l.initial.self.piece begun → (left : List ℕ) × HoldsPiece l.self.piece left
      × TakesPieces g.W.Sink.contents g.E.Sink.contents g.E.Sink.failures g.E.Sink.stalled l.initial.self.form 0 l.self.count begun bytes
      left l.initial.out l.out l.initial.err l.err l.initial.self.outputs l.self.outputs (Ok tt));
}

abbrev pub decreases-loop-count : goal.decreases-loop-count
decreases-loop-count g l = l.left
