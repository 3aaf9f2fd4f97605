use Rattle.std.proofs.Common.{◌≡◌, ◌≤◌, ◌+◌, ◌++◌, ℕ, List, length, Ok}
use Rattle.file_keys.specs.Stream.{CanTakePieces, HoldsPiece, TakesPieces}
use Rattle.file_keys.proofs.stream.runs.StreamRun.take_chunk.Given as goal

abbrev pub invariant-loop-at : goal.invariant-loop-at
invariant-loop-at g l = record {
  can : CanTakePieces l.self (g.W.Sink.failures l.out) (g.E.Sink.failures l.err);
  form : l.self.form ≡ l.initial.self.form;
  style : l.self.outputs.style ≡ l.initial.self.outputs.style;
  stalled : g.W.Sink.stalled l.out ≡ g.W.Sink.stalled l.initial.out;
  within : l.self.count + length l.rest ≤ l.initial.self.count + length l.chunk;
  took : (begun : List ℕ) → HoldsPiece l.initial.self.piece begun → (prefix left : List ℕ) × HoldsPiece l.self.piece left × (l.chunk ≡ prefix ++ l.rest)
      × TakesPieces g.W.Sink.contents g.E.Sink.contents g.E.Sink.failures g.E.Sink.stalled l.initial.self.form l.initial.self.count l.self.count begun prefix
      left l.initial.out l.out l.initial.err l.err l.initial.self.outputs l.self.outputs (Ok tt);
}

abbrev pub decreases-loop-at : goal.decreases-loop-at
decreases-loop-at g l = length l.rest
