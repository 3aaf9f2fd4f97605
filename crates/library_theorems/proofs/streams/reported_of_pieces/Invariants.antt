use Rattle.std.proofs.Common.{ℕ, []}
use Rattle.library_calls.specs.Streams.{session_of, IsOpenStream, IsFed}
use Rattle.library_calls.specs.declared.texts.Output.{Output}
use Rattle.library_theorems.proofs.Pieces.{Took}
use Rattle.library_theorems.proofs.streams.reported_of_pieces.Given as goal

abbrev pub invariant-loop-piece : goal.invariant-loop-piece
invariant-loop-piece l =
    (output : Output) (limit : ℕ) → IsOpenStream (IsFed output limit []) (session_of l.initial.stream)
    → Took output limit l.pieces l.piece-index (session_of l.stream)
