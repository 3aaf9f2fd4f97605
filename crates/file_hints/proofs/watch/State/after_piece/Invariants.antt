use Rattle.std.proofs.Common.{◌≡◌, ◌≤◌, ◌++◌, ℕ, List, length}
use Rattle.file_hints.specs.Watching.{warning_by}
use Rattle.file_hints.proofs.watch.State.after_piece.Given as goal

-- what is left of the piece comes after what was watched
abbrev pub invariant-loop-end : goal.invariant-loop-end
invariant-loop-end l = record {
  short : length l.left ≤ length l.piece;
  same : (rest : List ℕ) → warning_by l.state (l.left ++ rest) ≡ warning_by l.fn.self (l.piece ++ rest);
}

abbrev pub decreases-loop-end : goal.decreases-loop-end
decreases-loop-end l = length l.left
