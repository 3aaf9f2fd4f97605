use Rattle.std.proofs.Common.{◌≡◌, ◌++◌, ℕ, List, length}
use Rattle.file_hints.specs.Watching.{warning_in}
use Rattle.file_hints.proofs.watch.State.after_text.Given as goal

abbrev pub invariant-loop-left : goal.invariant-loop-left
invariant-loop-left l = (rest : List ℕ) (lines : List (List ℕ))
    → warning_in l.state (l.left ++ rest) lines ≡ warning_in l.fn.self (l.text ++ rest) lines

abbrev pub decreases-loop-left : goal.decreases-loop-left
decreases-loop-left l = length l.left
