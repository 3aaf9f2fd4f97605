use Rattle.std.proofs.Common.{◌≡◌, ◌≤◌, ◌++◌, ◌∷◌, ℕ, List, false, length}
use Rattle.file_hints.specs.Recognition.{has_byte}
use Rattle.file_hints.specs.Watching.{warning_in_items}
use Rattle.file_hints.proofs.rle_watch.Items.after_items.Given as goal

-- the items so far came, and the rest has no `!`
abbrev pub invariant-loop-end : goal.invariant-loop-end
invariant-loop-end l = record {
  short : length l.left ≤ length l.text;
  mark : has_byte 33 l.left ≡ false;
  same : (rest : List ℕ) (lines : List (List ℕ))
      → warning_in_items l.items ((l.left ++ rest) ∷ lines) ≡ warning_in_items l.fn.self ((l.text ++ rest) ∷ lines);
}

abbrev pub decreases-loop-end : goal.decreases-loop-end
decreases-loop-end l = length l.left
