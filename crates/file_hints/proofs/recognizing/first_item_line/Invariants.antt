use Rattle.std.proofs.Common.{◌≡◌, length}
use Rattle.life_base.specs.Text.{lines_of}
use Rattle.file_hints.specs.Recognition.{first_item}
use Rattle.file_hints.proofs.recognizing.first_item_line.Given as goal

abbrev pub invariant-loop-line : goal.invariant-loop-line
invariant-loop-line l = first_item (lines_of l.rest) ≡ first_item (lines_of l.head)

abbrev pub decreases-loop-line : goal.decreases-loop-line
decreases-loop-line l = length l.rest
