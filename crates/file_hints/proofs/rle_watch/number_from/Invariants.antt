use Rattle.std.proofs.Common.{◌≡◌, length}
use Rattle.file_hints.specs.Damage.{number_from}
use Rattle.file_hints.proofs.rle_watch.number_from.Given as goal

abbrev pub invariant-loop-left : goal.invariant-loop-left
invariant-loop-left l = number_from l.number l.left ≡ number_from l.initial.number l.text

abbrev pub decreases-loop-left : goal.decreases-loop-left
decreases-loop-left l = length l.left
