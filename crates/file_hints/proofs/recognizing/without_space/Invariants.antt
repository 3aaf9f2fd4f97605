use Rattle.std.proofs.Common.{◌≡◌, length}
use Rattle.file_hints.specs.Recognition.{without_space}
use Rattle.file_hints.proofs.recognizing.without_space.Given as goal

abbrev pub invariant-loop-rest : goal.invariant-loop-rest
invariant-loop-rest l = without_space l.rest ≡ without_space l.text

abbrev pub decreases-loop-rest : goal.decreases-loop-rest
decreases-loop-rest l = length l.rest
