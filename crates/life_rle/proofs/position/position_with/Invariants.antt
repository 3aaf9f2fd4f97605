use Rattle.std.proofs.Common.{◌≡◌, length}
use Rattle.life_base.specs.declared.cell.TheConstants.{MAX_LEVEL}
use Rattle.life_base.specs.Text.{words_of}
use Rattle.life_rle.specs.Position.{position_with}
use Rattle.life_rle.proofs.position.position_with.Given as goal

-- what is left gives the position
abbrev pub invariant-loop-field : goal.invariant-loop-field
invariant-loop-field l = position_with MAX_LEVEL l.position (words_of l.rest) ≡ position_with MAX_LEVEL l.fn.position (words_of l.text)

abbrev pub decreases-loop-field : goal.decreases-loop-field
decreases-loop-field l = length l.rest
