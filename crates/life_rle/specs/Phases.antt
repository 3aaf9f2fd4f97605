-- Whether a reader of lines is among the items, and where a line of items brings it.
use Rattle.std.specs.Prelude.{Bool, true, false}
use Rattle.life_base.specs.declared.rule.Rule.{Rule}
use Rattle.life_rle.specs.declared.position.Position.{Position}
use Rattle.life_rle.specs.declared.lines.Phase.{Phase}
use Rattle.life_rle.specs.declared.lines.Phase.TheVariants as phases

abbrev pub is_items : Phase → Bool
is_items (phases.Items rule position) = true
is_items _ = false

-- the phase after a line of items, by whether it holds the mark
abbrev pub phase_after : Rule → Position → Bool → Phase
phase_after rule position true = phases.Over rule position
phase_after rule position false = phases.Items rule position
