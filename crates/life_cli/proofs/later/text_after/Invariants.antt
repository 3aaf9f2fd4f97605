use Rattle.std.proofs.Common.{◌-◌, ◌≤◌, ℕ, List}
use Rattle.life_base.specs.declared.cell.TheConstants.{MAX_LEVEL}
use Rattle.life_writer.specs.Texts.{IsCanonical}
use Rattle.life_cli.specs.Jobs.{IsSteppedTimes}
use Rattle.life_cli.proofs.later.text_after.Given as goal

abbrev pub invariant-loop-made : goal.invariant-loop-made
invariant-loop-made l = record {
  within : l.made ≤ l.fn.generations;
  stepped : (file : List ℕ) → IsCanonical MAX_LEVEL file l.fn.text.items → IsSteppedTimes l.fn.table l.made file l.now.items;
}

abbrev pub decreases-loop-made : goal.decreases-loop-made
decreases-loop-made l = l.fn.generations - l.made
