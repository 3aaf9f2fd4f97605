use Rattle.std.proofs.Common.{◌≡◌, ◌≤◌, ◌+◌, ◌-◌, true, length}
use Rattle.std.specs.Vec.{vec_len, vec_capacity}
use Rattle.life_base.specs.declared.cell.TheConstants.{MAX_LEVEL}
use Rattle.life_base.specs.declared.rule.Rule.{Rule}
use Rattle.life_rle.specs.ShortItems.{RowHasSpace, ReadsOn}
use Rattle.life_rle.specs.States.{is_state_of}
use Rattle.life_rle.proofs.short_items.take_many_states.Given as goal

-- the items before the place were read, and at each byte up to the end there is capacity for a run
abbrev pub invariant-loop-here : goal.invariant-loop-here
invariant-loop-here l = record {
  on : l.fn.from.at ≤ l.here.at;
  inside : l.here.at ≤ length l.line;
  end : l.end ≤ length l.line - 2;
  row : l.here.cursor.y ≡ l.fn.from.cursor.y;
  space : RowHasSpace MAX_LEVEL l.line l.here.at l.here.cursor;
  spare : vec_len l.lent + (l.end - l.here.at) ≤ vec_capacity l.lent;
  read : (rule : Rule) → is_state_of rule 255 ≡ true
      → ReadsOn MAX_LEVEL rule l.line l.fn.from.at l.fn.from.cursor l.fn.runs.items l.here.at l.here.cursor l.lent.items;
}

abbrev pub decreases-loop-here : goal.decreases-loop-here
decreases-loop-here l = l.end - l.here.at
