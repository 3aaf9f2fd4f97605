use Rattle.std.proofs.Common.{◌≡◌, ◌≤◌, ◌+◌, ◌*◌, ◌++◌, take, drop, flat_map}
use Rattle.life_mc.specs.Writing.{row_text}
use Rattle.life_mc.proofs.line_writing.write_leaf.Given as goal

abbrev pub invariant-loop-row : goal.invariant-loop-row
invariant-loop-row l = record {
  within : l.end ≤ l.at + 9 * l.row-index;
  behind : drop (l.at + 105) l.text ≡ drop (l.at + 105) l.fn.text;
  written : take l.end l.text ≡ take l.at l.fn.text ++ flat_map row_text (take l.row-index l.rows);
}
