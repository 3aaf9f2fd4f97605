use Rattle.std.proofs.Common.{◌≡◌, drop}
use Rattle.life_base.specs.declared.cell.TheConstants.{MAX_LEVEL}
use Rattle.life_rle.specs.Sorted.{are_sorted_cells}
use Rattle.life_rle.proofs.sorted.sorted_cells.Given as goal

-- what is left decides
abbrev pub invariant-loop-i : goal.invariant-loop-i
invariant-loop-i l = are_sorted_cells MAX_LEVEL l.rule (drop l.i l.cells) ≡ are_sorted_cells MAX_LEVEL l.rule l.cells
