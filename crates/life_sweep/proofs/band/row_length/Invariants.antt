use Rattle.std.proofs.Common.{◌≡◌, take, All}
use Rattle.life_base.specs.declared.cell.Cell.{Cell}
use Rattle.life_sweep.proofs.band.row_length.Given as goal

-- the cells so far are in the row
abbrev pub invariant-loop-i : goal.invariant-loop-i
invariant-loop-i l = All (λ (cell : Cell). cell.y ≡ l.y) (take l.i l.cells)
