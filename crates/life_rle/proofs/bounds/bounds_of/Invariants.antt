use Rattle.std.proofs.Common.{◌≡◌, drop}
use Rattle.life_rle.specs.Written.{box_of}
use Rattle.life_rle.proofs.BoxOnto.{bounds_onto}
use Rattle.life_rle.proofs.bounds.bounds_of.Given as goal

-- the box of all cells is the least around the box so far and what is left
abbrev pub invariant-loop-cell : goal.invariant-loop-cell
invariant-loop-cell l = bounds_onto l.bounds (drop l.cell-index l.cells) ≡ box_of l.first l.cells
