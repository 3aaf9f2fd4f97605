use Rattle.std.proofs.Common.{drop}
use Rattle.life_rle.specs.Writer.{pen_text}
use Rattle.life_rle.proofs.TakeCells.{WritesUpTo}
use Rattle.life_rle.proofs.pen.Pen.finish.Given as goal

-- what was written and what the pen has still to write are the whole text
abbrev pub invariant-loop-cell : goal.invariant-loop-cell
invariant-loop-cell l =
    WritesUpTo l.rule (pen_text l.rule l.fn.self l.cells) (record { lines = l.lines; left = l.left; run = l.run }) (drop l.cell-index l.cells)
