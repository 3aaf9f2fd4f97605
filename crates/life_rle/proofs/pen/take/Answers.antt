use Rattle.std.proofs.Common.{sym, ◌∙◌, subst, to_z-of_z}
use Rattle.life_base.specs.declared.cell.Run.{Run}
use Rattle.life_rle.specs.declared.pen.Pen.{Pen}
use Rattle.life_rle.specs.Writer.{WritesCell}
use Rattle.life_rle.proofs.TakeCells.{take-longer, take-ended}
use Rattle.life_rle.proofs.pen.take.Goals as goal

pub returns-then-joins-clause-cell : goal.returns-then-joins-clause-cell
returns-then-joins-clause-cell c =
    let pen : Pen = record { lines = c.args.lines.now; left = c.args.left; run = c.args.run } in
    subst (λ (run : Run). WritesCell c.args.rule.now pen c.args.cell.now (record { lines = pen.lines; left = pen.left; run = run })) (sym c.longer.ensures)
    (take-longer c.args.rule.now pen c.args.cell.now c.requires.pen c.requires.cell (sym c.joins.ensures ∙ c.if-joins.true))

pub returns-clause-cell : goal.returns-clause-cell
returns-clause-cell c =
    let rule = c.args.rule.now in
    let pen : Pen = record { lines = c.args.lines.now; left = c.args.left; run = c.args.run } in
    let cell = c.args.cell.now in
    let lines = c.put_run_and_way.new.lines in
    let ended = take-ended rule pen cell lines c.requires.pen c.requires.cell c.requires.ahead (sym c.joins.ensures ∙ c.if-joins.false)
    (simp (to_z-of_z, c.ranges.left) at c.in_ok-put_run_and_way.ensures.way) in
    subst (λ (run : Run). WritesCell rule pen cell (record { lines = lines; left = pen.left; run = run })) (sym c.run_of.ensures) ended
