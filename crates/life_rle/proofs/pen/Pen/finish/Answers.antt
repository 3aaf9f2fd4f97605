use Rattle.std.proofs.Common.{◌+◌, ◌∷◌, [], ◌∙◌, ap, sym, subst, drop, get_or, ℤ, pos, ◌+ℤ◌, w64, to_z, of_z}
use Rattle.std.proofs.lemmas.List.{at_drop_more, at_drop_all}
use Rattle.std.proofs.lemmas.Result.{IfOk-weaker}
use Rattle.life_base.specs.declared.cell.Cell.{Cell}
use Rattle.life_rle.specs.declared.item.Item.{Item}
use Rattle.life_rle.specs.declared.pen.Pen.{Pen}
use Rattle.life_rle.specs.Writer.{pen_text, column_after_run, Follow, PutsItems}
use Rattle.life_rle.proofs.TakeCells.{WritesUpTo}
use Rattle.life_rle.proofs.pen.Pen.finish.Goals as goal

pub take-requires-clause-ahead : goal.take-requires-clause-ahead
take-requires-clause-ahead c =
    let run = c.loop-cell.run in
    let left = to_z w64 (of_z w64 c.args.self.left) in
    (subst (Follow c.args.rule.now left (column_after_run run) run.y) (at_drop_more (λ xs. xs) c.args.cells.now c.loop-cell.cell-index _ c.loop-cell-test.true)
    c.loop-cell.invariant.follow).1

pub loop-cell-preserved : goal.loop-cell-preserved
loop-cell-preserved c =
    let rule = c.args.rule.now in
    let cells = c.args.cells.now in
    let i = c.loop-cell.cell-index in
    let run = c.loop-cell.run in
    let next = c.in_ok-run.run' in
    let cell : Cell = get_or cells i (record { x = pos 0; y = pos 0; state = 0 }) in
    let left = to_z w64 (of_z w64 c.args.self.left) in
    let pen : Pen = record { lines = c.loop-cell.lines; left = left; run = run } in
    let rest = drop (i + 1) cells in
    let step = at_drop_more (λ xs. xs) cells i _ c.loop-cell-test.true in
    let follow = subst (Follow rule left (column_after_run run) run.y) step c.loop-cell.invariant.follow in
    let consumed = c.in_ok-run.ensures.cell in
    record {
      sound = consumed.sound;
      follow =
          subst (λ (x : ℤ). Follow rule left x next.y rest) (sym consumed.place.1)
          (subst (λ (y : ℤ). Follow rule left (cell.x +ℤ pos 1) y rest) (sym consumed.place.2) follow.2);
      text = consumed.text rest ∙ ap (pen_text rule pen) (sym step) ∙ c.loop-cell.invariant.text;
    }

pub returns-clause-text : goal.returns-clause-text
returns-clause-text c =
    let rule = c.args.rule.now in
    let cells = c.args.cells.now in
    let pen : Pen = record { lines = c.loop-cell.lines; left = to_z w64 (of_z w64 c.args.self.left); run = c.loop-cell.run } in
    let done = subst (WritesUpTo rule (pen_text rule c.args.self cells) pen) (at_drop_all (λ xs. xs) cells c.loop-cell.cell-index c.loop-cell-test.false)
    c.loop-cell.invariant in
    let last = subst (λ (item : Item). PutsItems rule pen.lines (item ∷ []) c.put_item.new.self) c.item_of.ensures c.in_ok-put_item.ensures.item in
    IfOk-weaker c.finish.result _ _ (λ text e. e ∙ last.text [] ∙ done.text) (c.finish.ensures.text rule)
