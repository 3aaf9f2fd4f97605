use Rattle.std.proofs.Common.{◌≡◌, ◌+◌, ◌++◌, ◌∙◌, [], sym, subst, ap, arith, drop, get_or, refl, rules}
use Rattle.life_base.specs.declared.cell.TheConstants.{MAX_LEVEL}
use Rattle.life_rle.specs.declared.cursor.Cursor.{Cursor}
use Rattle.life_rle.specs.declared.item.Item.TheVariants.{Cells}
use Rattle.life_rle.specs.Cursor.{cursor_after_item}
use Rattle.life_rle.specs.Runs.{with_run}
use Rattle.life_rle.specs.ShortItems.{RowHasSpace, ReadsOn}
use Rattle.life_rle.proofs.ShortItems.{low-state, reads-on, reads-short, state-byte, still-space}
use Rattle.life_rle.proofs.short_items.take_two_states.Goals as goal
use Rattle.life_rle.proofs.short_items.take_two_states.Goals.{else-loop-here-test, then-loop-here-test+then-line-last-ne111+then-next-here}

pub loop-here-preserved : goal.loop-here-preserved
loop-here-preserved c =
    let line = c.args.line.now in
    let at = c.loop-here.here.at in
    let middle = c.pass_dead-here.result.at in
    let halfway = c.pass_dead-here.result.cursor in
    let passed = c.pass_dead-here.ensures in
    let item = c.short_item-count.ensures in
    let count = c.short_item-count.result.0 in
    let last = c.short_item-count.result.1 in
    let before = c.loop-here.lent.items in
    let kept = c.loop-here.invariant in
    let end = kept.end in
    let on = c.loop-here-test.true in
    let from = passed.inside.0 in
    let to = passed.inside.1 in
    let low = item.inside.0 in
    let high = item.inside.1 in
    let spare = kept.spare in
    let len = c.push_reserved.ensures.len in
    let capacity = c.push_reserved.ensures.capacity in
    let live : get_or line last 0 ≡ 111 = omega (arith, c.if-line-last-ne111.false) in
    let there : Cursor = cursor_after_item halfway (Cells count 1) in
    let pushed : c.push_reserved.new.self.items ≡ before ++ with_run halfway.y halfway.x (Cells count 1) [] = search rules in
    let moves = c.cursor_after.ensures in
    record {
      on = omega (arith, kept.on, from, low);
      inside = omega (arith, end, on, to, high);
      end = end;
      row = ap (λ (next : Cursor). next.y) moves ∙ passed.row ∙ kept.row;
      space = subst (RowHasSpace MAX_LEVEL line (last + 1)) (sym moves)
          (still-space line middle count 1 (last + 1) halfway passed.space item.few (omega (arith, low))
          (omega (arith, end, on, to, high)));
      spare = omega (arith, spare, len, capacity, on, from, low);
      read = λ rule. subst (λ (next : Cursor). ReadsOn MAX_LEVEL rule line c.args.from.at c.args.from.cursor c.args.runs.now.items (last + 1) next
          c.push_reserved.new.self.items) (sym moves) (reads-on rule line c.args.from.at at (last + 1) c.args.from.cursor c.loop-here.here.cursor there
          c.args.runs.now.items before c.push_reserved.new.self.items (kept.read rule)
          (reads-on rule line at middle (last + 1) c.loop-here.here.cursor halfway there before before c.push_reserved.new.self.items
          (passed.read rule before)
          (reads-short line middle count 1 (last + 1) halfway before c.push_reserved.new.self.items passed.space item.few (omega (arith, low))
          (omega (arith, end, on, to, high)) (item.spelled 1 (drop (last + 1) line) (state-byte line last 111 1 (omega (arith, end, on, to, high)) live refl))
          pushed rule (low-state rule 1 (omega arith)))));
    }

pub returns-clause-near : goal.returns-clause-near
returns-clause-near c = elim c.loop-here-test.branch [
  | else-loop-here-test w ↦ rw w.here-is c.loop-here.invariant.space.near
  | then-loop-here-test+then-line-last-ne111+then-next-here w ↦ rw w.here-is w.pass_dead-here.ensures.space.near
]

pub returns-clause-read : goal.returns-clause-read
returns-clause-read c rule = elim c.loop-here-test.branch [
  | else-loop-here-test w ↦ rw w.here-is (c.loop-here.invariant.read rule)
  | then-loop-here-test+then-line-last-ne111+then-next-here w ↦ rw w.here-is
      (reads-on rule c.args.line.now c.args.from.at c.loop-here.here.at w.pass_dead-here.result.at c.args.from.cursor c.loop-here.here.cursor
      w.pass_dead-here.result.cursor c.args.runs.now.items c.loop-here.lent.items c.loop-here.lent.items (c.loop-here.invariant.read rule)
      (w.pass_dead-here.ensures.read rule c.loop-here.lent.items))
]
