use Rattle.std.proofs.Common.{◌≡◌, ◌≤◌, ◌+◌, ◌++◌, [], sym, subst, ap, arith, ◌∙◌, refl, rules}
use Rattle.std.specs.Vec.{vec_len, vec_capacity}
use Rattle.life_base.specs.declared.cell.TheConstants.{MAX_LEVEL}
use Rattle.life_rle.specs.declared.cursor.Cursor.{Cursor}
use Rattle.life_rle.specs.declared.item.Item.TheVariants.{Cells}
use Rattle.life_rle.specs.Cursor.{cursor_after_item}
use Rattle.life_rle.specs.Runs.{with_run}
use Rattle.life_rle.specs.ShortItems.{RowHasSpace, ReadsOn}
use Rattle.life_rle.proofs.ShortItems.{any-state, reads-on, reads-short, still-space}
use Rattle.life_rle.proofs.short_items.take_many_states.Goals as goal
use Rattle.life_rle.proofs.short_items.take_many_states.Goals.{then-state-ne0, else-state-ne0}

pub loop-here-preserved : goal.loop-here-preserved
loop-here-preserved c =
    let line = c.args.line.now in
    let at = c.loop-here.here.at in
    let here = c.loop-here.here.cursor in
    let count = c.in-Some.count in
    let state = c.in-Some.state in
    let after = c.in-Some.after in
    let found = c.in-Some.ensures in
    let before = c.loop-here.lent.items in
    let kept = c.loop-here.invariant in
    let end = kept.end in
    let on = c.loop-here-test.true in
    let from = found.inside.0 in
    let to = found.inside.1 in
    let spare = kept.spare in
    let there : Cursor = cursor_after_item here (Cells count state) in
    let moves = c.cursor_after.ensures in
    let pushed : (c.if-state-ne0.lent.items ≡ before ++ with_run here.y here.x (Cells count state) [])
    × (vec_len c.if-state-ne0.lent ≤ vec_len c.loop-here.lent + 1) × (vec_capacity c.if-state-ne0.lent ≡ vec_capacity c.loop-here.lent) =
    elim c.if-state-ne0.branch [
      | then-state-ne0 w ↦ rw w.lent-is (search rules, omega (arith, w.push_reserved.ensures.len), w.push_reserved.ensures.capacity)
      | else-state-ne0 w ↦ rw w.lent-is (search rules, omega arith, refl)
    ] in
    let len = pushed.1 in
    let capacity = pushed.2 in
    record {
      on = omega (arith, kept.on, from);
      inside = omega (arith, end, on, to);
      end = end;
      row = ap (λ (next : Cursor). next.y) moves ∙ kept.row;
      space = subst (RowHasSpace MAX_LEVEL line after) (sym moves)
          (still-space line at count state after here kept.space found.few (omega (arith, from)) (omega (arith, end, on, to)));
      spare = omega (arith, spare, len, capacity, on, from);
      read = λ rule many. subst (λ (next : Cursor). ReadsOn MAX_LEVEL rule line c.args.from.at c.args.from.cursor c.args.runs.now.items after next
          c.if-state-ne0.lent.items) (sym moves) (reads-on rule line c.args.from.at at after c.args.from.cursor here there
          c.args.runs.now.items before c.if-state-ne0.lent.items (kept.read rule many)
          (reads-short line at count state after here before c.if-state-ne0.lent.items kept.space found.few (omega (arith, from))
          (omega (arith, end, on, to)) found.read pushed.0 rule (any-state rule state many found.small)));
    }
