use Rattle.std.proofs.Common.{◌≡◌, ◌+◌, refl, sym, subst, arith, append-nil, drop, get_or}
use Rattle.life_base.specs.declared.cell.TheConstants.{MAX_LEVEL}
use Rattle.life_rle.specs.declared.cursor.Cursor.{Cursor}
use Rattle.life_rle.specs.ShortItems.{PassesDead}
use Rattle.life_rle.proofs.ShortItems.{low-state, reads-short, state-byte, still-space}
use Rattle.life_rle.proofs.short_items.pass_dead.Goals as goal

pub returns-then-line-last-ne98 : goal.returns-then-line-last-ne98
returns-then-line-last-ne98 c = record { inside = (omega arith, omega arith); row = refl; space = c.requires.space; read = λ rule found from before read. read }

pub returns : goal.returns
returns c =
    let line = c.args.line.now in
    let at = c.args.here.at in
    let here = c.args.here.cursor in
    let item = c.short_item-count.ensures in
    let count = c.short_item-count.result.0 in
    let last = c.short_item-count.result.1 in
    let low = item.inside.0 in
    let high = item.inside.1 in
    let dead : get_or line last 0 ≡ 98 = omega (arith, c.if-line-last-ne98.false) in
    subst (λ (there : Cursor). PassesDead MAX_LEVEL line at here (last + 1) there) (sym c.cursor_after.ensures) (record {
      inside = (omega (arith, low), omega (arith, high));
      row = refl;
      space = still-space line at count 0 (last + 1) here c.requires.space item.few (omega (arith, low)) (omega (arith, high, c.requires.inside));
      read = λ rule found. reads-short line at count 0 (last + 1) here found found c.requires.space item.few (omega (arith, low))
          (omega (arith, high, c.requires.inside)) (item.spelled 0 (drop (last + 1) line)
          (state-byte line last 98 0 (omega (arith, high, c.requires.inside)) dead refl))
          (sym (append-nil found)) rule (low-state rule 0 (omega arith));
    })
