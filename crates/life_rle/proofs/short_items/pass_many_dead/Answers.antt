use Rattle.std.proofs.Common.{◌≡◌, ◌≤◌, ◌+◌, ◌*◌, ◌-◌, sym, subst, arith, get_or, pos, ◌+ℤ◌, ◌≤ℤ◌}
use Rattle.std.proofs.lemmas.Int.{ints}
use Rattle.life_base.specs.declared.cell.TheConstants.{MAX_LEVEL}
use Rattle.life_rle.specs.declared.cursor.Cursor.{Cursor}
use Rattle.life_rle.specs.ShortItems.{RowHasSpace, ReadsOn}
use Rattle.life_rle.proofs.ShortItems.{many-space, reads-many-dead}
use Rattle.life_rle.proofs.short_items.pass_many_dead.Goals as goal

pub returns-clause-space : goal.returns-clause-space
returns-clause-space c =
    let line = c.args.line.now in
    let at = c.args.here.at in
    let here = c.args.here.cursor in
    let count = 10 * c.from.result + c.from-2.result in
    let few : count ≤ 99 = omega (arith, c.from.ensures, c.from-2.ensures, c.if-tens-gt57.false, c.if-ones-gt57.false) in
    let inside : (here.x +ℤ pos 9437283) ≤ℤ c.args.limit = omega (arith, ints, c.if-here-limit.false) in
    let far = subst (λ limit. (here.x +ℤ pos 9437283) ≤ℤ limit) c.requires.limit inside in
    subst (λ (there : Cursor). RowHasSpace MAX_LEVEL line (at + 3) there) (sym c.cursor_after.ensures)
    (many-space line at count (at + 3) here c.requires.space few c.requires.line far)

pub returns-clause-read : goal.returns-clause-read
returns-clause-read c rule found =
    let line = c.args.line.now in
    let at = c.args.here.at in
    let here = c.args.here.cursor in
    let count = 10 * c.from.result + c.from-2.result in
    let value : count ≡ 10 * (get_or line at 0 - 48) + (get_or line (at + 1) 0 - 48) = omega (arith, c.from.ensures, c.from-2.ensures) in
    let dead : get_or line (at + 2) 0 ≡ 98 = omega (arith, c.if-line-here-ne98.false) in
    let inside : (here.x +ℤ pos 9437283) ≤ℤ c.args.limit = omega (arith, ints, c.if-here-limit.false) in
    let far = subst (λ limit. (here.x +ℤ pos 9437283) ≤ℤ limit) c.requires.limit inside in
    subst (λ (there : Cursor). ReadsOn MAX_LEVEL rule line at here found (at + 3) there found) (sym c.cursor_after.ensures)
    (reads-many-dead line at count here c.requires.inside c.requires.space c.requires.line far (omega (arith, c.if-tens-lt49.false))
    (omega (arith, c.if-tens-gt57.false)) (omega (arith, c.if-ones-lt48.false)) (omega (arith, c.if-ones-gt57.false)) dead value rule found)
