use Rattle.std.proofs.Common.{◌≡◌, true, false, sym, arith, rules, pos, ◌+ℤ◌, int_le}
use Rattle.std.proofs.lemmas.Int.{ints}
use Rattle.life_rle.specs.States.{is_state_of}
use Rattle.life_rle.proofs.RowLimits.{fault-by}
use Rattle.life_rle.proofs.cursor.cells_fault.Goals as goal

pub returns-then-inside : goal.returns-then-inside
returns-then-inside c =
    let inside : int_le (c.args.cursor.x +ℤ pos c.args.count) c.args.limit ≡ true = grind (arith, ints, c.if-inside.true) in
    let known : is_state_of c.args.rule.now c.args.state ≡ true = search rules in
    sym (fault-by _ c.args.cursor.y _ _ _ c.requires.near.x.0 c.requires.limit known true inside)

pub returns-else-inside : goal.returns-else-inside
returns-else-inside c =
    let beyond : int_le (c.args.cursor.x +ℤ pos c.args.count) c.args.limit ≡ false = grind (arith, ints, c.if-inside.false) in
    let known : is_state_of c.args.rule.now c.args.state ≡ true = search rules in
    sym (fault-by _ c.args.cursor.y _ _ _ c.requires.near.x.0 c.requires.limit known false beyond)
