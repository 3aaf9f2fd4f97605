use Rattle.std.proofs.Common.{◌≡◌, ◌*◌, cond, Bool, ap, sym, ◌∙◌, arith}
use Rattle.life_table.proofs.Indexing.{family_stored}
use Rattle.life_table.proofs.image_list.Images.new.Goals as goal
use Rattle.life_table.proofs.image_list.Images.new.Goals.{then-ways, else-ways}

pub returns-clause-each : goal.returns-clause-each
returns-clause-each c =
    let ways = c.args.ways in
    let count_is : c.if-ways.count ≡ cond ways.reflect (2 * ways.count) ways.count = elim c.if-ways.branch [
      | then-ways w ↦ w.count-is ∙ ap (λ (b : Bool). cond b (2 * ways.count) ways.count) (sym w.if-ways.true)
      | else-ways w ↦ w.count-is ∙ ap (λ (b : Bool). cond b (2 * ways.count) ways.count) (sym w.if-ways.false)
    ] in
    family_stored ways c.args.cells.now c.loop-j.images c.if-ways.count c.requires.turns
    (λ i below. c.loop-j.invariant.are i (omega (arith, below, c.loop-j-test.false))) ways.reflect count_is
