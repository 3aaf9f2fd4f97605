use Rattle.std.proofs.Common.{◌-◌, length, get_or, cond, arith}
use Rattle.std.proofs.lemmas.Nat.Bits.{bit_at_ones}
use Rattle.life_table.specs.declared.table.Entry.TheVariants as entries
use Rattle.life_table.proofs.Seeing.{turn_stays}
use Rattle.life_table.proofs.fit.turns_that_may_fit.Goals as goal

pub loop-i-init : goal.loop-i-init
loop-i-init c = λ r below h. bit_at_ones 8 r below

pub returns-then-fits-eq0 : goal.returns-then-fits-eq0
returns-then-fits-eq0 c = λ r below h.
    let i = c.loop-i.i in
    turn_stays c.args.seen.now (get_or c.args.inputs.now i (entries.Fixed 0)) c.loop-i.fits c.places.result c.place_before-first.result
    (cond c.args.reflect (length c.args.inputs.now - i) i) r
    c.places.ensures c.place_before-first.ensures (c.loop-i.invariant r below (λ j before. h j (omega (arith, before, c.loop-i-test.true))))
    (h i c.loop-i-test.true)

pub loop-i-preserved : goal.loop-i-preserved
loop-i-preserved c = λ r below h.
    let i = c.loop-i.i in
    turn_stays c.args.seen.now (get_or c.args.inputs.now i (entries.Fixed 0)) c.loop-i.fits c.places.result c.place_before-first.result
    (cond c.args.reflect (length c.args.inputs.now - i) i) r
    c.places.ensures c.place_before-first.ensures (c.loop-i.invariant r below (λ j before. h j (omega (arith, before)))) (h i (omega arith))
