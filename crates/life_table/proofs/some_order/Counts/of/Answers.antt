use Rattle.std.proofs.Common.{◌≡◌, ℕ, ◌+◌, ◌<◌, ◌∷◌, [], List, take, length, length-set, slice_index, ap, sym, ◌∙◌, subst, true, arith, count_by}
use Rattle.life_table.specs.Index.{is_among}
use Rattle.life_table.proofs.SomeOrder.{among_before, among_pushed, counted_more}
use Rattle.life_table.proofs.some_order.Counts.of.Goals as goal
use Rattle.life_table.proofs.some_order.Counts.of.Goals.{then-not-contains, else-not-contains}

pub loop-i-preserved : goal.loop-i-preserved
loop-i-preserved c =
    let others = c.args.others.now in
    let i = c.loop-i.i in
    let y = slice_index others i in
    let count = c.loop-i.count in
    let states = c.loop-i.states in
    let times = c.loop-i.times in
    let before = c.loop-i.invariant in
    elim c.if-not-contains.branch [
      | then-not-contains w ↦
          let place_fits : count < length states = omega (arith, before.few, before.size, c.loop-i-test.true, c.requires) in
          let space : count < length times = omega (arith, place_fits, before.size, before.places) in
          let n = w.count_among.result in
          record {
            few = omega (arith, w.count-is, before.few);
            each = λ s h.
                subst (λ (m : ℕ). is_among (take m c.if-not-contains.states) s ≡ true) (sym w.count-is)
                (subst (λ (xs : List ℕ). is_among (take (count + 1) xs) s ≡ true) (sym w.states-is)
                (among_pushed others states i count c.loop-i-test.true before.each place_fits s h));
            counted = λ j below.
                ap (λ (xs : List ℕ). slice_index xs j) w.times-is
                ∙ counted_more others states times count y n place_fits space w.count_among.ensures before.counted j (omega (arith, below, w.count-is))
                ∙ ap (λ (xs : List ℕ). count_by (is_among (slice_index xs j ∷ [])) others) (sym w.states-is);
            size = ap length w.states-is ∙ length-set states count y ∙ before.size;
            places = ap length w.times-is ∙ length-set times count n ∙ before.places;
          }
      | else-not-contains w ↦
          record {
            few = omega (arith, w.count-is, before.few);
            each = λ s h.
                subst (λ (m : ℕ). is_among (take m c.if-not-contains.states) s ≡ true) (sym w.count-is)
                (subst (λ (xs : List ℕ). is_among (take count xs) s ≡ true) (sym w.states-is)
                (among_before others states i count c.loop-i-test.true before.each (sym c.contains.ensures.value ∙ w.if-not-contains.false) s h));
            counted = λ j below.
                ap (λ (xs : List ℕ). slice_index xs j) w.times-is ∙ before.counted j (omega (arith, below, w.count-is))
                ∙ ap (λ (xs : List ℕ). count_by (is_among (slice_index xs j ∷ [])) others) (sym w.states-is);
            size = ap length w.states-is ∙ before.size;
            places = ap length w.times-is ∙ before.places;
          }
    ]
