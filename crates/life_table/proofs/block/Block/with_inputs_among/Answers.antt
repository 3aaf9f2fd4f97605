use Rattle.std.proofs.Common.{◌≡◌, ◌+◌, ◌-◌, ◌*◌, ◌<◌, ◌≤◌, ◌∷◌, [], length, slice_index, ap, sym, ◌∙◌, subst, refl, inl, inr, arith, count_by, take_all}
use Rattle.std.specs.Int.{bit_at}
use Rattle.std.proofs.lemmas.Nat.Bits.{bit_at_ones}
use Rattle.life_table.specs.Index.{is_among}
use Rattle.life_table.proofs.SomeOrder.{is_among_at, counts_more}
use Rattle.life_table.proofs.block.Block.with_inputs_among.Goals as goal

pub loop-p-init : goal.loop-p-init
loop-p-init c = record {
  reached = λ k i v space size may few none.
      let zero : i ≡ 0 = omega (arith, none) in
      ap (λ n. bit_at (slice_index (18446744073709551615 ∷ 0 ∷ 0 ∷ 0 ∷ 0 ∷ 0 ∷ 0 ∷ 0 ∷ 0 ∷ []) n) k) zero ∙ bit_at_ones 64 k space;
  size = refl;
}

pub loop-p-preserved : goal.loop-p-preserved
loop-p-preserved c =
    let p = c.loop-p.p in
    let states = c.args.states.now in
    let sets = c.args.self.now.sets in
    let set = c.with_input_among-set.result in
    record {
      reached = λ k i v space size may few count.
          let inside : p < length v = omega (arith, size, c.loop-p-test.true) in
          elim (counts_more (is_among states) v p i inside count) [
            | inl before ↦ c.count_set.ensures.stay i k (c.loop-p.invariant.reached k i v space size may few before)
            | inr more ↦
                let at = is_among_at states (slice_index v p) more.2 in
                let there : bit_at set k ≡ 1 = c.with_input_among-set.ensures k at.0 at.1 (λ small.
                subst (λ s. bit_at (slice_index sets (256 * (p + 1) + s)) k ≡ 1) (sym at.2) (may p inside (subst (λ s. s < 256) at.2 small))) in
                let back : i - 1 + 1 ≡ i = omega (arith, more.0) in
                subst (λ n. bit_at (slice_index c.count_set.new.reached n) k ≡ 1) back
                (c.count_set.ensures.more k (i - 1) (omega (arith, few, more.0))
                (c.loop-p.invariant.reached k (i - 1) v space size may (omega (arith, few)) more.1) there)
          ];
      size = omega (arith, c.count_set.array_long);
    }

pub returns : goal.returns
returns c = λ k v space size may few.
    c.loop-p.invariant.reached k c.args.times v space size may (omega arith)
    (subst (λ w. c.args.times ≤ count_by (is_among c.args.states.now) w) (sym (take_all c.loop-p.p v (omega (arith, size, c.loop-p-test.false)))) few)
