use Rattle.std.proofs.Common.{◌≡◌, ◌+◌, ◌-◌, ◌<◌, length, set, length-set, slice_index, ap, ◌∙◌, subst, inl, inr, arith, bit_and, bit_or, get_or-set_other}
use Rattle.std.specs.Int.{bit_at}
use Rattle.std.proofs.lemmas.Bool.Decides.{eqb_tells}
use Rattle.life_table.proofs.Indexing.{bits_put, bits_stay, and_both}
use Rattle.life_table.proofs.some_order.count_set.Goals as goal

pub loop-c-preserved : goal.loop-c-preserved
loop-c-preserved c =
    let old = c.args.reached.now in
    let reached = c.loop-c.reached in
    let j = c.loop-c.c - 1 in
    let more = c.args.set in
    let x = bit_and (slice_index reached j) more in
    let inside : j + 1 < length reached = omega (arith, c.loop-c.invariant.size, c.loop-c.auto.c, c.loop-c-test.true, c.requires) in
    record {
      stay = λ i k h. bits_stay reached (j + 1) x inside i k (c.loop-c.invariant.stay i k h);
      same = λ i below. get_or-set_other reached (j + 1) i (bit_or (slice_index reached (j + 1)) x) 0 (λ e. omega (arith, e, below))
          ∙ c.loop-c.invariant.same i (omega (arith, below));
      done = λ k i here high h g. elim (eqb_tells i j) [
        | inl same ↦
            ap (λ n. bit_at (slice_index (set reached (j + 1) (bit_or (slice_index reached (j + 1)) x)) (n + 1)) k) same.1
            ∙ bits_put reached (j + 1) x k inside
            (and_both (slice_index reached j) more k
            (ap (λ n. bit_at n k) (c.loop-c.invariant.same j (omega arith)) ∙ subst (λ n. bit_at (slice_index old n) k ≡ 1) same.1 h) g)
        | inr other ↦ bits_stay reached (j + 1) x inside (i + 1) k
            (c.loop-c.invariant.done k i (omega (arith, here, other.1)) high h g)
      ];
      size = length-set reached (j + 1) (bit_or (slice_index reached (j + 1)) x) ∙ c.loop-c.invariant.size;
    }
