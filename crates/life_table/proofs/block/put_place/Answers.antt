use Rattle.std.proofs.Common.{◌≡◌, ℕ, ◌+◌, ◌*◌, ◌<◌, length, get_or, slice_index, ap, sym, ◌∙◌, subst, inl, inr, arith, true}
use Rattle.std.specs.Int.{bit_at}
use Rattle.std.proofs.lemmas.Bool.Decides.{eqb_tells}
use Rattle.life_table.specs.Index.{entry_at}
use Rattle.life_table.specs.Taking.{can_be_state}
use Rattle.life_table.proofs.Indexing.{or_cases, bit_there}
use Rattle.life_table.proofs.Seeing.{or_left, or_right}
use Rattle.life_table.specs.declared.table.Entry.{Entry}
use Rattle.life_table.specs.declared.table.Transition.{Transition}
use Rattle.life_table.proofs.block.put_place.Goals as goal
use Rattle.life_table.proofs.block.put_place.Goals.{then-done-k-eq0, else-done-k-eq0}

pub loop-k-preserved : goal.loop-k-preserved
loop-k-preserved c =
    let i = c.loop-k.k in
    let p = c.args.p in
    let vars = c.args.vars.now in
    let lines = c.args.lines.now in
    let done = c.loop-k.done in
    let inside : i < length lines = c.loop-k-test.true in
    elim c.if-done-k-eq0.branch [
      | then-done-k-eq0 w ↦
          let same = w.lines_with-same.result in
          let all_bits = λ (k : ℕ) (h : bit_at c.if-done-k-eq0.done k ≡ 1). or_cases done same k (subst (λ n. bit_at n k ≡ 1) w.done-is h) in
          let read = ap (λ es. entry_at es p) (sym w.as_slice.ensures) in
          record {
            put = λ k d h below s small may. subst (λ sets. bit_at (slice_index sets (256 * p + s)) k ≡ 1) (sym w.sets-is)
                (elim (all_bits k h) [
                  | inl old ↦ w.put_entry.ensures.stay (256 * p + s) k (c.loop-k.invariant.put k d old below s small may)
                  | inr new ↦ w.put_entry.ensures.put k new s small
                      (subst (λ (e : Entry). can_be_state vars e s ≡ true) (w.lines_with-same.ensures.only k d new below) may)
                ]);
            past = λ k below. subst (λ n. bit_at n k ≡ 1) (sym w.done-is) (elim (eqb_tells k i) [
              | inl here ↦ or_right done same k
                  (w.lines_with-same.ensures.all k c.index-lines-k.result (omega (arith, here.1, inside))
                  (ap (λ j. entry_at (get_or lines j c.index-lines-k.result).inputs p) here.1
                  ∙ ap (λ (l : Transition). entry_at l.inputs p) (sym c.index-lines-k.is) ∙ read))
              | inr other ↦ or_left done same k (c.loop-k.invariant.past k (omega (arith, below, other.1)))
            ]);
            stay = λ j k h. subst (λ sets. bit_at (slice_index sets j) k ≡ 1) (sym w.sets-is) (w.put_entry.ensures.stay j k (c.loop-k.invariant.stay j k h));
          }
      | else-done-k-eq0 w ↦ record {
        put = λ k d h below s small may. subst (λ sets. bit_at (slice_index sets (256 * p + s)) k ≡ 1) (sym w.sets-is)
            (c.loop-k.invariant.put k d (subst (λ n. bit_at n k ≡ 1) w.done-is h) below s small may);
        past = λ k below. subst (λ n. bit_at n k ≡ 1) (sym w.done-is) (elim (eqb_tells k i) [
          | inl here ↦ ap (bit_at done) here.1 ∙ bit_there done i w.if-done-k-eq0.false
          | inr other ↦ c.loop-k.invariant.past k (omega (arith, below, other.1))
        ]);
        stay = λ j k h. subst (λ sets. bit_at (slice_index sets j) k ≡ 1) (sym w.sets-is) (c.loop-k.invariant.stay j k h);
      }
    ]
