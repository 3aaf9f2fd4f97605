use Rattle.std.proofs.Common.{◌≡◌, ◌≢◌, ℕ, ◌+◌, ◌*◌, List, length, slice_index, ap, sym, ◌∙◌, subst}
use Rattle.std.specs.Int.{bit_at}
use Rattle.life_table.specs.Index.{entry_at}
use Rattle.life_table.proofs.Indexing.{one_bit, one_more_set, one_more_passed}
use Rattle.life_table.specs.declared.block.Block.{Block}
use Rattle.life_table.proofs.block.Block.put_apart.Goals as goal
use Rattle.life_table.proofs.block.Block.put_apart.Goals.{then-is_same, else-is_same}

pub loop-q-preserved : goal.loop-q-preserved
loop-q-preserved c =
    let p = c.args.p in
    let q = c.loop-q.q in
    let k = c.args.k in
    let inputs = c.args.inputs.now in
    let old : List ℕ = c.loop-q.self.apart in
    let Differs : ℕ → Type 0 = λ t. entry_at inputs p ≢ entry_at inputs t in
    elim c.if-is_same.branch [
      | then-is_same w ↦
          let kept : c.if-is_same.self.apart ≡ old = ap (λ (b : Block). b.apart) w.self-is in
          record {
            put = λ t below differ. subst (λ words. bit_at (slice_index words (9 * p + t)) k ≡ 1) (sym kept)
                (one_more_passed old (9 * p) q k Differs (λ differs. differs (c.is_same.ensures.0 w.if-is_same.true)) c.loop-q.invariant.put t below differ);
            stay = λ i b h. subst (λ words. bit_at (slice_index words i) b ≡ 1) (sym kept) (c.loop-q.invariant.stay i b h);
            same = ap (λ (b : Block). b.sets) w.self-is ∙ c.loop-q.invariant.same;
            size = ap length kept ∙ c.loop-q.invariant.size;
            twice = ap (λ (b : Block). length b.twice) w.self-is ∙ w.put.auto.sets ∙ c.loop-q.invariant.twice;
          }
      | else-is_same w ↦
          let new : List ℕ = w.put-else-is_same.new.sets in
          let now : c.if-is_same.self.apart ≡ new = ap (λ (b : Block). b.apart) w.self-is in
          let stays = w.put-else-is_same.ensures.stay in
          record {
            put = λ t below differ. subst (λ words. bit_at (slice_index words (9 * p + t)) k ≡ 1) (sym now)
                (one_more_set old new (9 * p) q k Differs (w.put-else-is_same.ensures.put k (one_bit k c.requires.bit)) stays c.loop-q.invariant.put t below
                differ);
            stay = λ i b h. subst (λ words. bit_at (slice_index words i) b ≡ 1) (sym now) (stays i b (c.loop-q.invariant.stay i b h));
            same = ap (λ (b : Block). b.sets) w.self-is ∙ c.loop-q.invariant.same;
            size = ap length now ∙ w.put-else-is_same.auto.sets ∙ c.loop-q.invariant.size;
            twice = ap (λ (b : Block). length b.twice) w.self-is ∙ c.loop-q.invariant.twice;
          }
    ]
