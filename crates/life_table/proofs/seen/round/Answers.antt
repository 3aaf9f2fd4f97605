use Rattle.std.proofs.Common.{ℕ, ◌%◌, length, slice_index, refl, ◌∙◌, arith, length-set}
use Rattle.life_table.proofs.Seeing.{put_more}
use Rattle.life_table.proofs.seen.round.Goals as goal

pub loop-k-preserved : goal.loop-k-preserved
loop-k-preserved c =
    let k : ℕ = c.loop-k.k in
    let there = λ (j : ℕ). slice_index c.args.others.now (j % length c.args.others.now) in
    record {
      each = put_more there c.loop-k.around k (there k) (omega (arith, c.loop-k-test.true, c.loop-k.invariant.size)) refl c.loop-k.invariant.each;
      size = length-set c.loop-k.around k (there k) ∙ c.loop-k.invariant.size;
    }
