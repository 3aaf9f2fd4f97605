use Rattle.std.proofs.Common.{◌≡◌, ◌+◌, ◌*◌, sym, subst, slice_index, arith}
use Rattle.std.specs.Int.{bit_at}
use Rattle.life_table.proofs.Indexing.{and_both}
use Rattle.life_table.proofs.block.Block.apart_at.Goals as goal
use Rattle.life_table.proofs.block.Block.apart_at.Goals.{then-image-p, else-image-p}

pub loop-q-preserved : goal.loop-q-preserved
loop-q-preserved c = λ k space h g.
    let before = c.loop-q.invariant k space h (λ q below. g q (omega (arith, below))) in
    elim c.if-image-p.branch [
      | then-image-p w ↦ subst (λ n. bit_at n k ≡ 1) (sym w.rest-is)
          (and_both c.loop-q.rest (slice_index c.args.self.now.apart (9 * c.args.p + c.loop-q.q)) k before (g c.loop-q.q (omega arith) w.if-image-p.true))
      | else-image-p w ↦ subst (λ n. bit_at n k ≡ 1) (sym w.rest-is) before
    ]
