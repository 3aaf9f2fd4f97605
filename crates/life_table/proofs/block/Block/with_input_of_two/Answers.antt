use Rattle.std.proofs.Common.{◌≡◌, ◌+◌, ◌*◌, ◌<◌, slice_index, sym, subst, inl, inr, arith}
use Rattle.std.specs.Int.{bit_at}
use Rattle.std.proofs.lemmas.Bool.Decides.{eqb_tells}
use Rattle.life_table.proofs.Seeing.{or_left, or_right}
use Rattle.life_table.proofs.block.Block.with_input_of_two.Goals as goal
use Rattle.life_table.proofs.block.Block.with_input_of_two.Goals.{then-counts-i-gt1, else-counts-i-gt1}

pub loop-i-preserved : goal.loop-i-preserved
loop-i-preserved c = λ k j below more may.
    let i = c.loop-i.i in
    let states = c.args.counts.now.states in
    let times = c.args.counts.now.times in
    let sets = c.args.self.now.sets in
    elim c.if-counts-i-gt1.branch [
      | then-counts-i-gt1 w ↦ subst (λ n. bit_at n k ≡ 1) (sym w.lines-is)
          (elim (eqb_tells j i) [
            | inl same ↦
                or_right c.loop-i.lines w.with_input_among-lines.result k
                (w.with_input_among-lines.ensures k 0 (omega arith)
                (subst (λ n. slice_index states n < 256 → bit_at (slice_index sets (256 * c.args.p + slice_index states n)) k ≡ 1) same.1 may))
            | inr other ↦ or_left c.loop-i.lines w.with_input_among-lines.result k (c.loop-i.invariant k j (omega (arith, below, other.1)) more may)
          ])
      | else-counts-i-gt1 w ↦ subst (λ n. bit_at n k ≡ 1) (sym w.lines-is)
          (elim (eqb_tells j i) [
            | inl same ↦
                let here : 1 < slice_index times i = subst (λ n. 1 < slice_index times n) same.1 more in
                absurd (omega (arith, here, w.if-counts-i-gt1.false))
            | inr other ↦ c.loop-i.invariant k j (omega (arith, below, other.1)) more may
          ])
    ]

pub returns : goal.returns
returns c = λ k j below more may. c.loop-i.invariant k j (omega (arith, below, c.loop-i-test.false)) more may
