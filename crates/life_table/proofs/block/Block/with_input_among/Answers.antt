use Rattle.std.proofs.Common.{◌≡◌, ◌+◌, ◌*◌, ◌<◌, slice_index, sym, subst, inl, inr, arith}
use Rattle.std.specs.Int.{bit_at}
use Rattle.std.proofs.lemmas.Bool.Decides.{eqb_tells}
use Rattle.life_table.proofs.Seeing.{or_left, or_right}
use Rattle.life_table.proofs.block.Block.with_input_among.Goals as goal

pub loop-s-preserved : goal.loop-s-preserved
loop-s-preserved c = λ k i below h.
    let sets = c.args.self.now.sets in
    let states = c.args.states.now in
    let here = c.loop-s.s-index in
    let set = slice_index sets (256 * c.args.p + slice_index states here) in
    elim (eqb_tells i here) [
      | inl same ↦
          let small : slice_index states here < 256 = omega (arith, c.type_inv.states here) in
          or_right c.loop-s.lines set k
          (subst (λ n. bit_at (slice_index sets (256 * c.args.p + slice_index states n)) k ≡ 1) same.1
          (h (subst (λ n. slice_index states n < 256) (sym same.1) small)))
      | inr other ↦ or_left c.loop-s.lines set k (c.loop-s.invariant k i (omega (arith, below, other.1)) h)
    ]
