use Rattle.std.proofs.Common.{ℕ, [], take, get_or, subst, inl, inr, arith}
use Rattle.std.proofs.lemmas.Bool.Decides.{eqb_tells}
use Rattle.life_table.specs.Index.{MayFit}
use Rattle.life_table.proofs.Seeing.{or_left, or_right}
use Rattle.life_table.proofs.block.Block.that_may_give.Goals as goal

pub loop-j-preserved : goal.loop-j-preserved
loop-j-preserved c = λ k i space below h. elim (eqb_tells i c.loop-j.j) [
  | inl here ↦ or_right c.loop-j.lines c.that_may_fit-lines.result k
      (c.that_may_fit-lines.ensures k space (subst (λ (n : ℕ). MayFit c.args.self.now (take c.args.n (get_or c.args.images.now.cells n [])) k) here.1 h))
  | inr other ↦ or_left c.loop-j.lines c.that_may_fit-lines.result k (c.loop-j.invariant k i space (omega (arith, below, other.1)) h)
]
