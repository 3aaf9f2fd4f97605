use Rattle.std.proofs.Common.{inl, inr, ◌∙◌, arith}
use Rattle.std.proofs.lemmas.Bool.{cases_lt}
use Rattle.life_quad.specs.Store.{id_of}
use Rattle.life_quad.proofs.marks.Marks.set.Goals as goal

pub invariant_of-self : goal.invariant_of-self
invariant_of-self c = (
  c.self.invariant.0,
  λ k l u. elim (c.set.ensures.only (id_of k)) [ inl e ↦ e ∙ c.self.invariant.1 k l u | inr p ↦ p.1 ],
)

-- those from the first unmarked one on were looked at
pub invariant_of-self-then-id-self : goal.invariant_of-self-then-id-self
invariant_of-self-then-id-self c = (
  c.first_unmarked-self-inside.ensures.last,
  λ k l u. elim (cases_lt k c.args.id.0) [
    | inl less ↦ elim (c.set.ensures.only (id_of k)) [
      | inl e ↦ e ∙ c.self.invariant.1 k l (omega (arith, less, c.if-id-self.true))
      | inr p ↦ p.1
    ]
    | inr from ↦ c.first_unmarked-self-inside.ensures.marked k from u
  ],
)

pub invariant_of-self-else-id-self : goal.invariant_of-self-else-id-self
invariant_of-self-else-id-self c = (
  c.self.invariant.0,
  λ k l u. elim (c.set.ensures.only (id_of k)) [ inl e ↦ e ∙ c.self.invariant.1 k l u | inr p ↦ p.1 ],
)
