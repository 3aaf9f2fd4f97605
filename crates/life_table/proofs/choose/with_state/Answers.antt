use Rattle.std.proofs.Common.{refl, inl, inr}
use Rattle.life_table.proofs.choose.with_state.Goals as goal

pub returns-else-a-s : goal.returns-else-a-s
returns-else-a-s c = rw c.in-One.is (c.in-One.a, c.args.s, c.if-a-s.false, inl refl, inr refl)
