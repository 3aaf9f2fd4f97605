use Rattle.std.proofs.Common.{subst}
use Rattle.life_quad.specs.Memory.{SlotHolds}
use Rattle.life_quad.proofs.MemoryLemmas.{put-one}
use Rattle.life_quad.proofs.memory.NeighbourhoodMemory.put.Goals as goal

pub returns : goal.returns
returns c =
    put-one (λ i. record { around = c.in-Some.ensures i; answer = c.in-Some-number_of.ensures i })
    (λ p h. c.grow.ensures p (subst (λ slots. SlotHolds slots p) c.self.view_is h)) c.set_slot.ensures
