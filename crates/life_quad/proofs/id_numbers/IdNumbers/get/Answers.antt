use Rattle.std.proofs.Common.{◌≢◌, subst, AllPairs}
use Rattle.life_quad.specs.IdNumbers.{NumberedIds}
use Rattle.life_quad.proofs.PlaceLemmas.{distinct}
use Rattle.life_quad.proofs.id_numbers.IdNumbers.get.Goals as goal

pub returns-in-0-clause-distinct : goal.returns-in-0-clause-distinct
returns-in-0-clause-distinct c = subst (λ (v : NumberedIds). AllPairs ◌≢◌ v.ids) c.self.view_is (distinct _ _ c.self.invariant.0)

pub returns-in_default-clause-distinct : goal.returns-in_default-clause-distinct
returns-in_default-clause-distinct c = subst (λ (v : NumberedIds). AllPairs ◌≢◌ v.ids) c.self.view_is (distinct _ _ c.self.invariant.0)
