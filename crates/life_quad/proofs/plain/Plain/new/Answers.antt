use Rattle.life_quad.proofs.StoreLemmas.{squares-nil}
use Rattle.std.proofs.Common.{ap, ◌∙◌, rules}
use Rattle.life_quad.specs.Store.{squares}
use Rattle.life_quad.proofs.plain.Plain.new.Goals as goal

pub invariant_of-result : goal.invariant_of-result
unfolding squares
invariant_of-result c = search rules

pub returns-clause-stored : goal.returns-clause-stored
returns-clause-stored c = ap squares c.new.ensures.items ∙ squares-nil

pub returns-clause-most : goal.returns-clause-most
returns-clause-most c = search rules
