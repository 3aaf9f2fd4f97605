use Rattle.std.proofs.Common.{arith}
use Rattle.std.proofs.lemmas.Grind.{common_steps}
use Rattle.life_base.specs.Rules.{four_sets}
use Rattle.life_base.proofs.rule_reading.four_sets.Goals as goal

pub returns-in_default-clause-ok : goal.returns-in_default-clause-ok
unfolding four_sets
returns-in_default-clause-ok c = grind (arith, common_steps)

pub returns-in_default-2-clause-ok : goal.returns-in_default-2-clause-ok
unfolding four_sets
returns-in_default-2-clause-ok c = grind (arith, common_steps)

pub returns-in_default-3-clause-ok : goal.returns-in_default-3-clause-ok
unfolding four_sets
returns-in_default-3-clause-ok c = grind (arith, common_steps)

pub returns-in_ok-life_sets-in-86-clause-ok : goal.returns-in_ok-life_sets-in-86-clause-ok
unfolding four_sets
returns-in_ok-life_sets-in-86-clause-ok c = grind (arith, common_steps)
