use Rattle.std.proofs.Common.{Some}
use Rattle.std.proofs.lemmas.Result.{IfOk-weaker}
use Rattle.life_quad.proofs.KeepingLemmas.{keeps-then}
use Rattle.life_step.proofs.StepFacts.{step-refused}
use Rattle.life_generations.specs.Later.{LaterRefusal}
use Rattle.life_generations.proofs.further.step_later.Goals as goal

pub later_by_rule-requires : goal.later_by_rule-requires
later_by_rule-requires c = (c.args.bytes.now, c.in_ok-pattern.ensures.pattern)

pub returns-clause-later : goal.returns-clause-later
returns-clause-later c = IfOk-weaker c.later_by_rule.result _ _ (λ text h. h c.args.bytes.now c.in_ok-pattern.ensures.pattern) c.later_by_rule.ensures.later

pub returns-clause-keeps : goal.returns-clause-keeps
returns-clause-keeps c = keeps-then c.in_ok-pattern.ensures.reads.keeps c.later_by_rule.ensures.keeps

pub returns-clause-refused : goal.returns-clause-refused
returns-clause-refused c =
    step-refused c.args.bytes.now _ _ _ (λ fault u. LaterRefusal c.args.generations u (Some fault)) c.in_ok-pattern.ensures.pattern c.later_by_rule.result
    c.later_by_rule.ensures.refused
