use Rattle.std.proofs.Common.{inl, inr, Some}
use Rattle.std.proofs.lemmas.Result.{IfOk-weaker}
use Rattle.life_base.specs.declared.cell.TheConstants.{MAX_LEVEL}
use Rattle.life_quad.proofs.KeepingLemmas.{keeps-then, adds-as, adds-then}
use Rattle.life_step.specs.Refusals.{LacksForLife, SomeByRule, LifeRefusal}
use Rattle.life_step.proofs.NeedFacts.{handed-on, step-lacks}
use Rattle.life_step.proofs.StepFacts.{step-refused}
use Rattle.life_step.proofs.steps.step_life.Goals as goal

pub next_by_rule-requires : goal.next_by_rule-requires
next_by_rule-requires c = (c.args.bytes.now, c.in_ok-pattern.ensures.pattern)

pub returns-clause-stepped : goal.returns-clause-stepped
returns-clause-stepped c = IfOk-weaker c.next_by_rule.result _ _ (λ text h. h c.args.bytes.now c.in_ok-pattern.ensures.pattern) c.next_by_rule.ensures.stepped

pub returns-clause-refused : goal.returns-clause-refused
returns-clause-refused c =
    step-refused c.args.bytes.now _ _ _ (λ fault u. LifeRefusal MAX_LEVEL u (Some fault)) c.in_ok-pattern.ensures.pattern c.next_by_rule.result
    c.next_by_rule.ensures.refused

pub returns-clause-keeps : goal.returns-clause-keeps
returns-clause-keeps c = keeps-then c.in_ok-pattern.ensures.reads.keeps c.next_by_rule.ensures.keeps

pub returns-in_err-pattern-clause-needed : goal.returns-in_err-pattern-clause-needed
returns-in_err-pattern-clause-needed c full =
    inl (handed-on _ c.from_residual.ensures.1 c.in_err-pattern.ensures.reads.needed full)

pub returns-clause-needed : goal.returns-clause-needed
returns-clause-needed c full =
    inr (step-lacks (λ q t. LacksForLife q t c.next_by_rule.new.store) c.args.bytes.now _ _ c.in_ok-pattern.ensures.pattern
    (c.next_by_rule.ensures.needed full))

pub returns-in_err-pattern-clause-adds : goal.returns-in_err-pattern-clause-adds
returns-in_err-pattern-clause-adds c = adds-as _ c.in_err-pattern.ensures.reads.adds (λ P some. inl some)

pub returns-clause-adds : goal.returns-clause-adds
returns-clause-adds c =
    let read = c.in_ok-pattern.ensures in
    adds-then _ read.reads.adds c.next_by_rule.ensures.adds (λ P some. inl some)
    (λ P some. inr (step-lacks (λ q t. SomeByRule P q t) c.args.bytes.now _ _ read.pattern some))
