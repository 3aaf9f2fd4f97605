use Rattle.std.proofs.Common.{inl, inr, Some}
use Rattle.std.proofs.lemmas.Result.{IfOk-weaker}
use Rattle.life_base.specs.declared.cell.TheConstants.{MAX_LEVEL}
use Rattle.life_quad.proofs.KeepingLemmas.{keeps-then, adds-as, adds-then}
use Rattle.life_step.specs.Refusals.{LacksForTable, SomeByTable, TableRefusal}
use Rattle.life_step.proofs.NeedFacts.{handed-on, step-lacks}
use Rattle.life_step.proofs.StepFacts.{step-refused}
use Rattle.life_step.proofs.steps.step_table.Goals as goal

pub next_by_table-requires : goal.next_by_table-requires
next_by_table-requires c = (c.args.bytes.now, c.in_ok-pattern.ensures.pattern)

pub returns-clause-stepped : goal.returns-clause-stepped
returns-clause-stepped c = IfOk-weaker c.next_by_table.result _ _ (λ text h. h c.args.bytes.now c.in_ok-pattern.ensures.pattern) c.next_by_table.ensures.stepped

pub returns-clause-keeps : goal.returns-clause-keeps
returns-clause-keeps c = keeps-then c.in_ok-pattern.ensures.reads.keeps c.next_by_table.ensures.keeps

pub returns-clause-refused : goal.returns-clause-refused
returns-clause-refused c =
    step-refused c.args.bytes.now _ _ _ (λ fault u. TableRefusal MAX_LEVEL c.args.table.now u (Some fault)) c.in_ok-pattern.ensures.pattern
    c.next_by_table.result c.next_by_table.ensures.refused

pub returns-in_err-pattern-clause-needed : goal.returns-in_err-pattern-clause-needed
returns-in_err-pattern-clause-needed c full =
    inl (handed-on _ c.from_residual.ensures.1 c.in_err-pattern.ensures.reads.needed full)

pub returns-clause-needed : goal.returns-clause-needed
returns-clause-needed c full =
    inr (step-lacks (λ q t. LacksForTable c.args.table.now q t c.next_by_table.new.store) c.args.bytes.now _ _ c.in_ok-pattern.ensures.pattern
    (c.next_by_table.ensures.needed full))

pub returns-in_err-pattern-clause-adds : goal.returns-in_err-pattern-clause-adds
returns-in_err-pattern-clause-adds c = adds-as _ c.in_err-pattern.ensures.reads.adds (λ P some. inl some)

pub returns-clause-adds : goal.returns-clause-adds
returns-clause-adds c =
    let read = c.in_ok-pattern.ensures in
    adds-then _ read.reads.adds c.next_by_table.ensures.adds (λ P some. inl some)
    (λ P some. inr (step-lacks (λ q t. SomeByTable P c.args.table.now q t) c.args.bytes.now _ _ read.pattern some))
