use Rattle.std.proofs.Common.{◌↔◌, IsSome, codes, inl, inr, map, refl, subst}
use Rattle.std.proofs.lemmas.Result.{IfOk-weaker}
use Rattle.clap.specs.Words.{subcommand_of}
use Rattle.command_line.specs.CommandLine.{program}
use Rattle.command_line.specs.Plans.{HasSecond, IsPlanOf, IsTaskPlanOf, task_of}
use Rattle.command_line.specs.declared.plans.TaskPlan.{TaskPlan}
use Rattle.command_line.proofs.MatchesLemmas.{no_plan_of_task, no_plan_of_files, no_plan_of_stream}
use Rattle.command_line.proofs.TaskLemmas.{anyway}
use Rattle.life_base.specs.declared.form.Form.TheVariants.{Placed, Moved}
use Rattle.command_line.proofs.plans.requests.plan.Goals as goal

pub returns-in-Ok-Work-clause-refused : goal.returns-in-Ok-Work-clause-refused
returns-in-Ok-Work-clause-refused g c =
    let is = rw c.in-Ok-Work.field-0-is at c.in-Ok-Work.ensures.ok in
    no_plan_of_task _ _ c.in-Ok-Work.plan c.as_job.result c.in-Ok-Work.ensures.faultless is c.in-Ok-Work.ensures.once c.as_job.ensures.err

pub returns-in-Ok-Keys-clause-refused : goal.returns-in-Ok-Keys-clause-refused
returns-in-Ok-Keys-clause-refused g c =
    let is = rw c.in-Ok-Keys.field-0-is at c.in-Ok-Keys.ensures.ok in
    no_plan_of_files (codes "keys") Placed _ _ c.in-Ok-Keys.field-0-0 c.no_job.result (inl refl) c.in-Ok-Keys.ensures.faultless is.0
    c.in-Ok-Keys.ensures.once c.no_job.ensures

pub returns-in-Ok-Duplicates-clause-refused : goal.returns-in-Ok-Duplicates-clause-refused
returns-in-Ok-Duplicates-clause-refused g c =
    let is = rw c.in-Ok-Duplicates.field-0-is at c.in-Ok-Duplicates.ensures.ok in
    no_plan_of_files (codes "duplicates") Moved _ _ c.in-Ok-Duplicates.field-0-0 c.no_job-in-Ok-Duplicates.result (inr refl)
    c.in-Ok-Duplicates.ensures.faultless is c.in-Ok-Duplicates.ensures.once c.no_job-in-Ok-Duplicates.ensures

pub returns-in-Ok-Stream-clause-refused : goal.returns-in-Ok-Stream-clause-refused
returns-in-Ok-Stream-clause-refused g c =
    let is = rw c.in-Ok-Stream.field-0-is at c.in-Ok-Stream.ensures.ok in
    no_plan_of_stream _ _ c.in-Ok-Stream.field-0-0 c.no_job-in-Ok-Stream.result c.in-Ok-Stream.ensures.faultless is
    c.in-Ok-Stream.ensures.once c.no_job-in-Ok-Stream.ensures

pub returns-clause-refused : goal.returns-clause-refused
returns-clause-refused g c = inl c.in-Err.ensures.refused

pub returns-in-Ok-Work-clause-faultless : goal.returns-in-Ok-Work-clause-faultless
returns-in-Ok-Work-clause-faultless g c = anyway c.as_job.result _ c.in-Ok-Work.ensures.faultless

pub returns-in-Ok-Work-clause-once : goal.returns-in-Ok-Work-clause-once
returns-in-Ok-Work-clause-once g c = anyway c.as_job.result _ c.in-Ok-Work.ensures.once

pub returns-in-Ok-Work-clause-ok : goal.returns-in-Ok-Work-clause-ok
returns-in-Ok-Work-clause-ok g c =
    let matches = subcommand_of program (map g.S.AsStr.text c.args.words.now) in
    let is : IsTaskPlanOf matches c.in-Ok-Work.plan = rw c.in-Ok-Work.field-0-is at c.in-Ok-Work.ensures.ok in
    IfOk-weaker c.as_job.result _ (IsPlanOf matches) (λ p same. (c.in-Ok-Work.plan.explain, subst (IsTaskPlanOf matches) same is)) c.as_job.ensures.ok

pub returns-in-Ok-Work-clause-files : goal.returns-in-Ok-Work-clause-files
returns-in-Ok-Work-clause-files g c =
    let files : IsSome c.in-Ok-Work.plan.second ↔ HasSecond c.in-Ok-Work.plan.task = rw c.in-Ok-Work.field-0-is at c.in-Ok-Work.ensures.files in
    IfOk-weaker c.as_job.result _ (λ p. IsSome p.second ↔ HasSecond (task_of p.job))
    (λ p same. subst (λ (q : TaskPlan). IsSome q.second ↔ HasSecond q.task) same files) c.as_job.ensures.ok
