use Rattle.std.proofs.Common.{◌≡◌, ◌^◌, inl, refl, rules}
use Rattle.life_base.specs.declared.cell.TheConstants.{MAX_LEVEL}
use Rattle.life_pattern.specs.Files.{Refuses}
use Rattle.life_writer.specs.Texts.{IsRleOf, IsShownText}
use Rattle.life_generations.specs.Later.{IsTextLater}
use Rattle.life_periods.specs.OfFile.{IsShownWithPeriod, RefusesPeriodOfFile}
use Rattle.life_step.specs.Stepped.{IsStepped, IsSteppedBy}
use Rattle.pattern_sources.specs.Forms.{IsTextIn}
use Rattle.life_cli.specs.Jobs.{by_reading, HasNoTextByTable, HasNoTextLaterByTable, IsSteppedTimes, RefusesGenerations, RefusesLifeStep}
use Rattle.pattern_sources.specs.Sources.{RefusesInForm, RefusesMany}
use Rattle.life_cli.specs.declared.jobs.Made.TheVariants.{Text}
use Rattle.command_line.specs.declared.plans.Task.TheVariants.{Canon, Convert, Show, ShowPeriod, Step, StepTable, Later, LaterTable}
use Rattle.command_line.specs.declared.plans.Target.TheVariants.{Rle}
use Rattle.life_cli.proofs.WorkLemmas.{made_of_comparison, made_of_step, made_of_text, none_failed, refused_form}
use Rattle.life_cli.proofs.jobs.make.Goals as goal
use Rattle.life_cli.proofs.jobs.make.Goals.{in-Canon-default, in-Convert-Rle-default, in-Same-Some, in-Show-default, in-ShowPeriod-default, in-Step-default, in-StepTable-Some, in-Later-default, in-LaterTable-Some}

pub returns : goal.returns
returns g c =
    let works = none_failed g.B.Source.failures c.args.second.now c.requires.second_reads in
    elim c.match-task.branch [
      | in-Canon-default w ↦
          let other = rw w.in-Canon-default.is-0 at c.requires.other in
          rw (w.in-Canon-default.is-0, w.result-is, w.first-is, w.second-is) (made_of_text Text (λ text. text.items) (IsTextIn _ MAX_LEVEL)
          (RefusesInForm _) (Canon _) _ _ w.text_of_source.result _ (λ x. (refl, refl)) works (λ has. has) (λ bytes text is. (refl, is))
          (λ output refusal h. refused_form _ _ _ output refusal other h) w.text_of_source.ensures w.made_from_text.ensures.text
          w.made_from_text.ensures.fault)
      | in-Convert-Rle-default w ↦
          let task : c.args.task.now ≡ Convert Rle = search rules in
          rw (task, w.result-is, w.first-is, w.second-is) (made_of_text Text (λ text. text.items) (IsRleOf MAX_LEVEL (2 ^ 20)) RefusesMany (Convert Rle) _ _
          w.rle_of_source.result _ (λ x. (refl, refl)) works (λ has. has) (λ bytes text is. (refl, is)) (λ output refusal h. (h.0, by_reading h.1))
          w.rle_of_source.ensures w.made_from_text-in-Convert-Rle-default.ensures.text w.made_from_text-in-Convert-Rle-default.ensures.fault)
      | in-Same-Some w ↦
          rw (w.in-Same-Some.is-0, w.result-is, w.first-is, w.second-is, w.in-Same-Some.is-1) (made_of_comparison _ _ _ w.compared.result
          w.compared.ensures.ok w.compared.ensures.err w.compared.ensures.reported)
      | in-Show-default w ↦
          rw (w.in-Show-default.is-0, w.result-is, w.first-is, w.second-is) (made_of_text Text (λ text. text.items) (IsShownText MAX_LEVEL) (Refuses MAX_LEVEL)
          Show _ _ w.five_lines_of_source.result _ (λ x. (refl, refl)) works (λ has. has) (λ bytes text is. (refl, is))
          (λ output refusal h. (h.0, by_reading h.1)) w.five_lines_of_source.ensures w.made_from_text-in-Show-default.ensures.text
          w.made_from_text-in-Show-default.ensures.fault)
      | in-ShowPeriod-default w ↦
          rw (w.in-ShowPeriod-default.is-0, w.result-is, w.first-is, w.second-is) (made_of_text Text (λ text. text.items) (IsShownWithPeriod _)
          (RefusesPeriodOfFile _) (ShowPeriod _) _ _ w.lines_with_period_of.result _ (λ x. (refl, refl)) works (λ has. has) (λ bytes text is. (refl, is))
          (λ output refusal h. (h.0, by_reading h.1)) w.lines_with_period_of.ensures w.made_from_text-in-ShowPeriod-default.ensures.text
          w.made_from_text-in-ShowPeriod-default.ensures.fault)
      | in-Step-default w ↦
          rw (w.in-Step-default.is-0, w.result-is, w.first-is, w.second-is) (made_of_text Text (λ text. text.items) IsStepped RefusesLifeStep Step _ _
          w.next_of.result _ (λ x. (refl, refl)) works (λ has. has) (λ bytes text is. (refl, is)) (λ output refusal h. (h.0, by_reading h.1))
          w.next_of.ensures w.made_from_text-in-Step-default.ensures.text w.made_from_text-in-Step-default.ensures.fault)
      | in-StepTable-Some w ↦
          rw (w.in-StepTable-Some.is-0, w.result-is, w.first-is, w.second-is, w.in-StepTable-Some.is-1) (made_of_step Text (λ text. text.items)
          IsSteppedBy (HasNoTextByTable _ _) StepTable _ _ w.next_by_table_of.result _ (λ x. (refl, refl))
          (λ table bytes others text is stepped. (refl, (table, is, stepped))) (λ output refusal h. inl h) w.next_by_table_of.ensures.ok
          w.next_by_table_of.ensures.err w.next_by_table_of.ensures.reported
          w.made_from_step.ensures.text w.made_from_step.ensures.refusal)
      | in-Later-default w ↦
          rw (w.in-Later-default.is-0, w.result-is, w.first-is, w.second-is) (made_of_text Text (λ text. text.items) (IsTextLater _) (RefusesGenerations _)
          (Later _) _ _ w.later_of.result _ (λ x. (refl, refl)) works (λ has. has) (λ bytes text is. (refl, is)) (λ output refusal h. (h.0, by_reading h.1))
          w.later_of.ensures w.made_from_text-in-Later-default.ensures.text w.made_from_text-in-Later-default.ensures.fault)
      | in-LaterTable-Some w ↦
          rw (w.in-LaterTable-Some.is-0, w.result-is, w.first-is, w.second-is, w.in-LaterTable-Some.is-1) (made_of_step Text (λ text. text.items)
          (λ table. IsSteppedTimes table _) (HasNoTextLaterByTable _ _ _) (LaterTable _) _ _ w.later_by_table_of.result _ (λ x. (refl, refl))
          (λ table bytes others text is stepped. (refl, (table, is, stepped))) (λ output refusal h. inl h) w.later_by_table_of.ensures.ok
          w.later_by_table_of.ensures.err w.later_by_table_of.ensures.reported w.made_from_step-in-LaterTable-Some.ensures.text
          w.made_from_step-in-LaterTable-Some.ensures.refusal)
    ]
