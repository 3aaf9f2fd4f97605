use Rattle.std.proofs.Common.{codes, inl, inr, refl, subst, sym, Some, IfOk}
use Rattle.clap.specs.Words.{found_of, rows_of, Text}
use Rattle.command_line.specs.Plans.{HasNoForm, HasNoFormat, IsTaskPlanOf}
use Rattle.life_base.specs.declared.form.Form.TheVariants.{Placed}
use Rattle.command_line.specs.declared.plans.Task.TheVariants.{Canon, Convert, Same}
use Rattle.command_line.proofs.TaskLemmas.{file_of, format_is_held, format_of, form_is_held, no_memory, no_other, over_one, over_two, pair_of, show_explains, step_explains, takes_no_form, takes_no_format, word_explains}
use Rattle.command_line.proofs.plans.requests.from_command.Goals as goal

pub over_file-requires : goal.over_file-requires
over_file-requires c =
    let command = c.args.command.now in
    let rows = rows_of (found_of c.args.found.now) in
    file_of (codes "canon") command rows refl refl c.in-canon.is c.requires.task

pub over_file-requires-in-Ok-target : goal.over_file-requires-in-Ok-target
over_file-requires-in-Ok-target c =
    let command = c.args.command.now in
    let rows = rows_of (found_of c.args.found.now) in
    file_of (codes "convert") command rows refl refl c.in-convert.is c.requires.task

pub show-requires : goal.show-requires
show-requires c =
    let command = c.args.command.now in
    let rows = rows_of (found_of c.args.found.now) in
    file_of (codes "show") command rows refl refl c.in-show.is c.requires.task

pub step-requires : goal.step-requires
step-requires c =
    let command = c.args.command.now in
    let rows = rows_of (found_of c.args.found.now) in
    file_of (codes "step") command rows refl refl c.in-step.is c.requires.task

pub target-requires : goal.target-requires
target-requires c =
    let command = c.args.command.now in
    let rows = rows_of (found_of c.args.found.now) in
    format_of command rows c.in-convert.is c.requires.task

pub over_files-requires-clause-first : goal.over_files-requires-clause-first
over_files-requires-clause-first c =
    let command = c.args.command.now in
    let rows = rows_of (found_of c.args.found.now) in
    (pair_of command rows c.in-same.is c.requires.task).0

pub over_files-requires-clause-second : goal.over_files-requires-clause-second
over_files-requires-clause-second c =
    let command = c.args.command.now in
    let rows = rows_of (found_of c.args.found.now) in
    (pair_of command rows c.in-same.is c.requires.task).1

pub unreachable-unreachable : goal.unreachable-unreachable
unreachable-unreachable c =
    let command = c.args.command.now in
    let rows = rows_of (found_of c.args.found.now) in
    no_other command rows c.in_default.not-canon c.in_default.not-convert c.in_default.not-same c.in_default.not-show c.in_default.not-step c.requires.task

pub returns-in-Ok-clause-ok : goal.returns-in-Ok-clause-ok
returns-in-Ok-clause-ok c =
    let command = c.args.command.now in
    let rows = rows_of (found_of c.args.found.now) in
    over_one command rows (Canon c.in-Ok.form) c.over_file.result c.in-canon.is (λ p file. (file, c.in-Ok.ensures.ok)) c.over_file.ensures.ok

pub returns-in-Ok-clause-refused : goal.returns-in-Ok-clause-refused
returns-in-Ok-clause-refused c =
    let command = c.args.command.now in
    let rows = rows_of (found_of c.args.found.now) in
    no_memory (command, rows) (codes "canon") c.over_file.result refl refl refl c.in-canon.is c.requires.task
    (takes_no_format (codes "canon") command rows refl refl c.in-canon.is)
    (λ named. form_is_held Placed rows c.in-Ok.form c.in-Ok.ensures.ok named.1) c.requires.once c.over_file.ensures.err

pub returns-in-Err-clause-refused : goal.returns-in-Err-clause-refused
returns-in-Err-clause-refused c =
    let command = c.args.command.now in
    let rows = rows_of (found_of c.args.found.now) in
    word_explains (command, rows) (HasNoForm rows) c.in-Err.usage (λ no. inr (inl (inl c.in-canon.is, no))) c.requires.once c.in-Err.ensures.err

pub returns-in-Ok-target-clause-ok : goal.returns-in-Ok-target-clause-ok
returns-in-Ok-target-clause-ok c =
    let command = c.args.command.now in
    let rows = rows_of (found_of c.args.found.now) in
    over_one command rows (Convert c.in-Ok-target.target) c.over_file-in-Ok-target.result c.in-convert.is (λ p file. (file, c.in-Ok-target.ensures.ok))
    c.over_file-in-Ok-target.ensures.ok

pub returns-in-Ok-target-clause-refused : goal.returns-in-Ok-target-clause-refused
returns-in-Ok-target-clause-refused c =
    let command = c.args.command.now in
    let rows = rows_of (found_of c.args.found.now) in
    no_memory (command, rows) (codes "convert") c.over_file-in-Ok-target.result refl refl refl c.in-convert.is c.requires.task
    (λ named. format_is_held rows c.in-Ok-target.target c.in-Ok-target.ensures.ok named.1)
    (takes_no_form (codes "convert") command rows refl refl refl refl refl c.in-convert.is) c.requires.once c.over_file-in-Ok-target.ensures.err

pub returns-in-Err-target-clause-refused : goal.returns-in-Err-target-clause-refused
returns-in-Err-target-clause-refused c =
    let command = c.args.command.now in
    let rows = rows_of (found_of c.args.found.now) in
    word_explains (command, rows) (HasNoFormat rows) c.in-Err-target.usage (λ no. inl (c.in-convert.is, no)) c.requires.once c.in-Err-target.ensures.err

pub returns-in-Ok-form-clause-ok : goal.returns-in-Ok-form-clause-ok
returns-in-Ok-form-clause-ok c =
    let command = c.args.command.now in
    let rows = rows_of (found_of c.args.found.now) in
    over_two command (codes "A") (codes "B") rows (Same c.in-Ok-form.form) c.over_files.result c.in-same.is (λ p files. (files, c.in-Ok-form.ensures.ok))
    c.over_files.ensures.ok

pub returns-in-Ok-form-clause-refused : goal.returns-in-Ok-form-clause-refused
returns-in-Ok-form-clause-refused c =
    let command = c.args.command.now in
    let rows = rows_of (found_of c.args.found.now) in
    no_memory (command, rows) (codes "same") c.over_files.result refl refl refl c.in-same.is c.requires.task
    (takes_no_format (codes "same") command rows refl refl c.in-same.is)
    (λ named. form_is_held Placed rows c.in-Ok-form.form c.in-Ok-form.ensures.ok named.1) c.requires.once c.over_files.ensures.err

pub returns-in-Err-form-clause-refused : goal.returns-in-Err-form-clause-refused
returns-in-Err-form-clause-refused c =
    let command = c.args.command.now in
    let rows = rows_of (found_of c.args.found.now) in
    word_explains (command, rows) (HasNoForm rows) c.in-Err-form.usage (λ no. inr (inl (inr (inl c.in-same.is), no))) c.requires.once c.in-Err-form.ensures.err

pub returns-in-show-clause-ok : goal.returns-in-show-clause-ok
returns-in-show-clause-ok c =
    let command = c.args.command.now in
    let rows = rows_of (found_of c.args.found.now) in
    subst (λ (name : Text). IfOk c.show.result (IsTaskPlanOf (Some (name, rows)))) (sym c.in-show.is) c.show.ensures.ok

pub returns-in-show-clause-refused : goal.returns-in-show-clause-refused
returns-in-show-clause-refused c =
    let command = c.args.command.now in
    let rows = rows_of (found_of c.args.found.now) in
    show_explains (command, rows) c.show.result c.in-show.is c.requires.task (takes_no_format (codes "show") command rows refl refl c.in-show.is)
    (takes_no_form (codes "show") command rows refl refl refl refl refl c.in-show.is) c.requires.once c.show.ensures.err

pub returns-in-step-clause-ok : goal.returns-in-step-clause-ok
returns-in-step-clause-ok c =
    let command = c.args.command.now in
    let rows = rows_of (found_of c.args.found.now) in
    subst (λ (name : Text). IfOk c.step.result (IsTaskPlanOf (Some (name, rows)))) (sym c.in-step.is) c.step.ensures.ok

pub returns-in-step-clause-refused : goal.returns-in-step-clause-refused
returns-in-step-clause-refused c =
    let command = c.args.command.now in
    let rows = rows_of (found_of c.args.found.now) in
    step_explains (command, rows) c.step.result c.in-step.is c.requires.task (takes_no_format (codes "step") command rows refl refl c.in-step.is)
    (takes_no_form (codes "step") command rows refl refl refl refl refl c.in-step.is) c.requires.once c.step.ensures.err
