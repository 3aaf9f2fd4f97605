use Rattle.std.proofs.Common.{◌∙◌, refl}
use Rattle.file_keys.specs.KeyRuns.{without_list}
use Rattle.file_keys.proofs.KeyRunLemmas.{names_same, ran_broken, ran_through, status_is}
use Rattle.file_keys.proofs.keys.runs.write_keys.Goals as goal

pub returns-in-Err-clause-ran : goal.returns-in-Err-clause-ran
returns-in-Err-clause-ran g c =
    let lacks = c.in-Err.ensures.err in
    without_list lacks.0 c.in-Err.kind lacks.1 lacks.2 c.refuse.ensures.reported c.refuse.ensures.status refl

pub returns-in-Ok-take_all-clause-ran : goal.returns-in-Ok-take_all-clause-ran
returns-in-Ok-take_all-clause-ran g c =
    let took = c.in-Ok-take_all.ensures.took in
    ran_through (goal.F-step g) g.R.Source.remaining g.R.Source.failures g.W.Sink.contents g.W.Sink.failures g.W.Sink.stalled g.E.Sink.contents
    g.E.Sink.failures
    g.E.Sink.stalled c.args.plan.now c.args.opener c.list.new.self.opener c.take_all.new.self.files.opener c.in-Ok.list.items _ _ _ _ _ _ _ _ _ _
    c.in-Ok.ensures.ok c.list.ensures.form (names_same _ _ _ _ _ _ c.new-names.ensures c.as_slice.ensures.value c.as_slice-2.ensures.value)
    (c.new.ensures.style ∙ c.by.ensures) c.new.ensures.tells c.new.ensures.status took.1 took.2 c.in-Ok-take_all.ensures.flushed

pub returns-in-Ok-take_all-clause-status : goal.returns-in-Ok-take_all-clause-status
returns-in-Ok-take_all-clause-status g c =
    status_is (goal.F-step g) g.R.Source.remaining g.R.Source.failures g.W.Sink.contents g.W.Sink.failures g.W.Sink.stalled g.E.Sink.contents g.E.Sink.failures
    g.E.Sink.stalled _ _ _ _ _ _ _ _ _ _ _ _ c.new.ensures.status c.in-Ok-take_all.ensures.took.2

pub returns-clause-ran : goal.returns-clause-ran
returns-clause-ran g c =
    let took = c.in-Err-take_all.ensures.took in
    ran_broken (goal.F-step g) g.R.Source.remaining g.R.Source.failures g.W.Sink.contents g.W.Sink.failures g.W.Sink.stalled g.E.Sink.contents g.E.Sink.failures
    g.E.Sink.stalled c.args.plan.now c.args.opener c.list.new.self.opener c.take_all.new.self.files.opener c.in-Ok.list.items _ _ _ _ _ _ _ _ _ _ _ _ _
    c.in-Ok.ensures.ok c.list.ensures.form (names_same _ _ _ _ _ _ c.new-names.ensures c.as_slice.ensures.value c.as_slice-2.ensures.value)
    (c.new.ensures.style ∙ c.by.ensures) c.new.ensures.tells took.2 c.in-Err-take_all.ensures.sink.kind c.in-Err-take_all.ensures.sink.cause
    c.break_off.ensures.reported c.break_off.ensures.silent c.break_off.ensures.status
