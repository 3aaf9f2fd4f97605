use Rattle.std.proofs.Common.{refl}
use Rattle.file_keys.specs.Duplicates.{without_list}
use Rattle.file_keys.proofs.GatherLemmas.{gathered_broken, gathered_status, gathered_through}
use Rattle.file_keys.proofs.KeyRunLemmas.{names_same}
use Rattle.file_keys.proofs.duplicates.runs.write_duplicates.Goals as goal

pub returns-in-Err-clause-ran : goal.returns-in-Err-clause-ran
returns-in-Err-clause-ran g c =
    let lacks = c.in-Err.ensures.err in
    without_list lacks.0 c.in-Err.kind lacks.1 lacks.2 c.refuse.ensures.reported c.refuse.ensures.status refl

pub returns-in-Ok-write_groups-clause-ran : goal.returns-in-Ok-write_groups-clause-ran
returns-in-Ok-write_groups-clause-ran g c =
    gathered_through (goal.F-step g) g.R.Source.remaining g.R.Source.failures g.W.Sink.contents g.W.Sink.failures g.W.Sink.stalled g.E.Sink.contents
    g.E.Sink.failures g.E.Sink.stalled c.args.plan.now c.args.opener c.list.new.self.opener _ c.in-Ok.list.items _ _ _ _ _ _ _ _
    c.in-Ok.ensures.ok c.list.ensures.form (names_same _ _ _ _ _ _ c.new-names.ensures c.as_slice.ensures.value c.as_slice-2.ensures.value)
    c.new.ensures.tells c.new.ensures.status c.new.ensures.groups
    c.take_all.ensures.gathers
    _ _ c.in-Ok-write_groups.ensures.text c.in-Ok-write_groups.ensures.flushed c.final_status.ensures

pub returns-in-Ok-write_groups-clause-status : goal.returns-in-Ok-write_groups-clause-status
returns-in-Ok-write_groups-clause-status g c =
    gathered_status (goal.F-step g) g.R.Source.remaining g.R.Source.failures g.W.Sink.contents g.W.Sink.failures g.W.Sink.stalled g.E.Sink.contents
    g.E.Sink.failures g.E.Sink.stalled c.args.plan.now c.args.opener c.list.new.self.opener _ c.in-Ok.list.items _ _ c.args.out.now c.args.out.now _ _ _ _
    c.in-Ok.ensures.ok c.list.ensures.form (names_same _ _ _ _ _ _ c.new-names.ensures c.as_slice.ensures.value c.as_slice-2.ensures.value)
    c.new.ensures.tells c.new.ensures.status c.new.ensures.groups
    c.take_all.ensures.gathers
    _ c.final_status.ensures

pub returns-clause-ran : goal.returns-clause-ran
returns-clause-ran g c =
    gathered_broken (goal.F-step g) g.R.Source.remaining g.R.Source.failures g.W.Sink.contents g.W.Sink.failures g.W.Sink.stalled g.E.Sink.contents
    g.E.Sink.failures g.E.Sink.stalled c.args.plan.now c.args.opener c.list.new.self.opener _ c.in-Ok.list.items _ _ _ _ _ _ _ _
    c.in-Ok.ensures.ok c.list.ensures.form (names_same _ _ _ _ _ _ c.new-names.ensures c.as_slice.ensures.value c.as_slice-2.ensures.value)
    c.new.ensures.tells c.new.ensures.status c.new.ensures.groups
    c.take_all.ensures.gathers
    _ _ _ _ c.in-Err-write_groups.ensures.text c.in-Err-write_groups.ensures.sink.kind c.in-Err-write_groups.ensures.sink.cause
    c.break_off.ensures.reported c.break_off.ensures.silent c.break_off.ensures.status
