use Rattle.std.proofs.Common.{◌∙◌}
use Rattle.file_keys.proofs.StreamRunLemmas.{stream_broken, stream_status, stream_tells, stream_through}
use Rattle.file_keys.proofs.stream.runs.write_stream_keys.Goals as goal

pub returns-in-Ok-clause-ran : goal.returns-in-Ok-clause-ran
returns-in-Ok-clause-ran g c =
    let (entries, is_all, all, tells, writes) = c.in-Ok.ensures.reported in
    stream_through (goal.F-step g) g.R.Source.remaining g.R.Source.failures g.W.Sink.contents g.W.Sink.failures g.W.Sink.stalled g.E.Sink.contents
    g.E.Sink.failures g.E.Sink.stalled c.args.plan.now c.args.opener _ _ _ _ _ _ _ entries is_all (c.new.ensures.style ∙ c.by.ensures) c.new.ensures.tells
    c.new.ensures.status all
    (stream_tells (goal.F-step g) g.R.Source.remaining g.R.Source.failures g.W.Sink.contents g.W.Sink.failures g.W.Sink.stalled g.E.Sink.contents
    g.E.Sink.failures g.E.Sink.stalled c.args.plan.now c.args.opener c.opener-opened.new.self c.opener-opened.result _ entries is_all
    (c.origin_of.result, c.origin_of.ensures, c.opener-opened.ensures) c.as_bytes.ensures.value tells)
    writes c.in-Ok.ensures.flushed

pub returns-in-Ok-clause-status : goal.returns-in-Ok-clause-status
returns-in-Ok-clause-status g c =
    let (entries, is_all, all, tells, writes) = c.in-Ok.ensures.reported in
    stream_status (goal.F-step g) g.R.Source.remaining g.R.Source.failures g.W.Sink.contents g.W.Sink.failures g.W.Sink.stalled g.E.Sink.contents
    g.E.Sink.failures g.E.Sink.stalled _ _ _ _ _ _ _ entries c.new.ensures.status writes

pub returns-clause-ran : goal.returns-clause-ran
returns-clause-ran g c =
    let (entries, is_all, all, tells, writes) = c.in-Err.ensures.reported in
    stream_broken (goal.F-step g) g.R.Source.remaining g.R.Source.failures g.W.Sink.contents g.W.Sink.failures g.W.Sink.stalled g.E.Sink.contents
    g.E.Sink.failures g.E.Sink.stalled c.args.plan.now c.args.opener _ _ _ _ _ _ _ _ entries is_all _ _ (c.new.ensures.style ∙ c.by.ensures)
    c.new.ensures.tells
    (stream_tells (goal.F-step g) g.R.Source.remaining g.R.Source.failures g.W.Sink.contents g.W.Sink.failures g.W.Sink.stalled g.E.Sink.contents
    g.E.Sink.failures g.E.Sink.stalled c.args.plan.now c.args.opener c.opener-opened.new.self c.opener-opened.result _ entries is_all
    (c.origin_of.result, c.origin_of.ensures, c.opener-opened.ensures) c.as_bytes.ensures.value tells)
    writes c.in-Err.ensures.sink.kind c.in-Err.ensures.sink.cause c.break_off.ensures.reported c.break_off.ensures.silent c.break_off.ensures.status
