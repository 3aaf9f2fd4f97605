use Rattle.std.proofs.Common.{◌∙◌, ◌++◌, [], arith, inr, refl, rules, take}
use Rattle.std.proofs.KnownBytes.{Consumes-kept, Consumes-nil, Consumes-trans}
use Rattle.std.proofs.lemmas.Result.{err_from_is_err_and}
use Rattle.file_keys.proofs.KeyRunLemmas.{unfailed}
use Rattle.file_keys.proofs.StreamRunLemmas.{came_beyond, came_further, consumes_none, counted_within, pieces_all, pieces_err, pieces_on, pieces_start}
use Rattle.file_keys.proofs.stream.runs.StreamRun.read_stream.Goals as goal

pub returns-then-failed-clause-took : goal.returns-then-failed-clause-took
returns-then-failed-clause-took g c = λ begun holds. (
  [],
  begun,
  Consumes-nil _,
  λ is. holds,
  pieces_start _ _ _ _ c.args.self.now.form _ begun _ _ _ c.requires.count c.requires.can.hears,
)

pub loop-count-init : goal.loop-count-init
loop-count-init g c = record {
  can = c.requires.can;
  working = unfailed _ _ (g.met.R.Source.at_most_one c.args.source.now) c.failed.ensures c.if-failed.false;
  form = refl;
  style = refl;
  stalled = refl;
  within = omega (arith, c.requires.count);
  came = (
    [],
    Consumes-nil _,
    refl,
    λ begun holds. (begun, holds, pieces_start _ _ _ _ c.args.self.now.form _ begun _ _ _ c.requires.count c.requires.can.hears),
  );
}

pub returns-in-Err-clause-took : goal.returns-in-Err-clause-took
returns-in-Err-clause-took g c = λ begun holds.
    let (bytes, consumes, counted, all) = c.loop-count.invariant.came in
    let (left, own, took) = all begun holds in
    (bytes, left, Consumes-kept _ _ _ bytes consumes c.in-Err.ensures.bytes, λ is. own, took)

pub returns-then-count-eq0-clause-took : goal.returns-then-count-eq0-clause-took
returns-then-count-eq0-clause-took g c = λ begun holds.
    let (bytes, consumes, counted, all) = c.loop-count.invariant.came in
    let (left, own, took) = all begun holds in
    (bytes, left, consumes_none _ _ _ bytes (take c.in-Ok.count c.read.new.buf) (search rules) consumes c.in-Ok.ensures.bytes.0, λ is. own, took)

pub returns-then-count-left-clause-took : goal.returns-then-count-left-clause-took
returns-then-count-left-clause-took g c = λ begun holds.
    let (bytes, consumes, counted, all) = c.loop-count.invariant.came in
    let (left, own, took) = all begun holds in
    let more = take c.in-Ok.count c.read.new.buf in (
      bytes ++ more,
      left ++ more,
      Consumes-trans _ _ _ bytes more consumes c.in-Ok.ensures.bytes.0,
      λ is. cc,
      pieces_all _ _ _ _ _ _ _ begun bytes left more (bytes ++ more) _ _ _ _ _ _ _ refl took,
    )

pub returns-then-count-left-clause-end : goal.returns-then-count-left-clause-end
returns-then-count-left-clause-end g c =
    let (bytes, consumes, counted, all) = c.loop-count.invariant.came in
    let more = take c.in-Ok.count c.read.new.buf in
    inr (refl, came_beyond _ _ _ bytes more c.loop-count.left counted (search rules) consumes c.in-Ok.ensures.bytes.0)

pub loop-count-preserved : goal.loop-count-preserved
loop-count-preserved g c =
    let before = c.loop-count.invariant in
    let (bytes, consumes, counted, all) = before.came in
    let more = take c.in-Ok.count c.read.new.buf in record {
      can = c.in_ok-take_chunk.ensures.can;
      working = c.in-Ok.ensures.failure ∙ before.working;
      form = c.in_ok-take_chunk.ensures.form ∙ before.form;
      style = c.in_ok-take_chunk.ensures.style ∙ before.style;
      stalled = c.in_ok-take_chunk.ensures.sink.stalled ∙ before.stalled;
      within = counted_within _ _ _ c.loop-count.left c.in-Ok.count _ c.in_ok-take_chunk.ensures.few (search rules) (search rules) before.within;
      came = (
        bytes ++ more,
        Consumes-trans _ _ _ bytes more consumes c.in-Ok.ensures.bytes.0,
        came_further bytes more c.loop-count.left c.in-Ok.count _ counted (search rules) (search rules) refl,
        λ begun holds.
            let (left, own, took) = all begun holds in
            let (last, owns, takes) = c.in_ok-take_chunk.ensures.took left own in
            (last, owns, pieces_on _ _ _ _ c.args.self.now.form _ _ _ _ begun bytes more left last _ _ _ _ _ _ _ _ _ _ before.form before.style took takes),
      );
    }

pub returns-in_err-take_chunk-clause-took : goal.returns-in_err-take_chunk-clause-took
returns-in_err-take_chunk-clause-took g c =
    let p = err_from_is_err_and c.from_residual.result c.from_residual.ensures.1 in
    let before = c.loop-count.invariant in
    let (bytes, consumes, counted, all) = before.came in
    let more = take c.in-Ok.count c.read.new.buf in
    rw p.1 (λ begun holds.
    let (left, own, took) = all begun holds in
    let (last, owns, takes) = c.in_err-take_chunk.ensures.took left own in (
      bytes ++ more,
      last,
      Consumes-trans _ _ _ bytes more consumes c.in-Ok.ensures.bytes.0,
      tt,
      pieces_err _ _ _ _ _ _ _ begun _ last _ _ _ _ _ _ _ _
          (pieces_on _ _ _ _ c.args.self.now.form _ _ _ _ begun bytes more left last _ _ _ _ _ _ _ _ _ _ before.form before.style took takes),
    ))
