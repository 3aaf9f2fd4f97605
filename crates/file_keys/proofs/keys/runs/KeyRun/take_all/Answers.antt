use Rattle.std.proofs.Common.{◌∙◌, refl}
use Rattle.std.proofs.lemmas.Result.{err_from_is_err_and}
use Rattle.file_keys.specs.KeyRuns.{names_left}
use Rattle.file_keys.proofs.KeyRunLemmas.{hears_on, on_ok, takes_err, takes_flushed, takes_next, takes_none}
use Rattle.file_keys.proofs.keys.runs.KeyRun.take_all.Goals as goal

pub loop-name-init : goal.loop-name-init
loop-name-init g c = record { can = c.requires; stalled = refl; style = refl; form = refl; took = takes_none _ _ _ _ _ _ _ _ _ _ _ _ _ c.requires.hears }

pub loop-name-preserved : goal.loop-name-preserved
loop-name-preserved g c = record {
  can = record {
    callable = c.take-outcome.ensures.callable;
    works = c.in_ok-put.ensures.sink.works;
    hears = hears_on _ _ _ _ _ _ _ _ c.in_ok-put.ensures.processed.2.reported;
  };
  stalled = c.in_ok-put.ensures.sink.stalled ∙ c.loop-name.invariant.stalled;
  style = c.in_ok-put.ensures.style ∙ c.loop-name.invariant.style;
  form = c.take-outcome.ensures.form ∙ c.loop-name.invariant.form;
  took = takes_next _ _ _ _ _ _ _ _ _ _ _ _ _ _ _ _ _ _ _ _ _ _ _ _ _ _ _ _ c.loop-name.invariant.form c.loop-name.invariant.style
      c.in-Some.ensures c.bytes.ensures c.loop-name.invariant.took c.take-outcome.ensures.takes c.in_ok-put.ensures.processed;
}

pub returns-in_err-put-clause-took : goal.returns-in_err-put-clause-took
returns-in_err-put-clause-took g c =
    let p = err_from_is_err_and c.from_residual.result c.from_residual.ensures.1 in
    rw p.1 (
      names_left c.next_name.new.self,
      tt,
      takes_err _ _ _ _ _ _ _ _ _ _ _ _ _ _ _ _ _ _ _ _ (takes_next _ _ _ _ _ _ _ _ _ _ _ _ _ _ _ _ _ _ _ _ _ _ _ _ _ _ _ _
          c.loop-name.invariant.form c.loop-name.invariant.style c.in-Some.ensures c.bytes.ensures c.loop-name.invariant.took
          c.take-outcome.ensures.takes c.in_err-put.ensures.processed),
    )

pub returns-in_err-put-clause-sink : goal.returns-in_err-put-clause-sink
returns-in_err-put-clause-sink g c =
    let p = err_from_is_err_and c.from_residual.result c.from_residual.ensures.1 in
    let left = c.in_err-put.ensures.sink in
    rw p.1 (record { works = tt; kind = p.2 ∙ left.kind; cause = left.cause; stalled = tt; failed = λ is. left.failed is ∙ c.loop-name.invariant.stalled })

pub returns-clause-took : goal.returns-clause-took
returns-clause-took g c = (
  names_left c.loop-name.names,
  on_ok _ c.flush.result c.in_default.ensures,
  takes_flushed _ _ _ _ _ _ _ _ _ _ _ _ _ _ _ _ _ _ _ _ c.loop-name.invariant.took c.flush.ensures.bytes,
)
