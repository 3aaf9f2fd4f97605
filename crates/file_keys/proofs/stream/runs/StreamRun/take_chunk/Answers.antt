use Rattle.std.proofs.Common.{◌∙◌, ◌∷◌, ◌++◌, [], arith, refl, take}
use Rattle.std.proofs.lemmas.Result.{err_from_is_err_and}
use Rattle.file_keys.proofs.StreamRunLemmas.{no_nul, nul_at, pieces_all, pieces_err, pieces_next, pieces_none, split_next, within_next}
use Rattle.file_keys.proofs.stream.runs.StreamRun.take_chunk.Goals as goal

pub loop-at-init : goal.loop-at-init
loop-at-init g c = record {
  can = c.requires.can;
  form = refl;
  style = refl;
  stalled = refl;
  within = omega arith;
  took = λ begun holds. ([], begun, holds, refl, pieces_none _ _ _ _ c.args.self.now.form _ begun _ _ _ c.requires.can.hears);
}

pub add-requires : goal.add-requires
add-requires g c =
    let found = rw c.in-Some.is at c.memchr.ensures in
    (nul_at c.loop-at.rest.now c.in-Some.at found.0.high found.0.before found.1).0

pub loop-at-preserved : goal.loop-at-preserved
loop-at-preserved g c =
    let found = rw c.in-Some.is at c.memchr.ensures in
    let nul = nul_at c.loop-at.rest.now c.in-Some.at found.0.high found.0.before found.1 in
    let before = c.loop-at.invariant in record {
      can = c.in_ok-end_piece.ensures.can;
      form = c.in_ok-end_piece.ensures.form ∙ before.form;
      style = c.in_ok-end_piece.ensures.style ∙ before.style;
      stalled = c.in_ok-end_piece.ensures.sink.stalled ∙ before.stalled;
      within = within_next c.loop-at.rest.now c.in-Some.at _ _ _ found.0.high c.in_ok-end_piece.ensures.count before.within;
      took = λ begun holds.
          let (prefix, left, own, split, took) = before.took begun holds in (
            prefix ++ (take c.in-Some.at c.loop-at.rest.now ++ 0 ∷ []),
            [],
            c.in_ok-end_piece.ensures.begun,
            split_next c.args.chunk.now prefix c.loop-at.rest.now c.in-Some.at split nul.1,
            pieces_next _ _ _ _ c.args.self.now.form _ _ _ _ begun prefix left (take c.in-Some.at c.loop-at.rest.now) _ _ _ _ _ _ _ _ _ _ _
                before.form c.in_ok-end_piece.ensures.count refl before.style own.no_end nul.0 took
                (c.in_ok-end_piece.ensures.entry (left ++ take c.in-Some.at c.loop-at.rest.now) (c.add.ensures left own)),
          );
    }

pub returns-in_err-end_piece-clause-took : goal.returns-in_err-end_piece-clause-took
returns-in_err-end_piece-clause-took g c =
    let p = err_from_is_err_and c.from_residual.result c.from_residual.ensures.1 in
    let found = rw c.in-Some.is at c.memchr.ensures in
    let nul = nul_at c.loop-at.rest.now c.in-Some.at found.0.high found.0.before found.1 in
    let before = c.loop-at.invariant in
    rw p.1 (λ begun holds.
    let (prefix, left, own, split, took) = before.took begun holds in
    let next = pieces_next _ _ _ _ c.args.self.now.form _ _ _ _ begun prefix left (take c.in-Some.at c.loop-at.rest.now) _ _ _ _ _ _ _ _ _ _ _
    before.form c.in_err-end_piece.ensures.count refl before.style own.no_end nul.0 took
    (c.in_err-end_piece.ensures.entry (left ++ take c.in-Some.at c.loop-at.rest.now) (c.add.ensures left own)) in (
      _,
      tt,
      pieces_all _ _ _ _ _ _ _ begun _ [] _ c.args.chunk.now _ _ _ _ _ _ _ (split_next c.args.chunk.now prefix c.loop-at.rest.now c.in-Some.at split nul.1)
          (pieces_err _ _ _ _ _ _ _ begun _ [] _ _ _ _ _ _ _ _ next),
    ))

pub returns-in_err-end_piece-clause-sink : goal.returns-in_err-end_piece-clause-sink
returns-in_err-end_piece-clause-sink g c =
    let p = err_from_is_err_and c.from_residual.result c.from_residual.ensures.1 in
    let left = c.in_err-end_piece.ensures.sink in
    rw p.1 (record {
      works = tt;
      kind = p.2 ∙ left.kind;
      cause = left.cause;
      stalled = tt;
      failed = λ is. left.failed is ∙ c.loop-at.invariant.stalled;
    })

pub add-requires-2 : goal.add-requires-2
add-requires-2 g c =
    let found = rw c.in_default.is at c.memchr.ensures in
    no_nul c.loop-at.rest.now found

pub returns-clause-took : goal.returns-clause-took
returns-clause-took g c = λ begun holds.
    let (prefix, left, own, split, took) = c.loop-at.invariant.took begun holds in (
      left ++ c.loop-at.rest.now,
      c.add-2.ensures left own,
      pieces_all _ _ _ _ _ _ _ begun prefix left _ c.args.chunk.now _ _ _ _ _ _ _ split took,
    )
