use Rattle.std.proofs.Common.{◌∙◌, ◌++◌, ◌-◌, ap, sym, drop, take, length}
use Rattle.std.proofs.lemmas.Result.{err_from_is_err_and}
use Rattle.life_base.proofs.LineEnds.{all_behind}
use Rattle.file_keys.specs.Keys.{escaped_name}
use Rattle.file_keys.proofs.KeyLines.{written_broken, written_further}
use Rattle.file_keys.proofs.keys.lines.write_escaped.Goals as goal

pub returns-in_err-write_text-clause-text : goal.returns-in_err-write_text-clause-text
returns-in_err-write_text-clause-text g c =
    let p = err_from_is_err_and c.from_residual.result c.from_residual.ensures.1 in
    rw p.1 (written_broken _ _ _ c.args.name.now c.loop-rest.rest.now c.first_piece-count.result.0.now
    (drop c.first_piece-count.result.1 c.loop-rest.rest.now) c.loop-rest.invariant.written
    c.first_piece-count.ensures.piece c.in_err-write_text.ensures.text)

pub loop-rest-preserved : goal.loop-rest-preserved
loop-rest-preserved g c =
    let rest = c.loop-rest.rest.now in
    let piece = c.first_piece-count.result.0.now in
    record {
      works = c.in_ok-write_text.ensures.sink.works;
      stalled = c.in_ok-write_text.ensures.sink.stalled ∙ c.loop-rest.invariant.stalled;
      written = written_further _ _ _ c.args.name.now rest piece
          (take (length rest - c.first_piece-count.result.1) (drop c.first_piece-count.result.1 rest)) c.loop-rest.invariant.written
          (c.first_piece-count.ensures.piece ∙ ap (λ l. piece ++ escaped_name l) (sym (all_behind rest c.first_piece-count.result.1)))
          c.in_ok-write_text.ensures.text;
    }
