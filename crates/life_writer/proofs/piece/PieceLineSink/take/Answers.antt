use Rattle.std.proofs.Common.{◌∙◌}
use Rattle.std.proofs.lemmas.Result.{err_from_is_err_and}
use Rattle.life_writer.specs.PieceLaws.{piece-takes, piece-breaks}
use Rattle.life_writer.proofs.piece.PieceLineSink.take.Goals as goal

pub returns-in_err-self-clause-broke : goal.returns-in_err-self-clause-broke
returns-in_err-self-clause-broke g c =
    let p = err_from_is_err_and c.from_residual.result c.from_residual.ensures.1 in
    rw p.1 (λ start lines more took. record {
      prefix = piece-breaks _ _ _ _ lines took.text _ more c.in_err-self.ensures.prefix;
      stalled = λ failed. c.in_err-self.ensures.sink.failed failed ∙ took.stalled;
    })

pub returns-clause-took : goal.returns-clause-took
returns-clause-took g c start lines took = record {
  text = piece-takes _ _ _ _ lines took.text _ _ c.args.line.now c.in_ok-self.ensures.part;
  stalled = c.in_ok-self.ensures.sink.stalled ∙ took.stalled;
}
