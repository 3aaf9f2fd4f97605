use Rattle.std.proofs.lemmas.Result.{IfOk-weaker}
use Rattle.life_reader.proofs.Stored.{no-space, reads-err, reads-still}
use Rattle.life_canon.proofs.summary.show.Goals as goal

pub five_lines_of-requires : goal.five_lines_of-requires
five_lines_of-requires c = (c.args.bytes.now, c.in_ok-pattern.ensures.pattern)

pub returns-clause-text : goal.returns-clause-text
returns-clause-text c = IfOk-weaker c.five_lines_of.result _ _ (λ text h. h c.args.bytes.now c.in_ok-pattern.ensures.pattern) c.five_lines_of.ensures.text

pub returns-in_err-pattern-clause-reads : goal.returns-in_err-pattern-clause-reads
returns-in_err-pattern-clause-reads c = reads-err c.from_residual.ensures.1 c.in_err-pattern.ensures.reads

pub returns-clause-reads : goal.returns-clause-reads
returns-clause-reads c = reads-still c.in_ok-pattern.ensures.reads (no-space c.five_lines_of.ensures.memory)
