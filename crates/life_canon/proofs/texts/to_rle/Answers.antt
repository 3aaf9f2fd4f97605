use Rattle.std.proofs.lemmas.Result.{IfOk-weaker}
use Rattle.life_canon.proofs.CallFacts.{rle-fault}
use Rattle.life_reader.proofs.Stored.{not-stored, reads-err, reads-still}
use Rattle.life_canon.proofs.texts.to_rle.Goals as goal

pub rle_of-requires : goal.rle_of-requires
rle_of-requires c = (c.args.bytes.now, c.in_ok-pattern.ensures.pattern)

pub returns-clause-text : goal.returns-clause-text
returns-clause-text c = IfOk-weaker c.rle_of.result _ _ (λ text h. h c.args.bytes.now c.in_ok-pattern.ensures.pattern) c.rle_of.ensures.text

pub returns-clause-same : goal.returns-clause-same
returns-clause-same c = IfOk-weaker c.rle_of.result _ _ (λ text h. h c.args.bytes.now c.in_ok-pattern.ensures.pattern) c.rle_of.ensures.same

pub returns-clause-fault : goal.returns-clause-fault
returns-clause-fault c = rle-fault c.args.bytes.now _ _ c.in_ok-pattern.ensures.pattern c.rle_of.result c.rle_of.ensures.fault

pub returns-in_err-pattern-clause-reads : goal.returns-in_err-pattern-clause-reads
returns-in_err-pattern-clause-reads c = reads-err c.from_residual.ensures.1 c.in_err-pattern.ensures.reads

pub returns-clause-reads : goal.returns-clause-reads
returns-clause-reads c = reads-still c.in_ok-pattern.ensures.reads (not-stored _ c.rle_of.ensures.fault)
