use Rattle.std.proofs.Common.{inl, inr}
use Rattle.std.proofs.lemmas.Result.{IfOk-weaker, IfErr-weaker}
use Rattle.life_canon.proofs.CallFacts.{canonical-text, least-text}
use Rattle.life_pattern.proofs.Fits.{read-fits}
use Rattle.life_reader.proofs.Stored.{no-space, reads-err, reads-still}
use Rattle.life_canon.proofs.texts.canon.Goals as goal

pub text_of-requires : goal.text_of-requires
text_of-requires c = read-fits c.args.bytes.now _ _ c.in_ok-pattern.ensures.pattern

pub returns-clause-text : goal.returns-clause-text
returns-clause-text c = IfOk-weaker c.text_of.result _ _ (λ text e. canonical-text c.args.bytes.now _ _ c.in_ok-pattern.ensures.pattern text.items e)
    c.text_of.ensures.text

pub returns-clause-least : goal.returns-clause-least
returns-clause-least c = IfOk-weaker c.text_of.result _ _ (λ text e. least-text c.args.bytes.now _ _ c.in_ok-pattern.ensures.pattern text.items e)
    c.text_of.ensures.text

pub returns-clause-fault : goal.returns-clause-fault
returns-clause-fault c = IfErr-weaker c.text_of.result _ _ (λ fault e. inr (inl e)) c.text_of.ensures.memory

pub returns-in_err-pattern-clause-reads : goal.returns-in_err-pattern-clause-reads
returns-in_err-pattern-clause-reads c = reads-err c.from_residual.ensures.1 c.in_err-pattern.ensures.reads

pub returns-clause-reads : goal.returns-clause-reads
returns-clause-reads c = reads-still c.in_ok-pattern.ensures.reads (no-space c.text_of.ensures.memory)
