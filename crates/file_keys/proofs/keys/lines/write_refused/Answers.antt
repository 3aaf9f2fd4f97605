use Rattle.std.proofs.Common.{◌++◌, codes, subst, append_assoc}
use Rattle.std.proofs.lemmas.Result.{err_from_is_err_and}
use Rattle.life_base.proofs.WritingLemmas.{prefix-grows}
use Rattle.life_base.specs.Writing.{WritesPrefix, WritesText}
use Rattle.file_keys.specs.Keys.{escaped_name, fault_text}
use Rattle.file_keys.proofs.KeyLines.{then_text}
use Rattle.file_keys.proofs.keys.lines.write_refused.Goals as goal

pub returns-in_err-write_name-clause-text : goal.returns-in_err-write_name-clause-text
returns-in_err-write_name-clause-text g c =
    let p = err_from_is_err_and c.from_residual.result c.from_residual.ensures.1 in
    rw p.1 (subst (WritesPrefix _ _) (append_assoc (escaped_name c.args.name.now) (codes ": ") (fault_text c.args.refusal.now))
    (prefix-grows _ _ _ (fault_text c.args.refusal.now) c.in_err-write_name.ensures.text))

pub returns-clause-text : goal.returns-clause-text
returns-clause-text g c =
    subst (λ text. WritesText (g.E.Sink.contents c.args.err.now) (g.E.Sink.contents c.write_fault.new.err) text c.write_fault.result)
    (append_assoc (escaped_name c.args.name.now) (codes ": ") (fault_text c.args.refusal.now))
    (then_text _ _ _ (escaped_name c.args.name.now ++ codes ": ") (fault_text c.args.refusal.now)
    c.write_fault.result c.in_ok-write_name.ensures.text c.write_fault.ensures.text)
