use Rattle.std.proofs.Common.{sym, subst}
use Rattle.std.proofs.lemmas.Result.{err_from_is_err_and}
use Rattle.life_base.specs.Writing.{WritesPrefix, WritesText}
use Rattle.life_base.proofs.WritingLemmas.{prefix-grows}
use Rattle.file_keys.specs.Json.{json_text}
use Rattle.file_keys.proofs.JsonLemmas.{text_both}
use Rattle.file_keys.proofs.json.write_both.Goals as goal
use Rattle.file_keys.proofs.KeyLines.{then_text}

pub returns-in_err-write_string-clause-text : goal.returns-in_err-write_string-clause-text
returns-in_err-write_string-clause-text g c =
    let p = err_from_is_err_and c.from_residual.result c.from_residual.ensures.1 in
    rw p.1 (subst (WritesPrefix _ _) (sym (text_both c.args.first.now c.args.second.now))
    (prefix-grows _ _ _ (json_text c.args.second.now) c.in_err-write_string.ensures.text))

pub returns-clause-text : goal.returns-clause-text
returns-clause-text g c =
    subst (λ text. WritesText (g.W.Sink.contents c.args.out.now) (g.W.Sink.contents c.write_string-2.new.out) text c.write_string-2.result)
    (sym (text_both c.args.first.now c.args.second.now))
    (then_text _ _ _ (json_text c.args.first.now) (json_text c.args.second.now) c.write_string-2.result c.in_ok-write_string.ensures.text
    c.write_string-2.ensures.text)
