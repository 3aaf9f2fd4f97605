use Rattle.std.proofs.Common.{List, ℕ, Bor, sym, subst}
use Rattle.std.proofs.lemmas.Result.{err_from_is_err_and}
use Rattle.life_base.specs.Writing.{WritesPrefix}
use Rattle.life_base.proofs.WritingLemmas.{prefix-grows, prefix-after, flat_map-split}
use Rattle.life_base.proofs.writing.write_texts.Goals as goal

pub returns-in_err-write_text-clause-text : goal.returns-in_err-write_text-clause-text
returns-in_err-write_text-clause-text g c =
    let text : Bor (List ℕ) → List ℕ = λ t. t.now in
    let far = prefix-after _ _ _ _ _ c.loop-text.invariant.written (prefix-grows _ _ _ _ c.in_err-write_text.ensures.text) in
    let p = err_from_is_err_and c.from_residual.result c.from_residual.ensures.1 in
    rw p.1 (subst (WritesPrefix _ _) (sym (flat_map-split text c.args.texts.now c.loop-text.text-index _ c.loop-text-test.true)) far)
