use Rattle.std.proofs.Common.{sym, subst}
use Rattle.std.proofs.lemmas.Result.{err_from_is_err_and}
use Rattle.life_base.specs.Writing.{WritesPrefix}
use Rattle.life_base.proofs.WritingLemmas.{prefix-grows, prefix-after, flat_map-split}
use Rattle.file_keys.specs.Json.{json_byte}
use Rattle.file_keys.proofs.json.write_string.Goals as goal

pub returns-in_err-write_byte-clause-text : goal.returns-in_err-write_byte-clause-text
returns-in_err-write_byte-clause-text g c =
    let far = prefix-after _ _ _ _ _ c.loop-byte.invariant.written (prefix-grows _ _ _ _ c.in_err-write_byte.ensures.text) in
    let p = err_from_is_err_and c.from_residual.result c.from_residual.ensures.1 in
    rw p.1 (subst (WritesPrefix _ _) (sym (flat_map-split json_byte c.args.text.now c.loop-byte.byte-index _ c.loop-byte-test.true)) far)
