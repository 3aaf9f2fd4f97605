use Rattle.std.proofs.Common.{sym, subst}
use Rattle.std.proofs.lemmas.Result.{err_from_is_err_and}
use Rattle.life_base.specs.Writing.{WritesPrefix}
use Rattle.life_base.proofs.WritingLemmas.{prefix-grows, prefix-after, flat_map-split}
use Rattle.file_keys.specs.Pieces.{piece_text}
use Rattle.file_keys.proofs.json.write_pieces.Goals as goal

pub returns-in_err-write_piece-clause-text : goal.returns-in_err-write_piece-clause-text
returns-in_err-write_piece-clause-text g c =
    let far = prefix-after _ _ _ _ _ c.loop-piece.invariant.written (prefix-grows _ _ _ _ c.in_err-write_piece.ensures.text) in
    let p = err_from_is_err_and c.from_residual.result c.from_residual.ensures.1 in
    rw p.1 (subst (WritesPrefix _ _) (sym (flat_map-split piece_text c.args.pieces.now c.loop-piece.piece-index _ c.loop-piece-test.true)) far)
