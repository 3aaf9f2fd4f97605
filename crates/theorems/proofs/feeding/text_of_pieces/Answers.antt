use Rattle.std.proofs.lemmas.Result.{err_from_is_err_and}
use Rattle.theorems.proofs.RefusalLaw.{map_err}
use Rattle.std.proofs.Common.{inr, ◌+◌, ◌≡◌, ◌∙◌, ◌++◌, ℕ, List, sym, ap, subst, take}
use Rattle.life_writer.specs.Texts.{IsCanonical}
use Rattle.theorems.specs.Joined.{all_bytes}
use Rattle.theorems.proofs.FileLaw.{map_ok}
use Rattle.theorems.proofs.PieceLaw.{joined_more, read_text, joined_all, refused_so_far, refused_whole}
use Rattle.theorems.proofs.feeding.text_of_pieces.Goals as goal

pub loop-piece-preserved : goal.loop-piece-preserved
loop-piece-preserved c =
    let i = c.loop-piece.piece-index in
    let pieces = c.args.pieces.now in
    let e = c.in_ok-feed.ensures in (
      e.bytes ∙ ap (λ (t : List ℕ). t ++ c.deref.result.now) c.loop-piece.invariant.0
          ∙ ap (λ (t : List ℕ). all_bytes (take i pieces) ++ t) (c.deref.ensures.value ∙ ap (λ v. v.items) c.piece-item.is)
          ∙ sym (joined_more pieces i c.piece-item.result c.loop-piece-test.true),
      e.open.1,
      e.stands,
    )

pub text_of-requires : goal.text_of-requires
text_of-requires c = (c.patterns_fit.ensures _ _ _ c.in_ok-pattern.ensures.pattern.1).0

pub returns-in_err-feed-clause-refused : goal.returns-in_err-feed-clause-refused
returns-in_err-feed-clause-refused c =
    let i = c.loop-piece.piece-index in
    let pieces = c.args.pieces.now in
    let p = err_from_is_err_and c.from_residual.result c.from_residual.ensures.1 in
    let prefix : c.loop-piece.reader.bytes ++ c.deref.result.now ≡ all_bytes (take (i + 1) pieces) =
    ap (λ (t : List ℕ). t ++ c.deref.result.now) c.loop-piece.invariant.0
    ∙ ap (λ (t : List ℕ). all_bytes (take i pieces) ++ t) (c.deref.ensures.value ∙ ap (λ v. v.items) c.piece-item.is)
    ∙ sym (joined_more pieces i c.piece-item.result c.loop-piece-test.true) in
    let answer = refused_so_far c.faults_stay.ensures pieces (i + 1) _ _ _ prefix (c.in_err-feed.ensures.fault c.loop-piece.invariant.1) in
    rw (p.1, p.2) answer

pub returns-in_err-pattern-clause-refused : goal.returns-in_err-pattern-clause-refused
returns-in_err-pattern-clause-refused c =
    let p = err_from_is_err_and c.from_residual-in_err-pattern.result c.from_residual-in_err-pattern.ensures.1 in
    let whole : c.loop-piece.reader.bytes ≡ all_bytes c.args.pieces.now =
    c.loop-piece.invariant.0 ∙ joined_all c.args.pieces.now c.loop-piece.piece-index c.loop-piece-test.false in
    let answer = refused_whole _ _ _ _ whole (c.in_err-pattern.ensures.fault c.loop-piece.invariant.1) in
    rw (p.1, p.2) answer

pub returns-clause-refused : goal.returns-clause-refused
returns-clause-refused c = map_err c.text_of.result (λ fault e. inr (inr e)) c.text_of.ensures.memory

pub returns-clause-text : goal.returns-clause-text
returns-clause-text c =
    let read = c.in_ok-pattern.ensures.pattern.1 in
    let whole : c.loop-piece.reader.bytes ≡ all_bytes c.args.pieces.now =
    c.loop-piece.invariant.0 ∙ joined_all c.args.pieces.now c.loop-piece.piece-index c.loop-piece-test.false in
    map_ok c.text_of.result
    (λ text e. subst (λ (b : List ℕ). IsCanonical 62 b text.items) whole
    (read_text c.files_are_on_plane.ensures c.patterns_fit.ensures c.texts_tell_universes.ensures _ _ _ text.items read e))
    c.text_of.ensures.text
