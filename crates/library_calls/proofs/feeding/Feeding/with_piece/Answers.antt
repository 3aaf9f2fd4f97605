use Rattle.std.proofs.Common.{ℕ, List, ◌++◌, ◌∙◌, ◌⊎◌, [], ap, append_assoc, sym, subst}
use Rattle.std.proofs.lemmas.Result.{err_from_is_err_and}
use Rattle.file_hints.specs.Damage.{warning_of}
use Rattle.life_base.specs.declared.cell.TheConstants.{MAX_LEVEL}
use Rattle.life_base.specs.declared.fault.Fault.{Fault}
use Rattle.life_reader.specs.Feeding.{RefusesPrefix}
use Rattle.life_reader.specs.Space.{HoldsPrefix}
use Rattle.life_pattern.specs.Store.{IsShortageOf}
use Rattle.library_calls.specs.Outputs.{Piecewise, RefusesPiece}
use Rattle.library_calls.proofs.NeedFacts.{if-err, on-ok, piece-low}
use Rattle.library_calls.proofs.StreamFacts.{piece-fault}
use Rattle.library_calls.proofs.feeding.Feeding.with_piece.Goals as goal

pub returns-in_err-consumed-clause-fault : goal.returns-in_err-consumed-clause-fault
returns-in_err-consumed-clause-fault c =
    let p = err_from_is_err_and c.from_residual.result c.from_residual.ensures.1 in
    let before = c.self.inside.reader.bytes in
    let bytes = before ++ c.args.piece.now in
    let store = c.feed-consumed.new.store in
    let fault = c.in_err-consumed.field-0.0 in
    let only = (c.prefixes_hold.ensures before c.args.piece.now [] c.self.inside.store store c.self.invariant.2).0 c.feed-consumed.ensures.feeds.adds in
    rw (p.1, p.2) (λ limit is. subst (λ (v : Piecewise). RefusesPiece limit (v.bytes ++ c.args.piece.now) fault) c.self.view_is
    (piece-fault limit bytes store fault (c.feed-consumed.ensures.feeds.keeps.limit ∙ ap (λ (v : Piecewise). v.space) c.self.view_is ∙ is)
    (if-err (λ f. IsShortageOf store f ⊎ RefusesPrefix MAX_LEVEL bytes f) c.feed-consumed.result fault c.in_err-consumed.was
    (c.feed-consumed.ensures.fault c.self.invariant.0))
    (piece-low before c.args.piece.now c.self.inside.store store c.feed-consumed.result fault c.in_err-consumed.was c.self.invariant.2 only
    (record { distinct = c.len.ensures.distinct; live = λ t there. (c.len.ensures.only t there).0 }) c.feed-consumed.ensures.feeds)))

pub invariant_of-result : goal.invariant_of-result
invariant_of-result c =
    let was = c.in_ok-consumed.was in (
      (on-ok c.feed-consumed.result _ was c.feed-consumed.ensures.open).1,
      on-ok
          c.feed-consumed.result _ was c.feed-consumed.ensures.stands,
      subst
          (λ (bytes : List ℕ). HoldsPrefix [] bytes c.feed-consumed.new.store) (sym (on-ok c.feed-consumed.result _ was c.feed-consumed.ensures.bytes))
          ((c.prefixes_hold.ensures c.self.inside.reader.bytes c.args.piece.now [] c.self.inside.store c.feed-consumed.new.store c.self.invariant.2).0
          c.feed-consumed.ensures.feeds.adds),
      λ (rest : List ℕ). c.after.ensures rest ∙ c.self.invariant.3 (c.args.piece.now ++ rest)
          ∙ ap warning_of (sym (append_assoc c.self.inside.reader.bytes c.args.piece.now rest)
          ∙ ap (λ (bytes : List ℕ). bytes ++ rest) (sym (on-ok c.feed-consumed.result _ was c.feed-consumed.ensures.bytes))),
    )

pub returns-clause-prefix : goal.returns-clause-prefix
returns-clause-prefix c =
    let was = c.in_ok-consumed.was in
    subst (λ (v : Piecewise). (fault : Fault) → ¬ RefusesPrefix MAX_LEVEL (v.bytes ++ c.args.piece.now) fault) c.self.view_is (λ fault refuses.
    on-ok c.feed-consumed.result _ was c.feed-consumed.ensures.prefix fault (rw (on-ok c.feed-consumed.result _ was c.feed-consumed.ensures.bytes) refuses))
