use Rattle.std.proofs.Common.{◌≡◌, ℕ, List, ◌++◌, [], ◌∷◌, sym, ap, ◌∙◌, refl}
use Rattle.life_base.proofs.Results.{error_is}
use Rattle.life_base.specs.declared.line_log.LineLog.{LineLog}
use Rattle.life_reader.specs.Taking.{IsOver, bytes_of}
use Rattle.life_reader.specs.declared.prefix.FilePrefix.{FilePrefix}
use Rattle.life_reader.proofs.PrefixFacts.{prefix-kept, prefix-over, prefix-along, last-feed, kept-or-refused, bytes-more, not-true}
use Rattle.life_reader.proofs.prefix.FilePrefix.end_piece.Goals as goal
use Rattle.life_reader.proofs.prefix.FilePrefix.end_piece.Goals.{then-not-is_over+in_ok-keep, else-not-is_over}

pub returns-in_err-keep-clause-fault : goal.returns-in_err-keep-clause-fault
returns-in_err-keep-clause-fault c =
    let n : IsOver c.args.self.now.progress → ⊥ = λ o. not-true c.is_over.result c.if-not-is_over.true (c.is_over.ensures.1 o) in
    rw (error_is c.from_residual.result c.from_residual.ensures.1)
    (kept-or-refused (bytes_of c.args.self.now.pieces.lines) c.args.self.now.kept.items c.args.rest.now c.args.self.now.ended
    c.args.self.now.progress c.in_err-keep.field-0.0 c.requires.prefix n
    (last-feed c.args.self.now.progress c.args.rest.now n c.requires.last) c.in_err-keep.ensures.fault)

pub returns-clause-prefix : goal.returns-clause-prefix
returns-clause-prefix c = elim c.if-not-is_over.branch [
  | then-not-is_over+in_ok-keep w ↦
      let n : IsOver c.args.self.now.progress → ⊥ = λ o. not-true c.is_over.result w.if-not-is_over.true (c.is_over.ensures.1 o) in
      let kept = w.in_ok-keep.ensures.kept in
      let pieces : c.if-not-is_over.self.pieces.lines ≡ c.args.self.now.pieces.lines =
      ap (λ (s : FilePrefix). s.pieces.lines) w.self-is ∙ ap (λ (l : LineLog). l.lines) w.keep.ensures.pieces in
      let bytes : bytes_of c.then-self.result.lines ≡ bytes_of c.args.self.now.pieces.lines ++ c.args.rest.now =
      ap bytes_of (c.then-self.ensures ∙ ap (λ (l : List (List ℕ)). l ++ c.args.rest.now ∷ []) pieces)
      ∙ bytes-more c.args.self.now.pieces.lines c.args.rest.now in
      prefix-along (sym bytes) (sym (ap (λ (s : FilePrefix). s.kept.items) w.self-is ∙ kept.0))
      (sym (ap (λ (s : FilePrefix). s.ended) w.self-is ∙ w.keep.ensures.count))
      (sym (ap (λ (s : FilePrefix). s.progress) w.self-is ∙ w.keep.ensures.progress))
      (prefix-kept (bytes_of c.args.self.now.pieces.lines) c.args.self.now.kept.items c.args.rest.now c.args.self.now.ended c.args.self.now.progress
      c.requires.prefix n
      (last-feed c.args.self.now.progress c.args.rest.now n c.requires.last) kept.1)
  | else-not-is_over w ↦
      let bytes : bytes_of c.then-self.result.lines ≡ bytes_of c.args.self.now.pieces.lines ++ c.args.rest.now =
      ap bytes_of (c.then-self.ensures ∙ ap (λ (l : List (List ℕ)). l ++ c.args.rest.now ∷ []) (ap (λ (s : FilePrefix). s.pieces.lines) w.self-is))
      ∙ bytes-more c.args.self.now.pieces.lines c.args.rest.now in
      prefix-along (sym bytes) (sym (ap (λ (s : FilePrefix). s.kept.items) w.self-is)) (sym (ap (λ (s : FilePrefix). s.ended) w.self-is))
      (sym (ap (λ (s : FilePrefix). s.progress) w.self-is))
      (prefix-over (bytes_of c.args.self.now.pieces.lines) c.args.self.now.kept.items c.args.rest.now c.args.self.now.ended c.args.self.now.progress
      c.requires.prefix (w.if-not-is_over.ensures.0 refl))
]
