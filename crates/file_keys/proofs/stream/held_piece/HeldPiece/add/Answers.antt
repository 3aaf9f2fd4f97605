use Rattle.std.proofs.Common.{◌∙◌, ◌++◌, ℕ, List, Bor, ap, ap₂, refl, rules, sym}
use Rattle.file_keys.specs.declared.stream.held_piece.HeldPiece.{HeldPiece}
use Rattle.file_keys.proofs.StreamLemmas.{holds_all, holds_lacking, holds_long, holds_same, of_ok}
use Rattle.file_keys.proofs.stream.held_piece.HeldPiece.add.Goals as goal
use Rattle.file_keys.proofs.stream.held_piece.HeldPiece.add.Goals.{then-is_empty-via-then-is_empty, then-is_empty-via-else-is_empty+then-self, then-more-space, else-more-space}

pub returns-then-is_empty : goal.returns-then-is_empty
returns-then-is_empty c = λ piece holds. elim c.then-is_empty.branch [
  | then-is_empty-via-then-is_empty w ↦ holds_same _ piece c.args.more.now (search rules) holds
  | then-is_empty-via-else-is_empty+then-self w ↦
      holds_lacking c.args.self.now c.args.self.now piece c.args.more.now c.requires (search rules) w.if-self.true holds
]

pub returns-then-is_err : goal.returns-then-is_err
returns-then-is_err c = λ piece holds. holds_lacking c.args.self.now _ piece c.args.more.now c.requires (search rules) refl holds

pub returns-else-is_err : goal.returns-else-is_err
returns-else-is_err c = λ piece holds.
    let added = of_ok _ c.append.result (sym c.is_err.ensures.value ∙ c.if-is_err.false) c.append.ensures.ok in
    elim c.if-more-space.branch [
      | then-more-space w ↦
          holds_long c.args.self.now _ piece c.args.more.now c.saturating_sub-space.result c.requires (search rules) c.if-self.false
          (ap (λ (h : HeldPiece). h.lacks_memory) w.self-is ∙ c.if-self.false) holds (search rules) (search rules)
          (added ∙ ap₂ (λ (h : HeldPiece) (k : Bor (List ℕ)). h.bytes.items ++ k.now) w.self-is w.kept-is) (ap (λ (h : HeldPiece). h.is_long) w.self-is)
      | else-more-space w ↦
          holds_all c.args.self.now _ piece c.args.more.now c.saturating_sub-space.result c.requires (search rules) c.if-self.false
          (ap (λ (h : HeldPiece). h.lacks_memory) w.self-is ∙ c.if-self.false) holds (search rules) (search rules)
          (added ∙ ap₂ (λ (h : HeldPiece) (k : Bor (List ℕ)). h.bytes.items ++ k.now) w.self-is w.kept-is) (ap (λ (h : HeldPiece). h.is_long) w.self-is)
    ]
