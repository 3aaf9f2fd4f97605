use Rattle.std.proofs.Common.{◌∙◌, rules, sym}
use Rattle.file_keys.proofs.StreamLemmas.{holds_none, is_not, none_held, not_is, of_none}
use Rattle.file_keys.proofs.stream.held_piece.HeldPiece.is_empty.Goals as goal

pub returns-then-is_empty : goal.returns-then-is_empty
returns-then-is_empty c = λ piece holds. (
  λ whole. holds_none c.args.self.now piece holds (not_is _ whole) (search rules),
  λ is. is_not _ (none_held c.args.self.now piece holds is).0,
)

pub returns-else-is_empty : goal.returns-else-is_empty
returns-else-is_empty c = λ piece holds. (
  λ bad. absurd (let no = sym bad ∙ c.if-is_empty.false in cc),
  λ is. let none = of_none c.args.self.now piece holds is in search (rules, none),
)
