use Rattle.std.proofs.Common.{◌≡◌, ◌⊎◌, inl, inr, [], List, length, refl, ap, arith}
use Rattle.std.proofs.lemmas.List.{nil_from_length}
use Rattle.life_strip.specs.declared.blocks.Block.{Block}
use Rattle.life_strip.specs.declared.spans.Span.{Span}
use Rattle.life_strip.proofs.row.Row.widen.Goals as goal

-- a row that has blocks has no spans
no_spans : (blocks : List Block) (spans : List Span) → (blocks ≡ []) ⊎ (spans ≡ []) → ¬ (length blocks ≡ 0) → spans ≡ []
no_spans blocks spans (inl none) some = absurd (some (ap length none))
no_spans blocks spans (inr none) some = none

pub make_spans-requires-clause-none : goal.make_spans-requires-clause-none
make_spans-requires-clause-none g c =
    no_spans c.args.self.now.blocks.items c.args.self.now.spans.items c.requires.one
    (λ e. grind (arith, c.is_empty.ensures, c.if-is_empty.false, e))

pub returns-then-is_empty-clause-wide : goal.returns-then-is_empty-clause-wide
returns-then-is_empty-clause-wide g c = record {
  row = c.requires;
  blocks = nil_from_length c.args.self.now.blocks.items (grind (arith, c.is_empty.ensures, c.if-is_empty.true));
  before = λ n h. h;
  states = λ column. refl;
}
