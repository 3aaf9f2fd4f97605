-- A pattern in the words of the claims that is one of the layers; and what shifts and turns make of both.
use Rattle.std.proofs.Common.{◌≡◌, ℕ, List, Bool, true, false, refl, ap, ap₂, ◌∙◌, sym, ℤ, pos, negsuc, ◌+ℤ◌, if◌then◌else◌}
use Rattle.life_base.specs.Rules.{IsRule}
use Rattle.life_pattern.specs.Universe.{Universe}
use Rattle.life_forms.specs.Forms.{IsShift as LayerShift, IsTurnedShift as LayerTurnedShift}
use Rattle.life_forms.specs.Turns.{turn_of}
use Rattle.life_forms.specs.Turns as layer
use Rattle.life_quad.specs.declared.turning.Turn.{Turn}
use Rattle.claims.specs.Pattern.{Pattern}
use Rattle.claims.proofs.RuleLaw.{rule_in}
use Rattle.claims.proofs.RuleBack.{rules_are}
use Rattle.theorems.proofs.FileLaw.{Agrees}
use Rattle.program_theorems.specs.Forms.{IsClaimedShift, IsClaimedTurnedShift, claimed_coordinate, claimed_image}

-- the pattern is that of the layer
pub record Says (p : Pattern) (u : Universe) : Type 0 where
  pub rule : p.rule ≡ rule_in u.rule
  pub generation : p.generation ≡ u.generation
  pub cells : (x y : ℤ) → p.cell x y ≡ u.cell x y

pub said : (bytes : List ℕ) (u : Universe) (p : Agrees bytes u) → Says p.pattern u
said bytes u p = record { rule = p.rule; generation = p.generation; cells = p.cells }

-- ---- turns and shifts

counted_is : (b : Bool) (x : ℤ) → claimed_coordinate b x ≡ layer.counted_coordinate b x
counted_is true (pos n) = refl
counted_is true (negsuc n) = refl
counted_is false x = refl

pub image_says : (p : Pattern) (u : Universe) (turn : Turn) → Says p u → Says (claimed_image turn.exchange turn.columns turn.rows p) (layer.image turn u)
image_says p u turn s = record {
  rule = s.rule;
  generation = s.generation;
  cells = λ x y.
      ap₂ p.cell (counted_is turn.columns (if turn.exchange then y else x)) (counted_is turn.rows (if turn.exchange then x else y))
      ∙ s.cells (layer.turned_column turn x y) (layer.turned_row turn x y);
}

pub shift_to : (p q : Pattern) (u v : Universe) → Says p u → Says q v → LayerShift u v → IsClaimedShift p q
shift_to p q u v a b s = (
  a.rule ∙ ap rule_in s.rule ∙ sym b.rule,
  a.generation ∙ s.generation ∙ sym b.generation,
  (s.columns, s.rows, λ x y. b.cells (x +ℤ s.columns) (y +ℤ s.rows) ∙ s.cells x y ∙ sym (a.cells x y)),
)

pub shift_from : (p q : Pattern) (u v : Universe) → IsRule u.rule → IsRule v.rule → Says p u → Says q v → IsClaimedShift p q → LayerShift u v
shift_from p q u v one two a b (rule, generation, (columns, rows, cells)) = record {
  rule = rules_are u.rule v.rule one two (sym a.rule ∙ rule ∙ b.rule);
  generation = sym a.generation ∙ generation ∙ b.generation;
  columns = columns;
  rows = rows;
  cells = λ x y. sym (b.cells (x +ℤ columns) (y +ℤ rows)) ∙ cells x y ∙ a.cells x y;
}

pub turned_to : (p q : Pattern) (u v : Universe) → Says p u → Says q v → LayerTurnedShift u v → IsClaimedTurnedShift p q
turned_to p q u v a b s =
    let t = s.turn in (
      t.exchange,
      t.columns,
      t.rows,
      shift_to (claimed_image t.exchange t.columns t.rows p) q (layer.image t u) v (image_says p u t a) b s.shift,
    )

pub turned_from : (p q : Pattern) (u v : Universe) → IsRule u.rule → IsRule v.rule → Says p u → Says q v → IsClaimedTurnedShift p q → LayerTurnedShift u v
turned_from p q u v one two a b s =
    let t = turn_of s.0 s.1 s.2 in
    record { turn = t; shift = shift_from (claimed_image s.0 s.1 s.2 p) q (layer.image t u) v one two (image_says p u t a) b s.3 }
