-- The text of a rule is short, and of visible bytes alone.
use Rattle.std.proofs.Common.{◌≡◌, ℕ, List, [], ◌∷◌, true, false, cond, not, refl, ap, arith, ◌==◌}
use Rattle.std.specs.List.{list_all}
use Rattle.std.proofs.lemmas.Bool.Decides.{nat_tests}
use Rattle.std.proofs.lemmas.Bool.{and_parts}
use Rattle.life_base.specs.Text.{is_whitespace, trim_start}
use Rattle.life_base.specs.Rules.{rule_text, IsRule}
use Rattle.life_base.specs.declared.rule.Rule.{Rule}
use Rattle.life_base.proofs.NamesRead.{all_pass, good_text, IsGoodText}
use Rattle.life_base.proofs.RoundTrip.{visible, visible_no_feed}
use Rattle.life_base.proofs.RuleTexts.{texts_visible}
use Rattle.life_rle.proofs.ReadBack.{is_one_line}

pub rule_text-is : (rule : Rule) → IsRule rule → IsGoodText (rule_text rule)
rule_text-is rule h = good_text (rule_text rule) (texts_visible rule h)

-- ---- visible bytes are no whitespace and no line feed

visible-solid : (b : ℕ) → visible b ≡ true → is_whitespace b ≡ false
visible-solid b h = grind (arith, nat_tests)

pub visible-one_line : (text : List ℕ) → list_all visible text ≡ true → is_one_line text ≡ true
visible-one_line text h = all_pass visible (λ b. not (b == 10)) visible_no_feed text h

pub visible-bare : (text : List ℕ) → list_all visible text ≡ true → trim_start text ≡ text
visible-bare [] h = refl
visible-bare (b ∷ text) h = ap (λ t. cond t (trim_start text) (b ∷ text)) (visible-solid b (and_parts (visible b) (list_all visible text) h).0)
