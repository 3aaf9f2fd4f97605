-- What the canonical texts of rules are like.
use Rattle.std.proofs.Common.{◌≡◌, ℕ, List, ◌∷◌, false, ap, sym, ◌∙◌, append_assoc, codes, Ok}
use Rattle.life_base.specs.Sets.{DigitSets}
use Rattle.life_base.specs.Rules.{rule_of, rule_text, rule_with_sets, is_bad_text, digits_of, IsLifeRule, RuleTextsTellRules, RuleTextsAreVisible}
use Rattle.life_base.specs.declared.rule.Near.{Near}
use Rattle.life_base.specs.declared.rule.Near.TheVariants.{Moore, VonNeumann}
use Rattle.life_base.specs.declared.rule.Rule.TheVariants.{Life, Named}
use Rattle.life_base.proofs.ReadBack.{rules_read_back, four_visible}
use Rattle.life_base.proofs.RoundTrip.{text_is_rule, set_digits, set_short}
use Rattle.life_base.proofs.Results.{ok_same}
use Rattle.life_base.proofs.RuleValues.{named_is}

pub tell_rules : RuleTextsTellRules
tell_rules one other h k e = ok_same (rule_of (rule_text one)) one other (rules_read_back one h) (ap rule_of e ∙ rules_read_back other k)

name_visible : (name : List ℕ) → rule_of name ≡ Ok (Named name) → is_bad_text name ≡ false
name_visible name h = let is = named_is name name h in ap is_bad_text (sym is.1) ∙ is.0

moore_visible : (v : DigitSets) → IsLifeRule (record { sets = v; near = Moore }) → is_bad_text (rule_text (rule_with_sets Moore v)) ≡ false
moore_visible v h =
    ap (λ (t : List ℕ). is_bad_text (66 ∷ t)) (append_assoc (digits_of v.births) (codes "/S") (digits_of v.survivals))
    ∙ text_is_rule (digits_of v.births) (digits_of v.survivals) (set_digits v.births h.births) (set_digits v.survivals h.survivals)
    (set_short v.births h.births) (set_short v.survivals h.survivals)

life_visible : (v : DigitSets) (near : Near) → IsLifeRule (record { sets = v; near = near }) → is_bad_text (rule_text (rule_with_sets near v)) ≡ false
life_visible v Moore h = moore_visible v h
life_visible v VonNeumann h = four_visible v h

pub texts_visible : RuleTextsAreVisible
texts_visible (Life rule) h = life_visible rule.sets rule.near h
texts_visible (Named name) h = name_visible name h
