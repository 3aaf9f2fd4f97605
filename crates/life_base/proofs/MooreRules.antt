-- What rule texts said where no neighbours but the eight were known.
use Rattle.std.proofs.Common.{◌≡◌, ℕ, List, Bool, true, false, cond, refl, ap, sym, subst, ◌∙◌, ◌⊎◌, inl, inr, ◌==◌, is_some, Option, Some, None, Ok, Err}
use Rattle.std.specs.List.{list_any}
use Rattle.life_base.proofs.NamesRead.{four_none}
use Rattle.life_base.specs.Sets.{DigitSets}
use Rattle.life_base.specs.Text.{trim}
use Rattle.life_base.specs.Rules.{rule_of, is_bad_text, has_digit, life_sets, four_sets, life_or_other, four_or_other, moore_or_other, other_rule, names_other_neighbours, rule_with_sets, CountsEight, MooreRulesStay}
use Rattle.life_base.specs.declared.kind.Kind.{Kind}
use Rattle.life_base.specs.declared.kind.Kind.TheVariants.{BadRule, BoundedGrid, UnsupportedRule, BirthOnZero}
use Rattle.life_base.specs.declared.rule.Near.TheVariants.{Moore, VonNeumann}
use Rattle.life_base.specs.declared.rule.Rule.{Rule}
use Rattle.life_base.specs.declared.rule.Rule.TheVariants.{Named}

eight : (sets : DigitSets) (rule : Rule) (v : Bool) → cond v (Err BirthOnZero) (Ok (rule_with_sets Moore sets)) ≡ Ok rule → CountsEight rule
eight sets rule true h = cc
eight sets rule false h = let same : rule_with_sets Moore sets ≡ rule = cc in subst CountsEight same refl

four : (sets : DigitSets) (rule : Rule) (v : Bool) → cond v (Err BirthOnZero) (Ok (rule_with_sets VonNeumann sets)) ≡ Ok rule → CountsEight rule → ⊥
four sets rule true h e = cc
four sets rule false h e =
    let same : rule_with_sets VonNeumann sets ≡ rule = cc in
    let near : VonNeumann ≡ Moore = subst CountsEight (sym same) e in
    cc

named : (word : List ℕ) (rule : Rule) (v w : Bool) → names_other_neighbours word ≡ v
    → cond v (Err UnsupportedRule) (cond w (Err UnsupportedRule) (Ok (Named word))) ≡ Ok rule → (names_other_neighbours word ≡ false) × CountsEight rule
named word rule true w e h = cc
named word rule false true e h = cc
named word rule false false e h = let same : Named word ≡ rule = cc in (e, subst CountsEight same tt)

-- ---- after the tests that are the same

stays : (word : List ℕ) (rule : Rule) (v w : Bool) (o : Option DigitSets)
    → cond v (Err BadRule) (cond w (Err BoundedGrid) (moore_or_other word o)) ≡ Ok rule
    → (cond v (Err BadRule) (cond w (Err BoundedGrid) (life_or_other word o)) ≡ Ok rule) × CountsEight rule
stays word rule true w o h = cc
stays word rule false true o h = cc
stays word rule false false (Some sets) h = (h, eight sets rule (has_digit sets.births 0) h)
stays word rule false false None h =
    let p = named word rule (names_other_neighbours word) (list_any (λ b. b == 47) word) refl h in
    (ap (four_or_other word) (four_none word p.0) ∙ h, p.1)

no-more : (word : List ℕ) (rule : Rule) (o : Option DigitSets) → four_or_other word o ≡ Ok rule → CountsEight rule → other_rule word ≡ Ok rule
no-more word rule None h e = h
no-more word rule (Some sets) h e = absurd (four sets rule (has_digit sets.births 0) h e)

was : (word : List ℕ) (rule : Rule) (v w : Bool) (o : Option DigitSets)
    → cond v (Err BadRule) (cond w (Err BoundedGrid) (life_or_other word o)) ≡ Ok rule → CountsEight rule
    → cond v (Err BadRule) (cond w (Err BoundedGrid) (moore_or_other word o)) ≡ Ok rule
was word rule true w o h e = h
was word rule false true o h e = h
was word rule false false (Some sets) h e = h
was word rule false false None h e = no-more word rule (four_sets word) h e

-- why a text with a letter of other neighbours was refused
lettered : (word : List ℕ) (sets : DigitSets) (kind : Kind) (v w : Bool) → names_other_neighbours word ≡ v → four_sets word ≡ Some sets
    → cond v (Err UnsupportedRule) (cond w (Err UnsupportedRule) (Ok (Named word))) ≡ Err kind → kind ≡ UnsupportedRule
lettered word sets kind true w e f h = cc
lettered word sets kind false w e f h = let none : four_sets word ≡ None = four_none word e in let both : None ≡ Some sets = sym none ∙ f in cc

still : (word : List ℕ) (kind : Kind) (o : Option DigitSets) → four_sets word ≡ o → other_rule word ≡ Err kind
    → (four_or_other word o ≡ Err kind) ⊎ ((kind ≡ UnsupportedRule) × (is_some o ≡ true))
still word kind None e h = inl h
still word kind (Some sets) e h = inr (lettered word sets kind (names_other_neighbours word) (list_any (λ b. b == 47) word) refl e h, refl)

refused : (word : List ℕ) (kind : Kind) (v w : Bool) (o : Option DigitSets)
    → cond v (Err BadRule) (cond w (Err BoundedGrid) (moore_or_other word o)) ≡ Err kind
    → (cond v (Err BadRule) (cond w (Err BoundedGrid) (life_or_other word o)) ≡ Err kind) ⊎ ((kind ≡ UnsupportedRule) × (is_some (four_sets word) ≡ true))
refused word kind true w o h = inl h
refused word kind false true o h = inl h
refused word kind false false (Some sets) h = inl h
refused word kind false false None h = still word kind (four_sets word) refl h

pub moore_rules_stay : MooreRulesStay
unfolding rule_of
moore_rules_stay text =
    let word = trim text in
    let bad = is_bad_text word in
    let colon = list_any (λ b. b == 58) word in
    record {
      rules = λ rule. (stays word rule bad colon (life_sets word), λ h. was word rule bad colon (life_sets word) h.0 h.1);
      refusals = λ kind h. refused word kind bad colon (life_sets word) h;
    }
