-- The kinds with which rule texts are refused.
use Rattle.std.proofs.Common.{◌≡◌, ℕ, List, Bool, true, false, cond, refl, sym, ap, ◌∙◌, ◌==◌, Option, Some, None, Result, Ok, Err}
use Rattle.std.specs.List.{list_any}
use Rattle.life_base.specs.Sets.{DigitSets}
use Rattle.life_base.specs.Text.{trim}
use Rattle.life_base.specs.Rules.{rule_of, is_bad_text, life_or_other, four_or_other, life_sets, four_sets, rule_with_sets, has_digit, names_other_neighbours, is_rule_kind}
use Rattle.life_base.specs.declared.kind.Kind.{Kind}
use Rattle.life_base.specs.declared.kind.Kind.TheVariants.{BadRule, BoundedGrid, UnsupportedRule, BirthOnZero}
use Rattle.life_base.specs.declared.rule.Near.TheVariants.{Moore, VonNeumann}
use Rattle.life_base.specs.declared.rule.Rule.{Rule}
use Rattle.life_base.specs.declared.rule.Rule.TheVariants.{Named}

-- an error is of a kind that passes the test
abbrev pub errs_by : {X : Type 0} → (Kind → Bool) → Result X Kind → Bool
errs_by test (Ok x) = true
errs_by test (Err kind) = test kind

-- so is that of either case
pub errs_by_cases : {X : Type 0} (test : Kind → Bool) (b : Bool) (r s : Result X Kind) → errs_by test r ≡ true → errs_by test s ≡ true
    → errs_by test (cond b r s) ≡ true
errs_by_cases test true r s h k = h
errs_by_cases test false r s h k = k

pub kind_passes : {X : Type 0} (test : Kind → Bool) (r : Result X Kind) (kind : Kind) → errs_by test r ≡ true → r ≡ Err kind → test kind ≡ true
kind_passes test r kind h e = sym (ap (errs_by test) e) ∙ h

by_four : (text : List ℕ) (found : Option DigitSets) → errs_by is_rule_kind (four_or_other text found) ≡ true
by_four text (Some sets) = errs_by_cases is_rule_kind (has_digit sets.births 0) (Err BirthOnZero) (Ok (rule_with_sets VonNeumann sets)) refl refl
by_four text None =
    errs_by_cases is_rule_kind (names_other_neighbours text) (Err UnsupportedRule) (cond (list_any (λ b. b == 47) text) (Err UnsupportedRule) (Ok (Named text)))
    refl
    (errs_by_cases is_rule_kind (list_any (λ b. b == 47) text) (Err UnsupportedRule) (Ok (Named text)) refl refl)

by_form : (text : List ℕ) (found : Option DigitSets) → errs_by is_rule_kind (life_or_other text found) ≡ true
by_form text (Some sets) = errs_by_cases is_rule_kind (has_digit sets.births 0) (Err BirthOnZero) (Ok (rule_with_sets Moore sets)) refl refl
by_form text None = by_four text (four_sets text)

trimmed_kinds : (text : List ℕ)
    → errs_by is_rule_kind (cond (is_bad_text text) (Err BadRule) (cond (list_any (λ b. b == 58) text) (Err BoundedGrid) (life_or_other text (life_sets text))))
    ≡ true
trimmed_kinds text =
    errs_by_cases is_rule_kind (is_bad_text text) (Err BadRule) (cond (list_any (λ b. b == 58) text) (Err BoundedGrid) (life_or_other text (life_sets text)))
    refl
    (errs_by_cases is_rule_kind (list_any (λ b. b == 58) text) (Err BoundedGrid) (life_or_other text (life_sets text)) refl (by_form text (life_sets text)))

pub rule_errs : (text : List ℕ) → errs_by is_rule_kind (rule_of text) ≡ true
unfolding rule_of
rule_errs text = trimmed_kinds (trim text)

pub rule_kind : (text : List ℕ) (kind : Kind) → rule_of text ≡ Err kind → is_rule_kind kind ≡ true
rule_kind text kind e = kind_passes is_rule_kind (rule_of text) kind (rule_errs text) e

module _ (test : Kind → Bool) (rule : test BadRule ≡ true) (grid : test BoundedGrid ≡ true) (other : test UnsupportedRule ≡ true)
    (birth : test BirthOnZero ≡ true) where
  passes : (kind : Kind) → is_rule_kind kind ≡ true → test kind ≡ true
  passes BadRule h = rule
  passes BoundedGrid h = grid
  passes UnsupportedRule h = other
  passes BirthOnZero h = birth
  passes _ h = cc

  passes_as : (text : List ℕ) (r : Result Rule Kind) → rule_of text ≡ r → errs_by test r ≡ true
  passes_as text (Ok rule) e = refl
  passes_as text (Err kind) e = passes kind (rule_kind text kind e)

  -- what passes each kind with which rule texts are refused
  pub rule_errs_by : (text : List ℕ) → errs_by test (rule_of text) ≡ true
  rule_errs_by text = passes_as text (rule_of text) refl
