-- The text of a rule says that rule.
use Rattle.std.proofs.Common.{◌≡◌, ℕ, ◌<◌, ◌≤◌, List, [], ◌∷◌, ◌++◌, length, Bool, true, false, not, ◌&&◌, ◌||◌, refl, ap, sym, ◌∙◌, arith, length-append, append_assoc, codes, nat_le, nat_lt, ◌==◌, Some, Ok, append-nil}
use Rattle.std.specs.List.{list_all}
use Rattle.std.proofs.lemmas.Bool.{and_from}
use Rattle.std.proofs.lemmas.Bool.Decides.{nat_tests}
use Rattle.std.proofs.lemmas.List.Folds.{list_all-append}
use Rattle.life_base.proofs.RoundTrip.{moore_again, text_passes, sets_again, set_again, set_digits, set_short, digit_visible, digit_no_colon}
use Rattle.life_base.proofs.RuleForms.{life_texts_are_forms, rule_texts_are_plain}
use Rattle.life_base.specs.Sets.{DigitSets}
use Rattle.life_base.specs.Rules.{digits_of, digit_set, is_count_digit, life_sets, rule_of, rule_text, is_bad_text, rule_with_sets, IsLifeRule, RulesReadBack}
use Rattle.life_base.specs.RuleForms.{IsFourText, IsRuleWord, SaysRule}
use Rattle.life_base.specs.declared.rule.Near.{Near}
use Rattle.life_base.specs.declared.rule.Near.TheVariants.{Moore, VonNeumann}
use Rattle.life_base.specs.declared.rule.Rule.TheVariants.{Life, Named}

small : (n : ℕ) → n < 32 → n < 512
small n h = omega (arith, h)

module _ (v : DigitSets) (h : IsLifeRule (record { sets = v; near = VonNeumann })) where
  abbrev ds : List ℕ
  ds = digits_of v.births

  abbrev es : List ℕ
  es = digits_of v.survivals

  abbrev prefix : List ℕ
  prefix = 66 ∷ (ds ++ 47 ∷ 83 ∷ es)

  abbrev word : List ℕ
  word = prefix ++ codes "V"

  births_small : v.births < 512
  births_small = small v.births h.births

  survivals_small : v.survivals < 512
  survivals_small = small v.survivals h.survivals

  passes : (q : ℕ → Bool) → ((b : ℕ) → is_count_digit b ≡ true → q b ≡ true) → list_all q (codes "B/S") ≡ true → list_all q (codes "V") ≡ true
      → list_all q word ≡ true
  passes q f m n =
      list_all-append q prefix (codes "V")
      ∙ and_from (list_all q prefix) _ (text_passes q f m ds es (set_digits v.births births_small) (set_digits v.survivals survivals_small)) n

  is_sets : life_sets prefix ≡ Some v
  is_sets =
      sets_again ds es (set_digits v.births births_small) (set_digits v.survivals survivals_small)
      ∙ ap (λ (b : ℕ). Some (record { births = b; survivals = digit_set es })) (set_again v.births births_small)
      ∙ ap (λ (s : ℕ). Some (record { births = v.births; survivals = s })) (set_again v.survivals survivals_small)

  is_four : IsFourText word v
  is_four = record {
    prefix = prefix;
    last = 86;
    is = refl;
    letter = refl;
    rest = _;
    begins = refl;
    form = (life_texts_are_forms prefix v).0 is_sets;
    births = h.births;
    survivals = h.survivals;
  }

  is_word : IsRuleWord word
  is_word = record {
    some = omega (arith, length-append prefix (codes "V"));
    short = omega (
      arith,
      length-append prefix (codes "V"),
      length-append ds (47 ∷ 83 ∷ es),
      set_short v.births births_small,
      set_short v.survivals survivals_small,
    );
    visible = passes (λ b. nat_le 33 b && nat_le b 126) digit_visible refl refl;
    unbounded = passes (λ b. not (b == 58)) digit_no_colon refl refl;
  }

  four_says : SaysRule word (rule_with_sets VonNeumann v)
  four_says = record {
    word = word;
    around = record { before = []; behind = []; is = sym (append-nil word); blank_before = refl; blank_behind = refl };
    is_word = is_word;
    says = (is_four, h.no_birth_on_zero);
  }

  four_again : rule_of (rule_text (rule_with_sets VonNeumann v)) ≡ Ok (rule_with_sets VonNeumann v)
  four_again =
      ap (λ (t : List ℕ). rule_of (66 ∷ (t ++ codes "V"))) (append_assoc ds (codes "/S") es)
      ∙ (rule_texts_are_plain word (rule_with_sets VonNeumann v)).1 four_says

  within_bound : (n : ℕ) → n ≤ 255 → nat_lt 255 n ≡ false
  within_bound n k = grind (arith, nat_tests)

  pub four_visible : is_bad_text (rule_text (rule_with_sets VonNeumann v)) ≡ false
  four_visible =
      ap (λ (t : List ℕ). is_bad_text (66 ∷ (t ++ codes "V"))) (append_assoc ds (codes "/S") es)
      ∙ ap (λ w. w || not (list_all (λ b. nat_le 33 b && nat_le b 126) word)) (within_bound (length word) is_word.short)
      ∙ ap not is_word.visible

life_again : (v : DigitSets) (near : Near) → IsLifeRule (record { sets = v; near = near }) → rule_of (rule_text (rule_with_sets near v))
    ≡ Ok (rule_with_sets near v)
life_again v Moore h = moore_again v h
life_again v VonNeumann h = four_again v h

pub rules_read_back : RulesReadBack
rules_read_back (Life rule) h = life_again rule.sets rule.near h
rules_read_back (Named name) h = h
