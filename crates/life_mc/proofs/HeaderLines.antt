-- The lines of a written file that tell its rule and its generation.
use Rattle.std.proofs.Common.{◌≡◌, ℕ, suc, ◌+◌, ◌-◌, ◌^◌, ◌<◌, ◌≤◌, List, [], ◌∷◌, ◌++◌, length, Bool, true, false, cond, not, refl, ap, sym, subst, ◌∙◌, arith, append_assoc, length-append, decimal, nat_le, ◌==◌, map, filter, codes, Some, None, Ok, Err, le-leb}
use Rattle.std.specs.Result.{result_ok, result_err}
use Rattle.std.proofs.lemmas.Bool.Decides.{nat_tests}
use Rattle.std.proofs.lemmas.Bool.{and_from}
use Rattle.std.proofs.lemmas.List.Folds.{list_all-append}
use Rattle.life_base.proofs.NamesRead.{all_pass, good_text}
use Rattle.life_base.proofs.RoundTrip.{visible, visible_no_feed}
use Rattle.life_base.proofs.ReadBack.{rules_read_back}
use Rattle.life_base.proofs.RuleTexts.{texts_visible}
use Rattle.life_base.proofs.RuleValues.{named_is}
use Rattle.life_base.specs.Sets.{DigitSets}
use Rattle.life_base.specs.Text.{is_digit_text, value_of, trim}
use Rattle.life_base.specs.Numbers.{u64_of}
use Rattle.life_base.specs.Rules.{rule_of, rule_text, digits_of, counts, has_digit, is_bad_text, rule_with_sets, IsRule}
use Rattle.life_base.specs.declared.kind.Kind.TheVariants.{BadNumber, TooLarge}
use Rattle.life_base.specs.declared.rule.Near.{Near}
use Rattle.life_base.specs.declared.rule.Near.TheVariants.{Moore, VonNeumann}
use Rattle.life_base.specs.declared.rule.Rule.{Rule}
use Rattle.life_base.specs.declared.rule.Rule.TheVariants.{Life, Named}
use Rattle.life_mc.specs.Reading.{broken_after}
use Rattle.life_mc.specs.Standing.{IsParsed}
use Rattle.life_mc.specs.declared.line.ParsedLine.TheVariants.{RuleLine, GenerationLine}
use Rattle.life_mc.proofs.ReadBack.{has_no_feed}
use Rattle.life_mc.proofs.LineTexts.{decimal_digits, decimal_value, decimal_short, digits_trimmed, digits_have_no_feed}

-- ---- the text of a rule is short and has no line feed

pub record IsShortText (text : List ℕ) : Type 0 where
  pub short : length text ≤ 255
  pub feed : has_no_feed text ≡ true

kept_by : (v : Bool) (d : ℕ) (ds : List ℕ) (n : ℕ) → length (map (λ d. 48 + d) ds) ≤ n → length (map (λ d. 48 + d) (cond v (d ∷ ds) ds)) ≤ suc n
kept_by true d ds n h = omega arith
kept_by false d ds n h = omega arith

kept_short : (p : ℕ → Bool) (ds : List ℕ) → length (map (λ d. 48 + d) (filter p ds)) ≤ length ds
kept_short p [] = omega arith
kept_short p (d ∷ ds) = kept_by (p d) d (filter p ds) (length ds) (kept_short p ds)

digit_no_feed : (d : ℕ) → not (48 + d == 10) ≡ true
digit_no_feed d = grind (arith, nat_tests)

digits_no_feed : (ds : List ℕ) → has_no_feed (map (λ d. 48 + d) ds) ≡ true
digits_no_feed [] = refl
digits_no_feed (d ∷ ds) = and_from _ _ (digit_no_feed d) (digits_no_feed ds)

set_short : (set : ℕ) → length (digits_of set) ≤ 9
set_short set = kept_short (has_digit set) counts

moore_short : (sets : DigitSets) → IsShortText (rule_text (rule_with_sets Moore sets))
moore_short sets =
    let ds = digits_of sets.births in
    let es = digits_of sets.survivals in
    let e : rule_text (rule_with_sets Moore sets) ≡ 66 ∷ (ds ++ 47 ∷ 83 ∷ es) = ap (λ (t : List ℕ). 66 ∷ t) (append_assoc ds (codes "/S") es) in
    subst IsShortText (sym e) (record {
      short = omega (arith, length-append ds (47 ∷ 83 ∷ es), set_short sets.births, set_short sets.survivals);
      feed = list_all-append (λ b. not (b == 10)) ds (47 ∷ 83 ∷ es) ∙ and_from _ _ (digits_no_feed (filter (has_digit sets.births) counts))
          (digits_no_feed (filter (has_digit sets.survivals) counts));
    })

not_bad : (text : List ℕ) → is_bad_text text ≡ false → IsShortText text
not_bad text h =
    let good = good_text text h in record { short = good.short; feed = all_pass visible (λ b. not (b == 10)) visible_no_feed text good.bytes }

life_short : (sets : DigitSets) (near : Near) → IsRule (rule_with_sets near sets) → IsShortText (rule_text (rule_with_sets near sets))
life_short sets Moore h = moore_short sets
life_short sets VonNeumann h = not_bad (rule_text (rule_with_sets VonNeumann sets)) (texts_visible (rule_with_sets VonNeumann sets) h)

pub rule_short : (rule : Rule) → IsRule rule → IsShortText (rule_text rule)
rule_short (Life rule) h = life_short rule.sets rule.near h
rule_short (Named name) h = let p = named_is name name h in subst IsShortText p.1 (not_bad (trim name) p.0)

-- ---- the line of a rule

abbrev pub rule_line : Rule → List ℕ
rule_line rule = codes "#R " ++ rule_text rule

space_first : (text : List ℕ) → rule_of (32 ∷ text) ≡ rule_of text
unfolding rule_of
space_first text = refl

module _ (top : ℕ) (rule now : Rule) (h : IsRule rule) where
  rule_read : rule_of (32 ∷ rule_text rule) ≡ Ok rule
  rule_read = space_first (rule_text rule) ∙ rules_read_back rule h

  pub rule_stands : broken_after top now [] (rule_line rule) ≡ None
  rule_stands = ap result_err rule_read

  pub rule_parsed : IsParsed (rule_line rule) (RuleLine rule)
  rule_parsed = (ap result_ok rule_read, refl, refl)

-- ---- the line of a generation

abbrev pub generation_line : ℕ → List ℕ
generation_line generation = codes "#G " ++ decimal generation

module _ (top : ℕ) (now : Rule) (generation : ℕ) (h : generation < 2 ^ 64) where
  digits : is_digit_text (decimal generation) ≡ true
  digits = decimal_digits generation (omega arith)

  value : value_of (decimal generation) ≡ generation
  value = decimal_value generation (omega arith)

  text_trimmed : trim (32 ∷ decimal generation) ≡ decimal generation
  text_trimmed = digits_trimmed (decimal generation) digits

  pub generation_stands : broken_after top now [] (generation_line generation) ≡ None
  generation_stands = ap (λ t. result_err (u64_of t)) text_trimmed
      ∙ by (is_digit_text (decimal generation)) (nat_le (value_of (decimal generation)) (2 ^ 64 - 1))
      digits
      (le-leb (value_of (decimal generation)) (2 ^ 64 - 1) (omega (arith, value)))
    where
      by : (v w : Bool) → v ≡ true → w ≡ true → result_err (cond (not v) (Err BadNumber) (cond w (Ok (value_of (decimal generation))) (Err TooLarge))) ≡ None
      by true true p q = refl
      by false w p q = cc
      by true false p q = cc

  pub generation_parsed : IsParsed (generation_line generation) (GenerationLine generation)
  generation_parsed = (refl, ap (λ t. Some (value_of t)) text_trimmed ∙ ap Some value, refl)

  pub generation_short : IsShortText (generation_line generation)
  generation_short = record { short = omega (arith, decimal_short generation (omega arith)); feed = digits_have_no_feed (decimal generation) digits }
