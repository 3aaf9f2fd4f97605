-- A name is the rule text that says it.
use Rattle.std.proofs.Common.{◌≡◌, ℕ, ◌-◌, ◌≤◌, List, take, drop, [], ◌∷◌, length, Bool, true, false, cond, not, ◌&&◌, ◌||◌, refl, ap, ◌∙◌, arith, nat_lt, ◌==◌, map, codes, bytes_eq, is_some, Option, Some, None, Ok, Err, ltb-false}
use Rattle.std.specs.List.{list_all, list_any}
use Rattle.std.proofs.lemmas.Bool.{not-true}
use Rattle.std.proofs.lemmas.Bool.Decides.{nat_tests}
use Rattle.std.specs.Char.{to_ascii_uppercase}
use Rattle.life_base.proofs.RoundTrip.{none_passes, visible}
use Rattle.life_base.proofs.Texts.{start_stays}
use Rattle.life_base.proofs.Basics.{right_of_and, left_of_and}
use Rattle.life_base.specs.Sets.{DigitSets}
use Rattle.life_base.specs.Text.{is_whitespace, without_last, trim, is_empty}
use Rattle.life_base.specs.Rules.{life_sets, rule_of, rule_of_trimmed, is_bad_text, life_or_other, four_or_other, four_sets, up_to_four, names_other_neighbours}
use Rattle.life_base.specs.declared.kind.Kind.TheVariants.{BadRule, BoundedGrid, UnsupportedRule}
use Rattle.life_base.specs.declared.rule.Rule.TheVariants.{Named}

-- what follows from one test for each byte follows for all of them
pub all_pass : (p q : ℕ → Bool) → ((b : ℕ) → p b ≡ true → q b ≡ true) → (xs : List ℕ) → list_all p xs ≡ true → list_all q xs ≡ true
all_pass p q f [] h = refl
all_pass p q f (b ∷ xs) h = ap (λ v. v && list_all q xs) (f b (left_of_and _ _ h)) ∙ all_pass p q f xs (right_of_and _ _ h)

abbrev pub solid : ℕ → Bool
solid b = not (is_whitespace b)

-- a text without whitespace is its own trimmed form
pub solid_trimmed : (text : List ℕ) → list_all solid text ≡ true → trim text ≡ text
solid_trimmed [] h = refl
solid_trimmed (b ∷ text) h =
    ap (without_last is_whitespace) (start_stays b text (not-true (is_whitespace b) (left_of_and _ _ h))) ∙ none_passes is_whitespace (b ∷ text) h

pub visible_solid : (b : ℕ) → visible b ≡ true → solid b ≡ true
visible_solid b h = grind (arith, nat_tests)

-- a text that is no bad one
pub record IsGoodText (text : List ℕ) : Type 0 where
  pub some : is_empty text ≡ false
  pub short : length text ≤ 255
  pub bytes : list_all visible text ≡ true

three_false : (a b c : Bool) → (a || b || not c) ≡ false → (a ≡ false) × (b ≡ false) × (c ≡ true)
three_false true b c h = cc
three_false false true c h = cc
three_false false false true h = (refl, refl, refl)
three_false false false false h = cc

pub good_text : (text : List ℕ) → is_bad_text text ≡ false → IsGoodText text
good_text text h =
    let p = three_false (is_empty text) (nat_lt 255 (length text)) (list_all visible text) h in
    record { some = p.0; short = ltb-false 255 (length text) p.1; bytes = p.2 }

pub rule_text_trimmed : (text : List ℕ) → is_bad_text text ≡ false → trim text ≡ text
rule_text_trimmed text h = solid_trimmed text (all_pass visible solid visible_solid text (good_text text h).bytes)

-- a text without a letter of other neighbours is no von Neumann text
none_by : (o : Option DigitSets) (u v w : Bool) → (is_some o && (v || w)) ≡ false → cond (u && v) (up_to_four o) None ≡ None
none_by None false v w h = refl
none_by None true false w h = refl
none_by None true true w h = refl
none_by (Some s) false v w h = refl
none_by (Some s) true false w h = refl
none_by (Some s) true true w h = cc

pub four_none : (text : List ℕ) → names_other_neighbours text ≡ false → four_sets text ≡ None
unfolding four_sets
four_none text h =
    let prefix = take (length text - 1) text in
    let end = drop (length text - 1) text in
    none_by (life_sets prefix) (bytes_eq (map to_ascii_uppercase (take 1 prefix)) (codes "B")) (bytes_eq (map to_ascii_uppercase end) (codes "V"))
    (bytes_eq (map to_ascii_uppercase end) (codes "H")) h

-- the last step of `rule_of`
pub name_says : (text : List ℕ) → is_bad_text text ≡ false → list_any (λ b. b == 58) text ≡ false → life_sets text ≡ None
    → names_other_neighbours text ≡ false → list_any (λ b. b == 47) text ≡ false → rule_of text ≡ Ok (Named text)
unfolding rule_of
name_says text shape colon none other slash =
    ap rule_of_trimmed (rule_text_trimmed text shape)
    ∙ ap (λ v. cond v (Err BadRule) (cond (list_any (λ b. b == 58) text) (Err BoundedGrid) (life_or_other text (life_sets text)))) shape
    ∙ ap (λ v. cond v (Err BoundedGrid) (life_or_other text (life_sets text))) colon
    ∙ ap (life_or_other text) none
    ∙ ap (four_or_other text) (four_none text other)
    ∙ ap (λ v. cond v (Err UnsupportedRule) (cond (list_any (λ b. b == 47) text) (Err UnsupportedRule) (Ok (Named text)))) other
    ∙ ap (λ v. cond v (Err UnsupportedRule) (Ok (Named text))) slash
