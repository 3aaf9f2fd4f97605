-- The text of a rule of the eight neighbours says that rule.
use Rattle.std.proofs.Common.{◌≡◌, ℕ, zero, suc, ◌<◌, ◌≤◌, List, [], ◌∷◌, ◌++◌, length, Bool, true, false, cond, not, ◌&&◌, ◌||◌, refl, ap, ◌∙◌, arith, length-append, append_assoc, ◌⊎◌, inl, inr, codes, filter, nat_le, ◌==◌, Ok, Err, map, leb-true, eqb-true, le-ltb}
use Rattle.std.specs.List.{list_all, list_any, slice_split}
use Rattle.std.proofs.lemmas.Bool.{and_from, not-true}
use Rattle.std.proofs.lemmas.Bool.Decides.{nat_tests}
use Rattle.std.proofs.lemmas.List.Folds.{list_all-append}
use Rattle.std.specs.Char.{to_ascii_uppercase}
use Rattle.life_base.proofs.Basics.{right_of_and, left_of_and}
use Rattle.life_base.specs.Sets.{DigitSets}
use Rattle.life_base.specs.Text.{is_whitespace, without_last, trim}
use Rattle.life_base.specs.Rules.{digits_of, digit_set, is_count_digit, digit_groups, marks, life_sets, life_form, rule_of, rule_of_trimmed, rule_text, is_bad_text, life_rule, life_or_other, rule_with_sets, IsLifeRule, sets}
use Rattle.life_base.specs.declared.kind.Kind.TheVariants.{BadRule, BoundedGrid, BirthOnZero}
use Rattle.life_base.specs.declared.rule.Near.TheVariants.{Moore}

-- ---- each set of digits, by a test of all 512

abbrev pub all_below : ℕ → (ℕ → Bool) → Bool
all_below zero p = true
all_below (suc n) p = p n && all_below n p

at_or_below : (k n : ℕ) → k < suc n → (k ≡ n) ⊎ (k < n)
at_or_below k n h = grind arith

pub all_below_at : (n : ℕ) (p : ℕ → Bool) (k : ℕ) → all_below n p ≡ true → k < n → p k ≡ true
all_below_at zero p k h l = absurd (omega arith)
all_below_at (suc n) p k h l = elim (at_or_below k n l) [
  | inl e ↦ ap p e ∙ left_of_and _ _ h
  | inr m ↦ all_below_at n p k (right_of_and _ _ h) m
]

abbrev set_test : ℕ → Bool
set_test set = digit_set (digits_of set) == set && (list_all is_count_digit (digits_of set) && nat_le (length (digits_of set)) 9)

each_set : all_below 512 set_test ≡ true
each_set = refl

set_at : (set : ℕ) → set < 512 → set_test set ≡ true
set_at set h = all_below_at 512 set_test set each_set h

pub set_again : (set : ℕ) → set < 512 → digit_set (digits_of set) ≡ set
set_again set h = eqb-true _ _ (left_of_and _ _ (set_at set h))

pub set_digits : (set : ℕ) → set < 512 → list_all is_count_digit (digits_of set) ≡ true
set_digits set h = left_of_and _ _ (right_of_and _ _ (set_at set h))

pub set_short : (set : ℕ) → set < 512 → length (digits_of set) ≤ 9
set_short set h = leb-true _ _ (right_of_and _ _ (right_of_and _ _ (set_at set h)))

-- ---- what holds of each digit holds of a text of them

digits_pass : (q : ℕ → Bool) → ((b : ℕ) → is_count_digit b ≡ true → q b ≡ true) → (xs : List ℕ) → list_all is_count_digit xs ≡ true → list_all q xs ≡ true
digits_pass q f [] h = refl
digits_pass q f (b ∷ xs) h = ap (λ v. v && list_all q xs) (f b (left_of_and _ _ h)) ∙ digits_pass q f xs (right_of_and _ _ h)

-- the whole text of a B/S rule, by its digits
pub text_passes : (q : ℕ → Bool) → ((b : ℕ) → is_count_digit b ≡ true → q b ≡ true) → list_all q (codes "B/S") ≡ true
    → (ds es : List ℕ) → list_all is_count_digit ds ≡ true → list_all is_count_digit es ≡ true → list_all q (66 ∷ (ds ++ 47 ∷ 83 ∷ es)) ≡ true
text_passes q f m ds es d e =
    and_from (q 66) _ (left_of_and _ _ m)
    (list_all-append q ds (47 ∷ 83 ∷ es)
    ∙ and_from (list_all q ds) _ (digits_pass q f ds d)
    (and_from (q 47) _ (left_of_and (q 47) _ (right_of_and (q 66) _ m))
    (and_from (q 83) _ (left_of_and (q 83) true (right_of_and (q 47) _ (right_of_and (q 66) _ m))) (digits_pass q f es e))))

-- a text of which no byte passes stays whole
pub none_passes : (test : ℕ → Bool) (xs : List ℕ) → list_all (λ b. not (test b)) xs ≡ true → without_last test xs ≡ xs
none_passes test [] h = refl
none_passes test (b ∷ xs) h =
    ap (λ v. cond (v && list_all test xs) [] (b ∷ without_last test xs)) (not-true (test b) (left_of_and _ _ h))
    ∙ ap (λ (t : List ℕ). b ∷ t) (none_passes test xs (right_of_and _ _ h))

pub no_any : (test : ℕ → Bool) (xs : List ℕ) → list_all (λ b. not (test b)) xs ≡ true → list_any test xs ≡ false
no_any test [] h = refl
no_any test (b ∷ xs) h = ap (λ v. v || list_any test xs) (not-true (test b) (left_of_and _ _ h)) ∙ no_any test xs (right_of_and _ _ h)

-- ---- the groups of digits and the marks

abbrev pub is_mark : ℕ → Bool
is_mark b = not (is_count_digit b)

pub split_at : (ds : List ℕ) (m : ℕ) (rest : List ℕ) → list_all is_count_digit ds ≡ true → is_mark m ≡ true → slice_split is_mark (ds ++ m ∷ rest)
    ≡ ds ∷ slice_split is_mark rest
split_at [] m rest h k = rw k refl
split_at (d ∷ ds) m rest h k = let e : is_count_digit d ≡ true = left_of_and _ _ h in rw (e, split_at ds m rest (right_of_and (is_count_digit d) _ h) k) refl

pub split_end : (ds : List ℕ) → list_all is_count_digit ds ≡ true → slice_split is_mark ds ≡ ds ∷ []
split_end [] h = refl
split_end (d ∷ ds) h = let e : is_count_digit d ≡ true = left_of_and _ _ h in rw (e, split_end ds (right_of_and (is_count_digit d) _ h)) refl

pub no_marks : (ds rest : List ℕ) → list_all is_count_digit ds ≡ true → filter is_mark (ds ++ rest) ≡ filter is_mark rest
no_marks [] rest h = refl
no_marks (d ∷ ds) rest h = let e : is_count_digit d ≡ true = left_of_and _ _ h in rw e (no_marks ds rest (right_of_and _ _ h))

pub none_left : (ds : List ℕ) → list_all is_count_digit ds ≡ true → filter is_mark ds ≡ []
none_left [] h = refl
none_left (d ∷ ds) h = let e : is_count_digit d ≡ true = left_of_and _ _ h in rw e (none_left ds (right_of_and _ _ h))

groups_of_text : (ds es : List ℕ) → list_all is_count_digit ds ≡ true → list_all is_count_digit es ≡ true
    → digit_groups (66 ∷ (ds ++ 47 ∷ 83 ∷ es)) ≡ [] ∷ ds ∷ [] ∷ es ∷ []
groups_of_text ds es h k = ap (λ (t : List (List ℕ)). [] ∷ t) (split_at ds 47 (83 ∷ es) h refl ∙ ap (λ (t : List (List ℕ)). ds ∷ [] ∷ t) (split_end es k))

marks_of_text : (ds es : List ℕ) → list_all is_count_digit ds ≡ true → list_all is_count_digit es ≡ true
    → marks (66 ∷ (ds ++ 47 ∷ 83 ∷ es)) ≡ codes "B/S"
marks_of_text ds es h k = ap (λ (t : List ℕ). map to_ascii_uppercase (66 ∷ t))
    (no_marks ds (47 ∷ 83 ∷ es) h ∙ ap (λ (t : List ℕ). 47 ∷ 83 ∷ t) (none_left es k))

pub sets_again : (ds es : List ℕ) → list_all is_count_digit ds ≡ true → list_all is_count_digit es ≡ true
    → life_sets (66 ∷ (ds ++ 47 ∷ 83 ∷ es)) ≡ sets ds es
unfolding life_sets
sets_again ds es h k =
    ap (λ g. life_form g (marks (66 ∷ (ds ++ 47 ∷ 83 ∷ es)))) (groups_of_text ds es h k) ∙ ap (life_form ([] ∷ ds ∷ [] ∷ es ∷ [])) (marks_of_text ds es h k)

-- ---- the steps of `rule_of`

abbrev pub visible : ℕ → Bool
visible b = nat_le 33 b && nat_le b 126

digit_solid : (b : ℕ) → is_count_digit b ≡ true → not (is_whitespace b) ≡ true
digit_solid b h = grind (arith, nat_tests)

pub visible_no_feed : (b : ℕ) → visible b ≡ true → not (b == 10) ≡ true
visible_no_feed b h = grind (arith, nat_tests)

pub digit_visible : (b : ℕ) → is_count_digit b ≡ true → visible b ≡ true
digit_visible b h = grind (arith, nat_tests)

pub digit_no_colon : (b : ℕ) → is_count_digit b ≡ true → not (b == 58) ≡ true
digit_no_colon b h = grind (arith, nat_tests)

module _ (ds es : List ℕ) (d : list_all is_count_digit ds ≡ true) (e : list_all is_count_digit es ≡ true) (dn : length ds ≤ 9) (en : length es ≤ 9) where
  abbrev text : List ℕ
  text = 66 ∷ (ds ++ 47 ∷ 83 ∷ es)

  text_trimmed : trim text ≡ text
  text_trimmed = none_passes is_whitespace text (text_passes (λ b. not (is_whitespace b)) digit_solid refl ds es d e)

  text_short : length text ≤ 255
  text_short = omega (arith, length-append ds (47 ∷ 83 ∷ es))

  pub text_is_rule : is_bad_text text ≡ false
  text_is_rule = ap (λ v. v || not (list_all visible text)) (le-ltb 255 (length text) text_short) ∙ ap not (text_passes visible digit_visible refl ds es d e)

  text_rule : rule_of text ≡ life_rule Moore (record { births = digit_set ds; survivals = digit_set es })
  unfolding rule_of
  text_rule =
      ap rule_of_trimmed text_trimmed
      ∙ ap (λ v. cond v (Err BadRule) (cond (list_any (λ b. b == 58) text) (Err BoundedGrid) (life_or_other text (life_sets text)))) text_is_rule
      ∙ ap (λ v. cond v (Err BoundedGrid) (life_or_other text (life_sets text)))
      (no_any (λ b. b == 58) text (text_passes (λ b. not (b == 58)) digit_no_colon refl ds es d e))
      ∙ ap (life_or_other text) (sets_again ds es d e)

pub moore_again : (v : DigitSets) → IsLifeRule (record { sets = v; near = Moore }) → rule_of (rule_text (rule_with_sets Moore v)) ≡ Ok (rule_with_sets Moore v)
moore_again v h =
    ap (λ (t : List ℕ). rule_of (66 ∷ t)) (append_assoc (digits_of v.births) (codes "/S") (digits_of v.survivals))
    ∙ text_rule (digits_of v.births) (digits_of v.survivals) (set_digits v.births h.births) (set_digits v.survivals h.survivals) (set_short v.births h.births)
    (set_short v.survivals h.survivals)
    ∙ ap (λ (b : ℕ). life_rule Moore (record { births = b; survivals = digit_set (digits_of v.survivals) })) (set_again v.births h.births)
    ∙ ap (λ (s : ℕ). life_rule Moore (record { births = v.births; survivals = s })) (set_again v.survivals h.survivals)
    ∙ ap (λ w. cond w (Err BirthOnZero) (Ok (rule_with_sets Moore v))) h.no_birth_on_zero
