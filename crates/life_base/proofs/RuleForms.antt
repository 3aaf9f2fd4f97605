-- What rule texts say, by what each text is.
use Rattle.std.proofs.Common.{◌≡◌, ℕ, ◌<◌, ◌-◌, List, [], ◌∷◌, ◌++◌, length, take, drop, Bool, true, false, cond, not, ◌&&◌, ◌||◌, refl, ap, sym, subst, ◌∙◌, arith, append_assoc, length-append, ◌⊎◌, inl, inr, ◌==◌, ◌↔◌, nat_lt, map, filter, codes, bytes_eq, is_some, Option, Some, None, Ok, Err, le-ltb, take-append-drop}
use Rattle.std.specs.List.{list_all, list_any, onto_first}
use Rattle.std.proofs.lemmas.Bool.{not-true, and_from, or_parts}
use Rattle.std.proofs.lemmas.Bool.Decides.{nat_tests}
use Rattle.std.proofs.Math.Seq.{take-append_seam, drop-append_seam}
use Rattle.std.specs.Char.{to_ascii_uppercase}
use Rattle.std.proofs.lemmas.List.Folds.{list_all-append}
use Rattle.life_base.proofs.NamesRead.{all_pass, solid, visible_solid, good_text, four_none}
use Rattle.life_base.proofs.RoundTrip.{visible, is_mark, split_at, split_end, no_marks, none_left, no_any}
use Rattle.life_base.proofs.Texts.{same_bytes, blank_prefix}
use Rattle.life_base.proofs.Basics.{right_of_and, left_of_and}
use Rattle.life_base.specs.Sets.{DigitSets}
use Rattle.life_base.specs.Text.{is_whitespace, is_empty, trim, trim_start, without_last, IsAround}
use Rattle.life_base.specs.Rules.{is_count_digit, digit_set, has_digit, digit_groups, marks, sets, life_form, life_sets, four_sets, up_to_four, life_or_other, four_or_other, rule_with_sets, names_other_neighbours, is_bad_text, rule_of, rule_of_trimmed}
use Rattle.life_base.specs.RuleForms.{IsForm, IsLifeText, IsFourText, IsNearText, IsRuleWord, names_neighbours, IsOtherWord, WordSays, SaysRule}
use Rattle.life_base.specs.declared.kind.Kind.TheVariants.{BadRule, BoundedGrid, UnsupportedRule, BirthOnZero}
use Rattle.life_base.specs.declared.rule.Near.{Near}
use Rattle.life_base.specs.declared.rule.Near.TheVariants.{Moore, VonNeumann}
use Rattle.life_base.specs.declared.rule.Rule.{Rule}
use Rattle.life_base.specs.declared.rule.Rule.TheVariants.{Life, Named}
use mathlib.Core.Bool.{and-false}

-- ---- letters in upper case

upper_digit : (b : ℕ) → is_count_digit b ≡ true → to_ascii_uppercase b ≡ b
upper_digit b h = grind (arith, nat_tests)

digit_of_upper : (b : ℕ) → is_count_digit (to_ascii_uppercase b) ≡ is_count_digit b
digit_of_upper b = grind (arith, nat_tests)

upper_again : (b : ℕ) → to_ascii_uppercase (to_ascii_uppercase b) ≡ to_ascii_uppercase b
upper_again b = grind (arith, nat_tests)

-- ---- a text, and its groups of digits and its marks

abbrev woven : List (List ℕ) → List ℕ → List ℕ
woven [] [] = []
woven [] (m ∷ ms) = m ∷ woven [] ms
woven (group ∷ groups) [] = group
woven (group ∷ groups) (m ∷ ms) = group ++ m ∷ woven groups ms

woven_further : (b : ℕ) (groups : List (List ℕ)) (ms : List ℕ) → woven (onto_first b groups) ms ≡ b ∷ woven groups ms
woven_further b [] [] = refl
woven_further b [] (m ∷ ms) = refl
woven_further b (group ∷ groups) [] = refl
woven_further b (group ∷ groups) (m ∷ ms) = refl

weave_step : (v : Bool) (b : ℕ) (groups : List (List ℕ)) (ms : List ℕ) → is_count_digit b ≡ v
    → to_ascii_uppercase b ∷ woven groups ms ≡ woven (cond (not v) ([] ∷ groups) (onto_first b groups)) (cond (not v) (to_ascii_uppercase b ∷ ms) ms)
weave_step true b groups ms e = ap (λ c. c ∷ woven groups ms) (upper_digit b e) ∙ sym (woven_further b groups ms)
weave_step false b groups ms e = refl

marks_step : (v : Bool) (b : ℕ) (text : List ℕ) → map to_ascii_uppercase (cond v (b ∷ text) text) ≡ cond v (to_ascii_uppercase b ∷ map to_ascii_uppercase text)
    (map to_ascii_uppercase text)
marks_step true b text = refl
marks_step false b text = refl

weave : (text : List ℕ) → map to_ascii_uppercase text ≡ woven (digit_groups text) (marks text)
weave [] = refl
weave (b ∷ text) =
    ap (λ (t : List ℕ). to_ascii_uppercase b ∷ t) (weave text) ∙ weave_step (is_count_digit b) b (digit_groups text) (marks text) refl
    ∙ ap (λ (ms : List ℕ). woven (digit_groups (b ∷ text)) ms) (sym (marks_step (is_mark b) b (filter is_mark text)))

abbrev are_digits : List (List ℕ) → Bool
are_digits groups = list_all (λ (group : List ℕ). list_all is_count_digit group) groups

digits_onto : (b : ℕ) (groups : List (List ℕ)) → is_count_digit b ≡ true → are_digits groups ≡ true → are_digits (onto_first b groups) ≡ true
digits_onto b [] e h = and_from _ true (and_from _ true e refl) refl
digits_onto b (group ∷ groups) e h =
    and_from _ _ (and_from _ _ e (left_of_and (list_all is_count_digit group) _ h)) (right_of_and (list_all is_count_digit group) _ h)

digits_step : (v : Bool) (b : ℕ) (groups : List (List ℕ)) → is_count_digit b ≡ v → are_digits groups ≡ true
    → are_digits (cond (not v) ([] ∷ groups) (onto_first b groups)) ≡ true
digits_step true b groups e h = digits_onto b groups e h
digits_step false b groups e h = h

groups_digits : (text : List ℕ) → are_digits (digit_groups text) ≡ true
groups_digits [] = refl
groups_digits (b ∷ text) = digits_step (is_count_digit b) b (digit_groups text) refl (groups_digits text)

-- ---- a text with sets is of one of the five forms

some_is : (x y : DigitSets) → Some x ≡ Some y → x ≡ y
some_is x y h = cc

one_of : (v w : Bool) (x y s : DigitSets) → cond v (Some x) (cond w (Some y) None) ≡ Some s → ((v ≡ true) × (x ≡ s)) ⊎ ((w ≡ true) × (y ≡ s))
one_of true w x y s h = inl (refl, some_is x s h)
one_of false true x y s h = inr (refl, some_is y s h)
one_of false false x y s h = cc

the_one : (v : Bool) (x s : DigitSets) → cond v (Some x) None ≡ Some s → (v ≡ true) × (x ≡ s)
the_one true x s h = (refl, some_is x s h)
the_one false x s h = cc

abbrev sets_of : List ℕ → List ℕ → DigitSets
sets_of births survivals = record { births = digit_set births; survivals = digit_set survivals }

module _ (text : List ℕ) (s : DigitSets) where
  form_is : (births survivals : List ℕ) → list_all is_count_digit births ≡ true → list_all is_count_digit survivals ≡ true
      → sets_of births survivals ≡ s → IsForm (map to_ascii_uppercase text) births survivals → IsLifeText text s
  form_is births survivals d e same form = record {
    births = births;
    survivals = survivals;
    birth_digits = d;
    survival_digits = e;
    form = form;
    birth_set = ap (λ (x : DigitSets). x.births) (sym same);
    survival_set = ap (λ (x : DigitSets). x.survivals) (sym same);
  }

  -- the three shapes of a text by its groups a and b and its marks
  plain : (a b ms : List ℕ) → map to_ascii_uppercase text ≡ woven (a ∷ b ∷ []) ms → list_all is_count_digit a ≡ true → list_all is_count_digit b ≡ true
      → cond (bytes_eq ms (codes "/")) (sets b a) None ≡ Some s → IsLifeText text s
  plain a b ms t d e h =
      let p = the_one (bytes_eq ms (codes "/")) (sets_of b a) s h in
      let w : map to_ascii_uppercase text ≡ (a ++ codes "/") ++ b =
      t ∙ ap (woven (a ∷ b ∷ [])) (same_bytes ms (codes "/") p.0) ∙ sym (append_assoc a (codes "/") b) in
      form_is b a e d p.1 (inr (inr (inr (inr w))))

  lettered : (a b ms : List ℕ) → map to_ascii_uppercase text ≡ woven ([] ∷ a ∷ b ∷ []) ms → list_all is_count_digit a ≡ true → list_all is_count_digit b ≡ true
      → cond (bytes_eq ms (codes "BS")) (sets a b) (cond (bytes_eq ms (codes "SB")) (sets b a) None) ≡ Some s → IsLifeText text s
  lettered a b ms t d e h = elim (one_of (bytes_eq ms (codes "BS")) (bytes_eq ms (codes "SB")) (sets_of a b) (sets_of b a) s h) [
    | inl p ↦
        let w : map to_ascii_uppercase text ≡ ((codes "B" ++ a) ++ codes "S") ++ b =
        t ∙ ap (woven ([] ∷ a ∷ b ∷ [])) (same_bytes ms (codes "BS") p.0) ∙ sym (append_assoc (66 ∷ a) (codes "S") b) in
        form_is a b d e p.1 (inr (inr (inl w)))
    | inr p ↦
        let w : map to_ascii_uppercase text ≡ ((codes "S" ++ a) ++ codes "B") ++ b =
        t ∙ ap (woven ([] ∷ a ∷ b ∷ [])) (same_bytes ms (codes "SB") p.0) ∙ sym (append_assoc (83 ∷ a) (codes "B") b) in
        form_is b a e d p.1 (inr (inr (inr (inl w))))
  ]

  slashed : (a b ms : List ℕ) → map to_ascii_uppercase text ≡ woven ([] ∷ a ∷ [] ∷ b ∷ []) ms → list_all is_count_digit a ≡ true
      → list_all is_count_digit b ≡ true
      → cond (bytes_eq ms (codes "B/S")) (sets a b) (cond (bytes_eq ms (codes "S/B")) (sets b a) None) ≡ Some s → IsLifeText text s
  slashed a b ms t d e h = elim (one_of (bytes_eq ms (codes "B/S")) (bytes_eq ms (codes "S/B")) (sets_of a b) (sets_of b a) s h) [
    | inl p ↦
        let w : map to_ascii_uppercase text ≡ ((codes "B" ++ a) ++ codes "/S") ++ b =
        t ∙ ap (woven ([] ∷ a ∷ [] ∷ b ∷ [])) (same_bytes ms (codes "B/S") p.0) ∙ sym (append_assoc (66 ∷ a) (codes "/S") b) in
        form_is a b d e p.1 (inl w)
    | inr p ↦
        let w : map to_ascii_uppercase text ≡ ((codes "S" ++ a) ++ codes "/B") ++ b =
        t ∙ ap (woven ([] ∷ a ∷ [] ∷ b ∷ [])) (same_bytes ms (codes "S/B") p.0) ∙ sym (append_assoc (83 ∷ a) (codes "/B") b) in
        form_is b a e d p.1 (inr (inl w))
  ]

  shaped : (groups : List (List ℕ)) (ms : List ℕ) → map to_ascii_uppercase text ≡ woven groups ms → are_digits groups ≡ true → life_form groups ms ≡ Some s
      → IsLifeText text s
  shaped [] ms t d h = cc
  shaped ([] ∷ []) ms t d h = cc
  shaped ((x ∷ a) ∷ []) ms t d h = cc
  shaped ([] ∷ b ∷ []) ms t d h = plain [] b ms t refl (left_of_and (list_all is_count_digit b) true d) h
  shaped ((x ∷ a) ∷ b ∷ []) ms t d h =
      let e = right_of_and (list_all is_count_digit (x ∷ a)) _ d in
      plain (x ∷ a) b ms t (left_of_and (list_all is_count_digit (x ∷ a)) _ d) (left_of_and (list_all is_count_digit b) true e) h
  shaped ([] ∷ a ∷ [] ∷ []) ms t d h = lettered a [] ms t (left_of_and (list_all is_count_digit a) true d) refl h
  shaped ([] ∷ a ∷ (x ∷ b) ∷ []) ms t d h =
      let e = right_of_and (list_all is_count_digit a) _ d in
      lettered a (x ∷ b) ms t (left_of_and (list_all is_count_digit a) _ d) (left_of_and (list_all is_count_digit (x ∷ b)) true e) h
  shaped ((x ∷ a) ∷ b ∷ c ∷ []) ms t d h = cc
  shaped ([] ∷ a ∷ [] ∷ b ∷ []) ms t d h =
      let e = right_of_and (list_all is_count_digit a) _ d in
      slashed a b ms t (left_of_and (list_all is_count_digit a) _ d) (left_of_and (list_all is_count_digit b) true e) h
  shaped ([] ∷ a ∷ (x ∷ b) ∷ c ∷ []) ms t d h = cc
  shaped ((x ∷ a) ∷ b ∷ c ∷ d' ∷ []) ms t d h = cc
  shaped ([] ∷ a ∷ [] ∷ b ∷ c ∷ groups) ms t d h = cc
  shaped ([] ∷ a ∷ (x ∷ b) ∷ c ∷ d' ∷ groups) ms t d h = cc
  shaped ((x ∷ a) ∷ b ∷ c ∷ d' ∷ e ∷ groups) ms t d h = cc

  life_is_form : life_sets text ≡ Some s → IsLifeText text s
  unfolding life_sets
  life_is_form h = shaped (digit_groups text) (marks text) (weave text) (groups_digits text) h

-- ---- a text of one of the five forms has its sets

-- letters in upper case have the same groups and marks
groups_step : (v w : Bool) (b : ℕ) (text : List ℕ) → is_count_digit b ≡ v → v ≡ w
    → cond (not w) ([] ∷ digit_groups text) (onto_first (to_ascii_uppercase b) (digit_groups text)) ≡ cond (not v) ([] ∷ digit_groups text)
    (onto_first b (digit_groups text))
groups_step true true b text e h = ap (λ c. onto_first c (digit_groups text)) (upper_digit b e)
groups_step true false b text e h = cc
groups_step false true b text e h = cc
groups_step false false b text e h = refl

groups_upper : (text : List ℕ) → digit_groups (map to_ascii_uppercase text) ≡ digit_groups text
groups_upper [] = refl
groups_upper (b ∷ text) =
    ap (λ (g : List (List ℕ)). cond (is_mark (to_ascii_uppercase b)) ([] ∷ g) (onto_first (to_ascii_uppercase b) g)) (groups_upper text)
    ∙ groups_step (is_count_digit b) (is_count_digit (to_ascii_uppercase b)) b text refl (sym (digit_of_upper b))

marks_upper_step : (v : Bool) (b : ℕ) (xs ys : List ℕ) → map to_ascii_uppercase xs ≡ map to_ascii_uppercase ys
    → map to_ascii_uppercase (cond v (to_ascii_uppercase b ∷ xs) xs) ≡ map to_ascii_uppercase (cond v (b ∷ ys) ys)
marks_upper_step true b xs ys e = ap (λ c. c ∷ map to_ascii_uppercase xs) (upper_again b) ∙ ap (λ (t : List ℕ). to_ascii_uppercase b ∷ t) e
marks_upper_step false b xs ys e = e

marks_upper : (text : List ℕ) → marks (map to_ascii_uppercase text) ≡ marks text
marks_upper [] = refl
marks_upper (b ∷ text) =
    ap (λ v. map to_ascii_uppercase
    (cond (not v) (to_ascii_uppercase b ∷ filter is_mark (map to_ascii_uppercase text)) (filter is_mark (map to_ascii_uppercase text)))) (digit_of_upper b)
    ∙ marks_upper_step (is_mark b) b (filter is_mark (map to_ascii_uppercase text)) (filter is_mark text) (marks_upper text)

births_first : (a b : List ℕ) → life_form ([] ∷ a ∷ b ∷ []) (codes "BS") ≡ Some (sets_of a b)
births_first a [] = refl
births_first a (x ∷ b) = refl

survivals_first : (a b : List ℕ) → life_form ([] ∷ a ∷ b ∷ []) (codes "SB") ≡ Some (sets_of b a)
survivals_first a [] = refl
survivals_first a (x ∷ b) = refl

plain_form : (a b : List ℕ) → life_form (a ∷ b ∷ []) (codes "/") ≡ Some (sets_of b a)
plain_form [] b = refl
plain_form (x ∷ a) b = refl

module _ (text births survivals : List ℕ) (d : list_all is_count_digit births ≡ true) (e : list_all is_count_digit survivals ≡ true) where
  -- by the groups and the marks of the text in upper case
  by_parts : (whole : List ℕ) (groups : List (List ℕ)) (ms : List ℕ) → map to_ascii_uppercase text ≡ whole → digit_groups whole ≡ groups → marks whole ≡ ms
      → life_sets text ≡ life_form groups ms
  unfolding life_sets
  by_parts whole groups ms w g m =
      ap (λ (x : List (List ℕ)). life_form x (marks text)) (sym (groups_upper text) ∙ ap digit_groups w ∙ g)
      ∙ ap (life_form groups) (sym (marks_upper text) ∙ ap marks w ∙ m)

  -- a letter, digits, a slash and a letter, digits
  with_slash : (x y : ℕ) (a b : List ℕ) → list_all is_count_digit a ≡ true → list_all is_count_digit b ≡ true → is_mark x ≡ true → is_mark y ≡ true
      → map to_ascii_uppercase text ≡ x ∷ (a ++ 47 ∷ y ∷ b)
      → life_sets text ≡ life_form ([] ∷ a ∷ [] ∷ b ∷ []) (to_ascii_uppercase x ∷ 47 ∷ to_ascii_uppercase y ∷ [])
  with_slash x y a b h k m n w =
      by_parts _ _ _ w
      (split_at [] x (a ++ 47 ∷ y ∷ b) refl m
      ∙ ap (λ (t : List (List ℕ)). [] ∷ t)
      (split_at a 47 (y ∷ b) h refl ∙ ap (λ (t : List (List ℕ)). a ∷ t) (split_at [] y b refl n ∙ ap (λ (t : List (List ℕ)). [] ∷ t) (split_end b k))))
      (ap (map to_ascii_uppercase) (kept_mark x (a ++ 47 ∷ y ∷ b) m
      ∙ ap (λ (t : List ℕ). x ∷ t) (no_marks a (47 ∷ y ∷ b) h
      ∙ ap (λ (t : List ℕ). 47 ∷ t) (kept_mark y b n ∙ ap (λ (t : List ℕ). y ∷ t) (none_left b k)))))
    where
      kept_mark : (z : ℕ) (rest : List ℕ) → is_mark z ≡ true → filter is_mark (z ∷ rest) ≡ z ∷ filter is_mark rest
      kept_mark z rest q = ap (λ v. cond v (z ∷ filter is_mark rest) (filter is_mark rest)) q

  -- a letter, digits, a letter, digits
  without_slash : (x y : ℕ) (a b : List ℕ) → list_all is_count_digit a ≡ true → list_all is_count_digit b ≡ true → is_mark x ≡ true → is_mark y ≡ true
      → map to_ascii_uppercase text ≡ x ∷ (a ++ y ∷ b) → life_sets text ≡ life_form ([] ∷ a ∷ b ∷ []) (to_ascii_uppercase x ∷ to_ascii_uppercase y ∷ [])
  without_slash x y a b h k m n w =
      by_parts _ _ _ w
      (split_at [] x (a ++ y ∷ b) refl m ∙ ap (λ (t : List (List ℕ)). [] ∷ t) (split_at a y b h n ∙ ap (λ (t : List (List ℕ)). a ∷ t) (split_end b k)))
      (ap (map to_ascii_uppercase) (kept_mark x (a ++ y ∷ b) m
      ∙ ap (λ (t : List ℕ). x ∷ t) (no_marks a (y ∷ b) h ∙ kept_mark y b n ∙ ap (λ (t : List ℕ). y ∷ t) (none_left b k))))
    where
      kept_mark : (z : ℕ) (rest : List ℕ) → is_mark z ≡ true → filter is_mark (z ∷ rest) ≡ z ∷ filter is_mark rest
      kept_mark z rest q = ap (λ v. cond v (z ∷ filter is_mark rest) (filter is_mark rest)) q

  form_sets : IsForm (map to_ascii_uppercase text) births survivals → life_sets text ≡ Some (sets_of births survivals)
  form_sets (inl w) = with_slash 66 83 births survivals d e refl refl (w ∙ append_assoc (66 ∷ births) (codes "/S") survivals)
  form_sets (inr (inl w)) = with_slash 83 66 survivals births e d refl refl (w ∙ append_assoc (83 ∷ survivals) (codes "/B") births)
  form_sets (inr (inr (inl w))) = without_slash 66 83 births survivals d e refl refl (w ∙ append_assoc (66 ∷ births) (codes "S") survivals)
      ∙ births_first births survivals
  form_sets (inr (inr (inr (inl w)))) = without_slash 83 66 survivals births e d refl refl (w ∙ append_assoc (83 ∷ survivals) (codes "B") births)
      ∙ survivals_first survivals births
  form_sets (inr (inr (inr (inr w)))) =
      by_parts _ (survivals ∷ births ∷ []) (codes "/") (w ∙ append_assoc survivals (codes "/") births)
      (split_at survivals 47 births e refl ∙ ap (λ (t : List (List ℕ)). survivals ∷ t) (split_end births d))
      (ap (map to_ascii_uppercase) (no_marks survivals (47 ∷ births) e ∙ ap (λ (t : List ℕ). 47 ∷ t) (none_left births d)))
      ∙ plain_form survivals births

is_form_of_life : (text : List ℕ) (s : DigitSets) → IsLifeText text s → life_sets text ≡ Some s
is_form_of_life text s l =
    form_sets text l.births l.survivals l.birth_digits l.survival_digits l.form
    ∙ ap (λ (b : ℕ). Some (record { births = b; survivals = digit_set l.survivals })) (sym l.birth_set)
    ∙ ap (λ (v : ℕ). Some (record { births = s.births; survivals = v })) (sym l.survival_set)

pub life_texts_are_forms : (text : List ℕ) (s : DigitSets) → (life_sets text ≡ Some s) ↔ IsLifeText text s
life_texts_are_forms text s = (life_is_form text s, is_form_of_life text s)

-- ---- a von Neumann text

-- no byte of a text of one of the five forms is a `V`
abbrev no_v : ℕ → Bool
no_v b = not (b == 86)

digit_no_v : (b : ℕ) → is_count_digit b ≡ true → no_v b ≡ true
digit_no_v b h = grind (arith, nat_tests)

pass_two : (xs ys : List ℕ) → list_all no_v xs ≡ true → list_all no_v ys ≡ true → list_all no_v (xs ++ ys) ≡ true
pass_two xs ys h k = list_all-append no_v xs ys ∙ and_from (list_all no_v xs) (list_all no_v ys) h k

digits_no_v : (ds : List ℕ) → list_all is_count_digit ds ≡ true → list_all no_v ds ≡ true
digits_no_v ds h = all_pass is_count_digit no_v digit_no_v ds h

form_no_v : (text births survivals : List ℕ) → list_all no_v births ≡ true → list_all no_v survivals ≡ true → IsForm text births survivals
    → list_all no_v text ≡ true
form_no_v text b s d e (inl w) = ap (list_all no_v) w ∙ pass_two ((codes "B" ++ b) ++ codes "/S") s (pass_two (codes "B" ++ b) (codes "/S") d refl) e
form_no_v text b s d e (inr (inl w)) = ap (list_all no_v) w ∙ pass_two ((codes "S" ++ s) ++ codes "/B") b (pass_two (codes "S" ++ s) (codes "/B") e refl) d
form_no_v text b s d e (inr (inr (inl w))) = ap (list_all no_v) w ∙ pass_two ((codes "B" ++ b) ++ codes "S") s (pass_two (codes "B" ++ b) (codes "S") d refl) e
form_no_v text b s d e (inr (inr (inr (inl w)))) = ap (list_all no_v) w
    ∙ pass_two ((codes "S" ++ s) ++ codes "B") b (pass_two (codes "S" ++ s) (codes "B") e refl) d
form_no_v text b s d e (inr (inr (inr (inr w)))) = ap (list_all no_v) w ∙ pass_two (s ++ codes "/") b (pass_two s (codes "/") e refl) d

v_behind : (prefix : List ℕ) (last : ℕ) → to_ascii_uppercase last ≡ 86 → list_all no_v (map to_ascii_uppercase (prefix ++ last ∷ [])) ≡ false
v_behind [] last e = ap (λ c. no_v c && true) e
v_behind (b ∷ prefix) last e = ap (λ v. no_v (to_ascii_uppercase b) && v) (v_behind prefix last e) ∙ and-false (no_v (to_ascii_uppercase b))

no_form_with_v : (word prefix : List ℕ) (last : ℕ) → word ≡ prefix ++ last ∷ [] → to_ascii_uppercase last ≡ 86 → (o : Option DigitSets) → life_sets word ≡ o
    → o ≡ None
no_form_with_v word prefix last w e None h = refl
no_form_with_v word prefix last w e (Some s) h =
    let l = life_is_form word s h in
    let k : true ≡ false =
    sym (form_no_v (map to_ascii_uppercase word) l.births l.survivals (digits_no_v l.births l.birth_digits) (digits_no_v l.survivals l.survival_digits) l.form)
    ∙ ap (λ (t : List ℕ). list_all no_v (map to_ascii_uppercase t)) w ∙ v_behind prefix last e in
    cc

pub below_32 : (n : ℕ) → nat_lt n 32 ≡ true → n < 32
below_32 n h = grind (arith, nat_tests)

is_below : (n : ℕ) → n < 32 → nat_lt n 32 ≡ true
is_below n h = grind (arith, nat_tests)

one_letter : (end : List ℕ) (c : ℕ) → map to_ascii_uppercase end ≡ c ∷ [] → (last : ℕ) × (end ≡ last ∷ []) × (to_ascii_uppercase last ≡ c)
one_letter [] c h = cc
one_letter (b ∷ []) c h = let e : to_ascii_uppercase b ≡ c = cc in (b, refl, e)
one_letter (b ∷ d ∷ end) c h = cc

begins_with : (prefix : List ℕ) → map to_ascii_uppercase (take 1 prefix) ≡ 66 ∷ [] → (rest : List ℕ) × (map to_ascii_uppercase prefix ≡ 66 ∷ rest)
begins_with [] h = cc
begins_with (b ∷ prefix) h = let e : to_ascii_uppercase b ≡ 66 = cc in (map to_ascii_uppercase prefix, ap (λ c. c ∷ map to_ascii_uppercase prefix) e)

begins : (prefix rest : List ℕ) → map to_ascii_uppercase prefix ≡ 66 ∷ rest → bytes_eq (map to_ascii_uppercase (take 1 prefix)) (codes "B") ≡ true
begins [] rest h = cc
begins (b ∷ prefix) rest h = let e : to_ascii_uppercase b ≡ 66 = cc in ap (λ c. bytes_eq (c ∷ []) (codes "B")) e

within : (found s : DigitSets) (u v : Bool) → nat_lt found.births 32 ≡ u → nat_lt found.survivals 32 ≡ v → cond (u && v) (Some found) None ≡ Some s
    → (found ≡ s) × (found.births < 32) × (found.survivals < 32)
within found s true true e f h = (some_is found s h, below_32 found.births e, below_32 found.survivals f)
within found s true false e f h = cc
within found s false v e f h = cc

four_by : (text prefix end : List ℕ) (s : DigitSets) (v w : Bool) (o : Option DigitSets) → text ≡ prefix ++ end → life_sets prefix ≡ o
    → bytes_eq (map to_ascii_uppercase (take 1 prefix)) (codes "B") ≡ v → bytes_eq (map to_ascii_uppercase end) (codes "V") ≡ w
    → cond (v && w) (up_to_four o) None ≡ Some s → IsFourText text s
four_by text prefix end s true true (Some found) t l e f h =
    let k = within found s (nat_lt found.births 32) (nat_lt found.survivals 32) refl refl h in
    let p = one_letter end 86 (same_bytes (map to_ascii_uppercase end) (codes "V") f) in
    let q = begins_with prefix (same_bytes (map to_ascii_uppercase (take 1 prefix)) (codes "B") e) in
    subst (IsFourText text) k.0 (record {
      prefix = prefix;
      last = p.0;
      is = t ∙ ap (λ (x : List ℕ). prefix ++ x) p.1;
      letter = p.2;
      rest = q.0;
      begins = q.1;
      form = life_is_form prefix found l;
      births = k.1;
      survivals = k.2;
    })
four_by text prefix end s true true None t l e f h = cc
four_by text prefix end s true false o t l e f h = cc
four_by text prefix end s false w o t l e f h = cc

four_is_form : (text : List ℕ) (s : DigitSets) → four_sets text ≡ Some s → IsFourText text s
unfolding four_sets
four_is_form text s h =
    let prefix = take (length text - 1) text in
    let end = drop (length text - 1) text in
    four_by text prefix end s (bytes_eq (map to_ascii_uppercase (take 1 prefix)) (codes "B")) (bytes_eq (map to_ascii_uppercase end) (codes "V"))
    (life_sets prefix)
    (sym (take-append-drop (length text - 1) text)) refl refl refl h

-- the bytes before the last one, and the last one
module _ (word prefix : List ℕ) (last : ℕ) (w : word ≡ prefix ++ last ∷ []) where
  cut : length word - 1 ≡ length prefix
  cut = omega (arith, ap length w, length-append prefix (last ∷ []))

  prefix_is : take (length word - 1) word ≡ prefix
  prefix_is = ap (λ k. take k word) cut ∙ ap (take (length prefix)) w ∙ take-append_seam prefix (last ∷ [])

  end_is : drop (length word - 1) word ≡ last ∷ []
  end_is = ap (λ k. drop k word) cut ∙ ap (drop (length prefix)) w ∙ drop-append_seam prefix (last ∷ [])

is_form_of_four : (text : List ℕ) (s : DigitSets) → IsFourText text s → four_sets text ≡ Some s
unfolding four_sets
is_form_of_four text s f =
    let end : List ℕ = drop (length text - 1) text in
    ap (λ (t : List ℕ). cond (bytes_eq (map to_ascii_uppercase (take 1 t)) (codes "B") && bytes_eq (map to_ascii_uppercase end) (codes "V"))
    (up_to_four (life_sets t)) None) (prefix_is text f.prefix f.last f.is)
    ∙ ap (λ v. cond (v && bytes_eq (map to_ascii_uppercase end) (codes "V")) (up_to_four (life_sets f.prefix)) None) (begins f.prefix f.rest f.begins)
    ∙ ap (λ (t : List ℕ). cond (bytes_eq (map to_ascii_uppercase t) (codes "V")) (up_to_four (life_sets f.prefix)) None) (end_is text f.prefix f.last f.is)
    ∙ ap (λ c. cond (bytes_eq (c ∷ []) (codes "V")) (up_to_four (life_sets f.prefix)) None) f.letter
    ∙ ap up_to_four (is_form_of_life f.prefix s f.form)
    ∙ ap (λ v. cond (v && nat_lt s.survivals 32) (Some s) None) (is_below s.births f.births)
    ∙ ap (λ v. cond v (Some s) None) (is_below s.survivals f.survivals)

pub four_texts_are_forms : (text : List ℕ) (s : DigitSets) → (four_sets text ≡ Some s) ↔ IsFourText text s
four_texts_are_forms text s = (four_is_form text s, is_form_of_four text s)

-- ---- whitespace around a word

record SplitsAtSpace (text rest : List ℕ) : Type 0 where
  prefix : List ℕ
  is : text ≡ prefix ++ rest
  blank : list_all is_whitespace prefix ≡ true

prefix_step : (v : Bool) (b : ℕ) (text : List ℕ) → is_whitespace b ≡ v → SplitsAtSpace text (trim_start text)
    → SplitsAtSpace (b ∷ text) (cond v (trim_start text) (b ∷ text))
prefix_step true b text e f = record { prefix = b ∷ f.prefix; is = ap (λ (t : List ℕ). b ∷ t) f.is; blank = and_from _ _ e f.blank }
prefix_step false b text e f = record { prefix = []; is = refl; blank = refl }

prefix_of : (text : List ℕ) → SplitsAtSpace text (trim_start text)
prefix_of [] = record { prefix = []; is = refl; blank = refl }
prefix_of (b ∷ text) = prefix_step (is_whitespace b) b text refl (prefix_of text)

record Back (text kept : List ℕ) : Type 0 where
  back : List ℕ
  is : text ≡ kept ++ back
  blank : list_all is_whitespace back ≡ true

back_step : (v : Bool) (b : ℕ) (text : List ℕ) → list_all is_whitespace (b ∷ text) ≡ v → Back text (without_last is_whitespace text)
    → Back (b ∷ text) (cond v [] (b ∷ without_last is_whitespace text))
back_step true b text e k = record { back = b ∷ text; is = refl; blank = e }
back_step false b text e k = record { back = k.back; is = ap (λ (t : List ℕ). b ∷ t) k.is; blank = k.blank }

back_of : (text : List ℕ) → Back text (without_last is_whitespace text)
back_of [] = record { back = []; is = refl; blank = refl }
back_of (b ∷ text) = back_step (list_all is_whitespace (b ∷ text)) b text refl (back_of text)

pub trimmed_around : (text : List ℕ) → IsAround text (trim text)
trimmed_around text =
    let f = prefix_of text in
    let k = back_of (trim_start text) in
    record { before = f.prefix; behind = k.back; is = f.is ∙ ap (λ (t : List ℕ). f.prefix ++ t) k.is; blank_before = f.blank; blank_behind = k.blank }

none_kept : (back : List ℕ) → list_all is_whitespace back ≡ true → without_last is_whitespace back ≡ []
none_kept [] h = refl
none_kept (b ∷ back) h = ap (λ v. cond v [] (b ∷ without_last is_whitespace back)) h

word_kept : (word back : List ℕ) → list_all solid word ≡ true → list_all is_whitespace back ≡ true → without_last is_whitespace (word ++ back) ≡ word
word_kept [] back h k = none_kept back k
word_kept (b ∷ word) back h k =
    ap (λ v. cond (v && list_all is_whitespace (word ++ back)) [] (b ∷ without_last is_whitespace (word ++ back)))
    (not-true (is_whitespace b) (left_of_and _ _ h))
    ∙ ap (λ (t : List ℕ). b ∷ t) (word_kept word back (right_of_and (solid b) _ h) k)

word_starts : (word back : List ℕ) → 0 < length word → list_all solid word ≡ true → trim_start (word ++ back) ≡ word ++ back
word_starts [] back n h = absurd (omega arith)
word_starts (b ∷ word) back n h = ap (λ v. cond v (trim_start (word ++ back)) (b ∷ (word ++ back))) (not-true (is_whitespace b) (left_of_and _ _ h))

pub around_trim : (text word : List ℕ) → IsAround text word → 0 < length word → list_all solid word ≡ true → trim text ≡ word
around_trim text word a n h =
    ap (without_last is_whitespace)
    (ap trim_start a.is ∙ blank_prefix a.before (word ++ a.behind) a.blank_before ∙ word_starts word a.behind n h)
    ∙ word_kept word a.behind h a.blank_behind

-- ---- a word

made_false : (a b c : Bool) → a ≡ false → b ≡ false → c ≡ true → (a || b || not c) ≡ false
made_false a b c h k l = rw (h, k, l) refl

some_bytes : (word : List ℕ) → is_empty word ≡ false → 0 < length word
some_bytes [] h = cc
some_bytes (b ∷ word) h = omega arith

no_empty : (word : List ℕ) → 0 < length word → is_empty word ≡ false
no_empty [] h = absurd (omega arith)
no_empty (b ∷ word) h = refl

all_others : (test : ℕ → Bool) (xs : List ℕ) → list_any test xs ≡ false → list_all (λ b. not (test b)) xs ≡ true
all_others test [] h = refl
all_others test (b ∷ xs) h = let p = or_parts (test b) (list_any test xs) h in and_from _ _ (ap not p.0) (all_others test xs p.1)

rule_word : (word : List ℕ) → is_bad_text word ≡ false → list_any (λ b. b == 58) word ≡ false → IsRuleWord word
rule_word word h k =
    let good = good_text word h in record {
      some = some_bytes word good.some;
      short = good.short;
      visible = good.bytes;
      unbounded = all_others (λ b. b == 58) word k;
    }

-- ---- a letter after a B/S text

abbrev names_other : List ℕ → Bool
names_other end = bytes_eq (map to_ascii_uppercase end) (codes "V") || bytes_eq (map to_ascii_uppercase end) (codes "H")

four : (b : ℕ) → names_neighbours b ≡ true → (b ≡ 86) ⊎ ((b ≡ 118) ⊎ ((b ≡ 72) ⊎ (b ≡ 104)))
four b h = grind (arith, nat_tests)

letter_names : (last : ℕ) → names_neighbours last ≡ true → names_other (last ∷ []) ≡ true
letter_names last h =
    let P : ℕ → Type 0 = λ b. names_other (b ∷ []) ≡ true in
    elim (four last h) [
      | inl e ↦ subst P (sym e) refl
      | inr r ↦ elim r [ inl e ↦ subst P (sym e) refl | inr q ↦ elim q [ inl e ↦ subst P (sym e) refl | inr e ↦ subst P (sym e) refl ] ]
    ]

v_names : (b : ℕ) → to_ascii_uppercase b ≡ 86 → names_neighbours b ≡ true
v_names b h = grind (arith, nat_tests)

h_names : (b : ℕ) → to_ascii_uppercase b ≡ 72 → names_neighbours b ≡ true
h_names b h = grind (arith, nat_tests)

named_end : (end : List ℕ) (v w : Bool) → bytes_eq (map to_ascii_uppercase end) (codes "V") ≡ v → bytes_eq (map to_ascii_uppercase end) (codes "H") ≡ w
    → (v || w) ≡ true
    → (last : ℕ) × (end ≡ last ∷ []) × (names_neighbours last ≡ true)
named_end end true w e f h = let p = one_letter end 86 (same_bytes (map to_ascii_uppercase end) (codes "V") e) in (p.0, p.1, v_names p.0 p.2)
named_end end false true e f h = let p = one_letter end 72 (same_bytes (map to_ascii_uppercase end) (codes "H") f) in (p.0, p.1, h_names p.0 p.2)
named_end end false false e f h = cc

some_of : (o : Option DigitSets) → is_some o ≡ true → (s : DigitSets) × (o ≡ Some s)
some_of None h = cc
some_of (Some s) h = (s, refl)

module _ (word prefix : List ℕ) (last : ℕ) (s : DigitSets) (w : word ≡ prefix ++ last ∷ []) (n : names_neighbours last ≡ true) (l : life_sets prefix ≡ Some s)
  where
    names_others : names_other_neighbours word ≡ true
    names_others =
        and_from (is_some (life_sets (take (length word - 1) word))) (names_other (drop (length word - 1) word))
        (ap (λ (t : List ℕ). is_some (life_sets t)) (prefix_is word prefix last w) ∙ ap is_some l)
        (ap names_other (end_is word prefix last w) ∙ letter_names last n)

-- ---- what an accepted text says

life_said : (word : List ℕ) (near : Near) (s : DigitSets) (rule : Rule) (v : Bool) → has_digit s.births 0 ≡ v → IsNearText near word s
    → cond v (Err BirthOnZero) (Ok (rule_with_sets near s)) ≡ Ok rule → WordSays word rule
life_said word near s rule true e l h = cc
life_said word near s rule false e l h = let same : rule_with_sets near s ≡ rule = cc in subst (WordSays word) same (l, e)

is_other : (word : List ℕ) → life_sets word ≡ None → names_other_neighbours word ≡ false → list_any (λ b. b == 47) word ≡ false → IsOtherWord word
is_other word none others slash = record {
  no_life = λ s l. let k : None ≡ Some s = sym none ∙ is_form_of_life word s l in cc;
  no_neighbours = λ prefix last s w n l. let k : false ≡ true = sym others ∙ names_others word prefix last s w n (is_form_of_life prefix s l) in cc;
  no_slash = all_others (λ b. b == 47) word slash;
}

other_said : (word : List ℕ) (rule : Rule) (v w : Bool) → names_other_neighbours word ≡ v → list_any (λ b. b == 47) word ≡ w → life_sets word ≡ None
    → cond v (Err UnsupportedRule) (cond w (Err UnsupportedRule) (Ok (Named word))) ≡ Ok rule → WordSays word rule
other_said word rule true w e f none h = cc
other_said word rule false true e f none h = cc
other_said word rule false false e f none h = let same : Named word ≡ rule = cc in subst (WordSays word) same (refl, is_other word none e f)

four_said : (word : List ℕ) (rule : Rule) (o : Option DigitSets) → life_sets word ≡ None → four_sets word ≡ o → four_or_other word o ≡ Ok rule
    → WordSays word rule
four_said word rule (Some s) none f h = life_said word VonNeumann s rule (has_digit s.births 0) refl (four_is_form word s f) h
four_said word rule None none f h = other_said word rule (names_other_neighbours word) (list_any (λ b. b == 47) word) refl refl none h

said : (word : List ℕ) (rule : Rule) (v w : Bool) (o : Option DigitSets) → is_bad_text word ≡ v → list_any (λ b. b == 58) word ≡ w → life_sets word ≡ o
    → cond v (Err BadRule) (cond w (Err BoundedGrid) (life_or_other word o)) ≡ Ok rule → IsRuleWord word × WordSays word rule
said word rule true w o e f l h = cc
said word rule false true o e f l h = cc
said word rule false false (Some s) e f l h = (rule_word word e f, life_said word Moore s rule (has_digit s.births 0) refl (life_is_form word s l) h)
said word rule false false None e f l h = (rule_word word e f, four_said word rule (four_sets word) l refl h)

accepted : (text : List ℕ) (rule : Rule) → rule_of text ≡ Ok rule → SaysRule text rule
unfolding rule_of
accepted text rule h =
    let p = said (trim text) rule (is_bad_text (trim text)) (list_any (λ b. b == 58) (trim text)) (life_sets (trim text)) refl refl refl h in
    record { word = trim text; around = trimmed_around text; is_word = p.0; says = p.1 }

-- ---- a text that says a rule is accepted

no_sets : (word : List ℕ) → IsOtherWord word → (o : Option DigitSets) → life_sets word ≡ o → o ≡ None
no_sets word h None e = refl
no_sets word h (Some s) e = absurd (h.no_life s (life_is_form word s e))

no_letter : (word : List ℕ) → IsOtherWord word → (v : Bool) → names_other_neighbours word ≡ v → v ≡ false
no_letter word h false e = refl
no_letter word h true e =
    let prefix = take (length word - 1) word in
    let end = drop (length word - 1) word in
    let s = some_of (life_sets prefix) (left_of_and (is_some (life_sets prefix)) (names_other end) e) in
    let p = named_end end (bytes_eq (map to_ascii_uppercase end) (codes "V")) (bytes_eq (map to_ascii_uppercase end) (codes "H")) refl refl
    (right_of_and (is_some (life_sets prefix)) (names_other end) e) in
    let w : word ≡ prefix ++ p.0 ∷ [] = sym (take-append-drop (length word - 1) word) ∙ ap (λ (t : List ℕ). prefix ++ t) p.1 in
    absurd (h.no_neighbours prefix p.0 s.0 w p.2 (life_is_form prefix s.0 s.1))

life_answers : (word : List ℕ) (near : Near) (sets : DigitSets) → IsNearText near word sets → has_digit sets.births 0 ≡ false
    → life_or_other word (life_sets word) ≡ Ok (rule_with_sets near sets)
life_answers word Moore sets h quiet = ap (life_or_other word) (is_form_of_life word sets h)
    ∙ ap (λ v. cond v (Err BirthOnZero) (Ok (rule_with_sets Moore sets)))
    quiet
life_answers word VonNeumann sets h quiet =
    ap (life_or_other word) (no_form_with_v word h.prefix h.last h.is h.letter (life_sets word) refl)
    ∙ ap (four_or_other word) (is_form_of_four word sets h)
    ∙ ap (λ v. cond v (Err BirthOnZero) (Ok (rule_with_sets VonNeumann sets))) quiet

answers : (word : List ℕ) (rule : Rule) → WordSays word rule → life_or_other word (life_sets word) ≡ Ok rule
answers word (Life rule) h = life_answers word rule.near rule.sets h.0 h.1
answers word (Named name) h =
    let letter = no_letter word h.1 (names_other_neighbours word) refl in
    ap (life_or_other word) (no_sets word h.1 (life_sets word) refl)
    ∙ ap (four_or_other word) (four_none word letter)
    ∙ ap (λ v. cond v (Err UnsupportedRule) (cond (list_any (λ b. b == 47) word) (Err UnsupportedRule) (Ok (Named word)))) letter
    ∙ ap (λ v. cond v (Err UnsupportedRule) (Ok (Named word))) (no_any (λ b. b == 47) word h.1.no_slash)
    ∙ ap (λ (n : List ℕ). Ok (Named n)) (sym h.0)

is_accepted : (text : List ℕ) (rule : Rule) → SaysRule text rule → rule_of text ≡ Ok rule
unfolding rule_of
is_accepted text rule says =
    let word = says.word in
    let is = says.is_word in
    let good : is_bad_text word ≡ false =
    made_false (is_empty word) (nat_lt 255 (length word)) (list_all visible word) (no_empty word is.some) (le-ltb 255 (length word) is.short) is.visible in
    ap rule_of_trimmed (around_trim text word says.around is.some (all_pass visible solid visible_solid word is.visible))
    ∙ ap (λ v. cond v (Err BadRule) (cond (list_any (λ b. b == 58) word) (Err BoundedGrid) (life_or_other word (life_sets word)))) good
    ∙ ap (λ v. cond v (Err BoundedGrid) (life_or_other word (life_sets word))) (no_any (λ b. b == 58) word is.unbounded)
    ∙ answers word rule says.says

pub rule_texts_are_plain : (text : List ℕ) (rule : Rule) → (rule_of text ≡ Ok rule) ↔ SaysRule text rule
rule_texts_are_plain text rule = (accepted text rule, is_accepted text rule)
