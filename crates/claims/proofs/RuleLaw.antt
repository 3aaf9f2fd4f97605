-- The rule that a text names is that of the layer below, with its sets as lists.
use Rattle.std.proofs.Common.{◌≡◌, ℕ, ◌-◌, List, [], ◌∷◌, length, take, drop, map, Bool, true, false, cond, ◌&&◌, ◌||◌, refl, ap, ◌∙◌, sym, is_some, filter, nat_le, nat_lt, ◌==◌, bytes_eq, codes, Option, Some, None, Result, Ok, Err}
use Rattle.std.specs.Char.{to_ascii_uppercase}
use Rattle.std.specs.List.{list_all, list_any}
use Rattle.std.specs.Option.{option_map}
use Rattle.life_base.specs.Numbers.{result_map}
use Rattle.life_base.specs.Sets.{DigitSets}
use Rattle.life_base.specs.Text.{trim, begins_with}
use Rattle.life_base.specs.Rules.{has_digit, digit_set, digit_groups, marks, life_form, life_sets, four_sets, up_to_four, life_rule, life_or_other, four_or_other, is_bad_text, rule_of as layer_rule_of, most_neighbours}
use Rattle.life_base.specs.declared.kind.Kind.{Kind}
use Rattle.life_base.specs.declared.kind.Kind.TheVariants as kinds
use Rattle.life_base.specs.declared.rule.Near.{Near}
use Rattle.life_base.specs.declared.rule.Near.TheVariants.{Moore, VonNeumann}
use Rattle.life_base.specs.declared.rule.Rule.{Rule as LayerRule}
use Rattle.life_base.specs.declared.rule.Rule.TheVariants.{Life, Named}
use Rattle.claims.specs.Rules.{Rule, counting, named, neighbour_counts, counts_in, has, Digits, digits_by_marks, claimed_digits_of, counting_rule, are_up_to_four, lettered_rule, word_rule, claimed_other_rule, claimed_rule_of}
use Rattle.claims.proofs.Bits.{counts-digit_set, zero-digit_set, four-digit_set}

-- a rule of the layer in the words of the claims
abbrev pub rule_in : LayerRule → Rule
rule_in (Life rule) =
    counting (most_neighbours rule.near) (filter (has_digit rule.sets.births) neighbour_counts) (filter (has_digit rule.sets.survivals) neighbour_counts)
rule_in (Named name) = named name

-- the sets of digits
abbrev sets_in : Digits → DigitSets
sets_in digits = record { births = digit_set digits.births; survivals = digit_set digits.survivals }

choose : (u v : Bool) (a b : Option Digits) → option_map sets_in (cond u a (cond v b None)) ≡ cond u (option_map sets_in a) (cond v (option_map sets_in b) None)
choose true v a b = refl
choose false true a b = refl
choose false false a b = refl

choose_one : (u : Bool) (a : Option Digits) → option_map sets_in (cond u a None) ≡ cond u (option_map sets_in a) None
choose_one true a = refl
choose_one false a = refl

form_is : (marks : List ℕ) (texts : List (List ℕ)) → option_map sets_in (digits_by_marks marks texts) ≡ life_form texts marks
form_is marks [] = refl
form_is marks ([] ∷ []) = refl
form_is marks ((x ∷ a) ∷ []) = refl
form_is marks ([] ∷ b ∷ []) = choose_one (bytes_eq marks (codes "/")) _
form_is marks ((x ∷ a) ∷ b ∷ []) = choose_one (bytes_eq marks (codes "/")) _
form_is marks ([] ∷ a ∷ [] ∷ []) = choose (bytes_eq marks (codes "BS")) (bytes_eq marks (codes "SB")) _ _
form_is marks ([] ∷ a ∷ (x ∷ b) ∷ []) = choose (bytes_eq marks (codes "BS")) (bytes_eq marks (codes "SB")) _ _
form_is marks ((x ∷ a) ∷ b ∷ c ∷ []) = refl
form_is marks ([] ∷ a ∷ [] ∷ b ∷ []) = choose (bytes_eq marks (codes "B/S")) (bytes_eq marks (codes "S/B")) _ _
form_is marks ([] ∷ a ∷ (x ∷ b) ∷ c ∷ []) = refl
form_is marks ((x ∷ a) ∷ b ∷ c ∷ d' ∷ []) = refl
form_is marks ([] ∷ a ∷ [] ∷ b ∷ c ∷ texts) = refl
form_is marks ([] ∷ a ∷ (x ∷ b) ∷ c ∷ d' ∷ texts) = refl
form_is marks ((x ∷ a) ∷ b ∷ c ∷ d' ∷ e ∷ texts) = refl

sets_are : (text : List ℕ) → option_map sets_in (claimed_digits_of text) ≡ life_sets text
unfolding claimed_digits_of life_sets
sets_are text = form_is (marks text) (digit_groups text)

-- the rule of digits
counting_step : (near : Near) (v : Bool) (b s : List ℕ) (sets : DigitSets) → filter (has_digit sets.births) neighbour_counts ≡ b
    → filter (has_digit sets.survivals) neighbour_counts ≡ s
    → cond v (Err kinds.BirthOnZero) (Ok (counting (most_neighbours near) b s))
    ≡ result_map rule_in (cond v (Err kinds.BirthOnZero) (Ok (Life (record { sets = sets; near = near }))))
counting_step near true b s sets e f = refl
counting_step near false b s sets e f = ap (λ (x : List ℕ). Ok (counting (most_neighbours near) x s)) (sym e)
    ∙ ap (λ (x : List ℕ). Ok (counting (most_neighbours near) (filter (has_digit sets.births) neighbour_counts) x)) (sym f)

counting_is : (near : Near) (digits : Digits) → counting_rule (most_neighbours near) digits ≡ result_map rule_in (life_rule near (sets_in digits))
counting_is near digits =
    counting_step near (has digits.births 48) _ _ (sets_in digits) (counts-digit_set digits.births) (counts-digit_set digits.survivals)
    ∙ ap (λ v. result_map rule_in (cond v (Err kinds.BirthOnZero) (Ok (Life (record { sets = sets_in digits; near = near }))))) (zero-digit_set digits.births)

other_step : (v : Bool) (word : List ℕ)
    → cond v (Err kinds.UnsupportedRule) (Ok (named word)) ≡ result_map rule_in (cond v (Err kinds.UnsupportedRule) (Ok (Named word)))
other_step true word = refl
other_step false word = refl

-- four neighbours, or another word
prefix_is : (prefix : List ℕ) → begins_with (map to_ascii_uppercase prefix) (codes "B") ≡ bytes_eq (map to_ascii_uppercase (take 1 prefix)) (codes "B")
prefix_is [] = refl
prefix_is (b ∷ prefix) = refl

unsupported_step : (v h s : Bool) (word : List ℕ)
    → cond (v || h) (Err kinds.UnsupportedRule) (cond s (Err kinds.UnsupportedRule) (Ok (named word)))
    ≡ result_map rule_in (cond (v || h) (Err kinds.UnsupportedRule) (cond s (Err kinds.UnsupportedRule) (Ok (Named word))))
unsupported_step true h s word = refl
unsupported_step false true s word = refl
unsupported_step false false true word = refl
unsupported_step false false false word = refl

fours : (digits : Digits) → are_up_to_four digits ≡ nat_lt (digit_set digits.births) 32 && nat_lt (digit_set digits.survivals) 32
fours digits = ap (λ v. v && list_all (λ n. nat_le n 4) (counts_in digits.survivals)) (four-digit_set digits.births)
    ∙ ap (λ v. nat_lt (digit_set digits.births) 32 && v) (four-digit_set digits.survivals)

-- by what the prefix is
abbrev prefix_of : List ℕ → List ℕ
prefix_of word = take (length word - 1) word

abbrev letter_of : List ℕ → List ℕ
letter_of word = map to_ascii_uppercase (drop (length word - 1) word)

abbrev four_of : List ℕ → Option DigitSets → Option DigitSets
four_of word sets =
    cond (bytes_eq (map to_ascii_uppercase (take 1 (prefix_of word))) (codes "B") && bytes_eq (letter_of word) (codes "V")) (up_to_four sets) None

abbrev names_of : List ℕ → Option DigitSets → Bool
names_of word sets = is_some sets && (bytes_eq (letter_of word) (codes "V") || bytes_eq (letter_of word) (codes "H"))

abbrev other_of : List ℕ → Option DigitSets → Result LayerRule Kind
other_of word sets = cond (names_of word sets) (Err kinds.UnsupportedRule) (cond (list_any (λ b. b == 47) word) (Err kinds.UnsupportedRule) (Ok (Named word)))

abbrev four_or : List ℕ → Option DigitSets → Option DigitSets → Result LayerRule Kind
four_or word sets (Some found) = life_rule VonNeumann found
four_or word sets None = other_of word sets

lettered_is : (word : List ℕ) (found : Option Digits)
    → lettered_rule word (map to_ascii_uppercase (prefix_of word)) (letter_of word) found
    ≡ result_map rule_in (four_or word (option_map sets_in found) (four_of word (option_map sets_in found)))
lettered_is word None = other_step (list_any (λ b. b == 47) word) word
    ∙ ap (λ (r : Result LayerRule Kind). result_map rule_in r)
    (sym (none_step (bytes_eq (map to_ascii_uppercase (take 1 (prefix_of word))) (codes "B") && bytes_eq (letter_of word) (codes "V"))))
  where
    none_step : (u : Bool) → four_or word None (cond u None None) ≡ other_of word None
    none_step true = refl
    none_step false = refl
lettered_is word (Some digits) =
    ap (λ b. cond (b && bytes_eq (letter_of word) (codes "V") && are_up_to_four digits) (counting_rule 4 digits) rest) (prefix_is (prefix_of word))
    ∙ ap (λ f. cond (bytes_eq (map to_ascii_uppercase (take 1 (prefix_of word))) (codes "B") && bytes_eq (letter_of word) (codes "V") && f)
    (counting_rule 4 digits) rest) (fours digits)
    ∙ step (bytes_eq (map to_ascii_uppercase (take 1 (prefix_of word))) (codes "B")) (bytes_eq (letter_of word) (codes "V")) _ _ _
    (counting_is VonNeumann digits)
    (unsupported_step (bytes_eq (letter_of word) (codes "V")) (bytes_eq (letter_of word) (codes "H")) (list_any (λ b. b == 47) word) word)
  where
    rest : Result Rule Kind
    rest = cond (bytes_eq (letter_of word) (codes "V") || bytes_eq (letter_of word) (codes "H")) (Err kinds.UnsupportedRule) (claimed_other_rule word)

    step : (b v f : Bool) (x y : Result Rule Kind) → x ≡ result_map rule_in (life_rule VonNeumann (sets_in digits))
        → y ≡ result_map rule_in (other_of word (Some (sets_in digits)))
        → cond (b && v && f) x y ≡ result_map rule_in (four_or word (Some (sets_in digits)) (cond (b && v) (cond f (Some (sets_in digits)) None) None))
    step true true true x y e g = e
    step true true false x y e g = g
    step true false f x y e g = g
    step false v f x y e g = g

word_is : (word : List ℕ) (found : Option Digits) → option_map sets_in found ≡ life_sets word
    → word_rule word found ≡ result_map rule_in (life_or_other word (option_map sets_in found))
unfolding four_sets
word_is word (Some digits) e = counting_is Moore digits
word_is word None e =
    lettered_is word (claimed_digits_of (prefix_of word))
    ∙ ap (λ (s : Option DigitSets). result_map rule_in (four_or word s (four_of word s))) (sets_are (prefix_of word)) ∙ same_or
  where
    same_or : result_map rule_in (four_or word (life_sets (prefix_of word)) (four_of word (life_sets (prefix_of word))))
        ≡ result_map rule_in (four_or_other word (four_of word (life_sets (prefix_of word))))
    same_or = elim (four_of word (life_sets (prefix_of word))) as (λ o. result_map rule_in (four_or word (life_sets (prefix_of word)) o)
        ≡ result_map rule_in (four_or_other word o)) [ None ↦ refl | Some found ↦ refl ]

tests_are : (a b : Bool) (x : Result Rule Kind) (y : Result LayerRule Kind) → x ≡ result_map rule_in y
    → cond a (Err kinds.BadRule) (cond b (Err kinds.BoundedGrid) x) ≡ result_map rule_in (cond a (Err kinds.BadRule) (cond b (Err kinds.BoundedGrid) y))
tests_are true b x y e = refl
tests_are false true x y e = refl
tests_are false false x y e = e

-- a text names the rule that the layer below reads in it, and is refused where it is there
pub rule_of_is : (text : List ℕ) → claimed_rule_of text ≡ result_map rule_in (layer_rule_of text)
unfolding claimed_rule_of layer_rule_of
rule_of_is text =
    let word = trim text in
    tests_are (is_bad_text word) (list_any (λ b. b == 58) word) _ _
    (word_is word (claimed_digits_of word) (sets_are word) ∙ ap (λ (s : Option DigitSets). result_map rule_in (life_or_other word s)) (sets_are word))
