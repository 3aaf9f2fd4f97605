-- What a rule text says is a rule.
use Rattle.std.proofs.Common.{◌≡◌, ℕ, ◌<◌, ◌+◌, ◌-◌, ◌^◌, ◌&&◌, length, take, List, [], ◌∷◌, Bool, true, false, cond, refl, ap, subst, ◌∙◌, arith, ◌==◌, nat_lt, codes, bytes_eq, Option, Some, None, Ok, Err}
use Rattle.std.specs.List.{list_any}
use Rattle.life_base.proofs.NamesRead.{rule_text_trimmed}
use Rattle.life_base.specs.Sets.{DigitSets, OuterTotalistic}
use Rattle.life_base.specs.Text.{trim}
use Rattle.life_base.specs.Rules.{rule_of, rule_of_trimmed, is_bad_text, has_digit, digit_set, digit_groups, marks, sets, life_form, life_sets, four_sets, up_to_four, life_or_other, four_or_other, names_other_neighbours, rule_with_sets, most_neighbours, IsLifeRule, IsRule, default_rule}
use Rattle.life_base.specs.declared.kind.Kind.TheVariants.{BadRule, BoundedGrid, UnsupportedRule, BirthOnZero}
use Rattle.life_base.specs.declared.rule.Near.{Near}
use Rattle.life_base.specs.declared.rule.Near.TheVariants.{Moore, VonNeumann}
use Rattle.life_base.specs.declared.rule.Rule.{Rule}
use Rattle.life_base.specs.declared.rule.Rule.TheVariants.{Life, Named}
use Rattle.life_base.proofs.RuleForms.{below_32}
use Rattle.life_base.proofs.Basics.{cond_le}

-- ---- a name

other_named : (text name : List ℕ) (v w : Bool) → cond v (Err UnsupportedRule) (cond w (Err UnsupportedRule) (Ok (Named text))) ≡ Ok (Named name) → text ≡ name
other_named text name true w h = cc
other_named text name false true h = cc
other_named text name false false h = cc

life_not_named : (rule : OuterTotalistic) (name : List ℕ) (v : Bool) → cond v (Err BirthOnZero) (Ok (Life rule)) ≡ Ok (Named name) → ⊥
life_not_named rule name true h = cc
life_not_named rule name false h = cc

four_named : (text name : List ℕ) (o : Option DigitSets) → four_or_other text o ≡ Ok (Named name) → text ≡ name
four_named text name (Some sets) h = absurd (life_not_named (record { sets = sets; near = VonNeumann }) name (has_digit sets.births 0) h)
four_named text name None h = other_named text name (names_other_neighbours text) (list_any (λ b. b == 47) text) h

named_by : (text name : List ℕ) (v w : Bool) (o : Option DigitSets)
    → cond v (Err BadRule) (cond w (Err BoundedGrid) (life_or_other text o)) ≡ Ok (Named name) → (v ≡ false) × (text ≡ name)
named_by text name true w o h = cc
named_by text name false true o h = cc
named_by text name false false (Some sets) h = absurd (life_not_named (record { sets = sets; near = Moore }) name (has_digit sets.births 0) h)
named_by text name false false None h = (refl, four_named text name (four_sets text) h)

-- a name is its text without the whitespace at its ends, which is no bad text
pub named_is : (text name : List ℕ) → rule_of text ≡ Ok (Named name) → (is_bad_text (trim text) ≡ false) × (trim text ≡ name)
unfolding rule_of
named_is text name h = named_by (trim text) name (is_bad_text (trim text)) (list_any (λ b. b == 58) (trim text)) (life_sets (trim text)) h

trimmed_again : (text : List ℕ) → is_bad_text (trim text) ≡ false → rule_of (trim text) ≡ rule_of text
unfolding rule_of
trimmed_again text h = ap rule_of_trimmed (rule_text_trimmed (trim text) h)

-- ---- the sets of a B/S rule

set_small : (text : List ℕ) → digit_set text < 512
set_small text = omega (
  arith,
  cond_le (list_any (λ b. b == 48) text) 1,
  cond_le (list_any (λ b. b == 49) text) 2,
  cond_le (list_any (λ b. b == 50) text) 4,
  cond_le (list_any (λ b. b == 51) text) 8,
  cond_le (list_any (λ b. b == 52) text) 16,
  cond_le (list_any (λ b. b == 53) text) 32,
  cond_le (list_any (λ b. b == 54) text) 64,
  cond_le (list_any (λ b. b == 55) text) 128,
  cond_le (list_any (λ b. b == 56) text) 256,
)

abbrev AreBelow : ℕ → Option DigitSets → Type 0
AreBelow bound None = Unit {0}
AreBelow bound (Some sets) = (sets.births < bound) × (sets.survivals < bound)

either : (bound : ℕ) (v : Bool) (o p : Option DigitSets) → AreBelow bound o → AreBelow bound p → AreBelow bound (cond v o p)
either bound true o p h k = h
either bound false o p h k = k

abbrev AreSmall : Option DigitSets → Type 0
AreSmall = AreBelow 512

small_either : (v : Bool) (o p : Option DigitSets) → AreSmall o → AreSmall p → AreSmall (cond v o p)
small_either = either 512

small_sets : (births survivals : List ℕ) → AreSmall (sets births survivals)
small_sets births survivals = (set_small births, set_small survivals)

-- the three forms with one `/`, with two letters, and with `/` and two letters
plain_small : (a b ms : List ℕ) → AreSmall (cond (bytes_eq ms (codes "/")) (sets b a) None)
plain_small a b ms = small_either (bytes_eq ms (codes "/")) (sets b a) None (small_sets b a) tt

lettered_small : (a b ms first second : List ℕ) → AreSmall (cond (bytes_eq ms first) (sets a b) (cond (bytes_eq ms second) (sets b a) None))
lettered_small a b ms first second =
    small_either (bytes_eq ms first) (sets a b) (cond (bytes_eq ms second) (sets b a) None) (small_sets a b)
    (small_either (bytes_eq ms second) (sets b a) None (small_sets b a) tt)

form_small : (groups : List (List ℕ)) (ms : List ℕ) → AreSmall (life_form groups ms)
form_small [] ms = tt
form_small ([] ∷ []) ms = tt
form_small ((x ∷ a) ∷ []) ms = tt
form_small ([] ∷ b ∷ []) ms = plain_small [] b ms
form_small ((x ∷ a) ∷ b ∷ []) ms = plain_small (x ∷ a) b ms
form_small ([] ∷ a ∷ [] ∷ []) ms = lettered_small a [] ms (codes "BS") (codes "SB")
form_small ([] ∷ a ∷ (x ∷ b) ∷ []) ms = lettered_small a (x ∷ b) ms (codes "BS") (codes "SB")
form_small ((x ∷ a) ∷ b ∷ c ∷ []) ms = tt
form_small ([] ∷ a ∷ [] ∷ b ∷ []) ms = lettered_small a b ms (codes "B/S") (codes "S/B")
form_small ([] ∷ a ∷ (x ∷ b) ∷ c ∷ []) ms = tt
form_small ((x ∷ a) ∷ b ∷ c ∷ d ∷ []) ms = tt
form_small ([] ∷ a ∷ [] ∷ b ∷ c ∷ groups) ms = tt
form_small ([] ∷ a ∷ (x ∷ b) ∷ c ∷ d ∷ groups) ms = tt
form_small ((x ∷ a) ∷ b ∷ c ∷ d ∷ e ∷ groups) ms = tt

life_small : (text : List ℕ) → AreSmall (life_sets text)
unfolding life_sets
life_small text = form_small (digit_groups text) (marks text)

within : (s : DigitSets) (u v : Bool) → nat_lt s.births 32 ≡ u → nat_lt s.survivals 32 ≡ v → AreBelow 32 (cond (u && v) (Some s) None)
within s true true e f = (below_32 s.births e, below_32 s.survivals f)
within s true false e f = tt
within s false v e f = tt

up_to_four_below : (o : Option DigitSets) → AreBelow 32 (up_to_four o)
up_to_four_below None = tt
up_to_four_below (Some s) = within s (nat_lt s.births 32) (nat_lt s.survivals 32) refl refl

four_below : (text : List ℕ) → AreBelow 32 (four_sets text)
unfolding four_sets
four_below text = either 32 _ _ None (up_to_four_below (life_sets (take (length text - 1) text))) tt

other_not_life : (text : List ℕ) (rule : OuterTotalistic) (v w : Bool) → cond v (Err UnsupportedRule) (cond w (Err UnsupportedRule) (Ok (Named text)))
    ≡ Ok (Life rule) → ⊥
other_not_life text rule true w h = cc
other_not_life text rule false true h = cc
other_not_life text rule false false h = cc

life_said : (near : Near) (found : DigitSets) (rule : OuterTotalistic) → AreBelow (2 ^ (most_neighbours near + 1)) (Some found) → (v : Bool)
    → has_digit found.births 0 ≡ v
    → cond v (Err BirthOnZero) (Ok (rule_with_sets near found)) ≡ Ok (Life rule) → IsLifeRule rule
life_said near found rule s true e h = cc
life_said near found rule s false e h =
    let here : OuterTotalistic = record { sets = found; near = near } in
    let same : here ≡ rule = cc in
    subst IsLifeRule same (record { births = s.0; survivals = s.1; no_birth_on_zero = e })

four_by : (text : List ℕ) (rule : OuterTotalistic) (o : Option DigitSets) → AreBelow 32 o → four_or_other text o ≡ Ok (Life rule) → IsLifeRule rule
four_by text rule (Some found) s h = life_said VonNeumann found rule s (has_digit found.births 0) refl h
four_by text rule None s h = absurd (other_not_life text rule (names_other_neighbours text) (list_any (λ b. b == 47) text) h)

life_by : (text : List ℕ) (rule : OuterTotalistic) (v w : Bool) (o : Option DigitSets) → AreSmall o
    → cond v (Err BadRule) (cond w (Err BoundedGrid) (life_or_other text o)) ≡ Ok (Life rule) → IsLifeRule rule
life_by text rule true w o s h = cc
life_by text rule false true o s h = cc
life_by text rule false false (Some found) s h = life_said Moore found rule s (has_digit found.births 0) refl h
life_by text rule false false None s h = four_by text rule (four_sets text) (four_below text) h

life_is : (text : List ℕ) (rule : OuterTotalistic) → rule_of text ≡ Ok (Life rule) → IsLifeRule rule
unfolding rule_of
life_is text rule h = life_by (trim text) rule (is_bad_text (trim text)) (list_any (λ b. b == 58) (trim text)) (life_sets (trim text)) (life_small (trim text))
    h

pub rule_values : (text : List ℕ) (rule : Rule) → rule_of text ≡ Ok rule → IsRule rule
rule_values text (Life rule) h = life_is text rule h
rule_values text (Named name) h =
    let p = named_is text name h in
    let P : List ℕ → Type 0 = λ t. rule_of t ≡ Ok (Named name) in
    subst P p.1 (trimmed_again text p.0 ∙ h)

-- ---- values of rules

pub default_is_rule : IsRule default_rule
default_is_rule = record { births = omega arith; survivals = omega arith; no_birth_on_zero = refl }

-- a set of counts of neighbours is a set of nine digits
pub set_below_512 : (near : Near) (set : ℕ) → set < 2 ^ (most_neighbours near + 1) → set < 512
set_below_512 Moore set h = h
set_below_512 VonNeumann set h = omega (arith, h)
