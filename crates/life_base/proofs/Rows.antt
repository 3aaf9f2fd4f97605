-- The definitions at worked examples, by computation.
use Rattle.std.proofs.Common.{◌≡◌, ℕ, ◌^◌, List, [], ◌∷◌, map, refl, codes, Result, Ok, Err}
use Rattle.life_base.specs.Text.{lines_of, words_of, value_of}
use Rattle.life_base.specs.Rules.{rule_of, rule_text, life_sets, four_sets, moore_rule_of, rule_with_sets}
use Rattle.life_base.specs.declared.kind.Kind.{Kind}
use Rattle.life_base.specs.declared.kind.Kind.TheVariants.{BadRule, BoundedGrid, UnsupportedRule, BirthOnZero}
use Rattle.life_base.specs.declared.rule.Near.TheVariants.{VonNeumann}
use Rattle.life_base.specs.declared.rule.Rule.{Rule}
use Rattle.life_base.specs.declared.rule.Rule.TheVariants.{Named}

-- the canonical text of a rule, where it is one
abbrev text_of : Result Rule Kind → Result (List ℕ) Kind
text_of (Ok rule) = Ok (rule_text rule)
text_of (Err kind) = Err kind

-- what is read in texts of rules: the canonical text or the kind of fault, and texts of which that is so
abbrev rule_rows : List (Result (List ℕ) Kind × List (List ℕ))
rule_rows =
    (Ok (codes "B/S"), codes "B/S" ∷ codes "BS" ∷ codes "/" ∷ []) ∷
    (Ok (codes "B/S23"), codes "23/" ∷ []) ∷
    (Ok (codes "B3/S23"), codes "23/3" ∷ codes "b3s23" ∷ codes "S23/B3" ∷ codes "s32B333" ∷ codes " B3/S23\t" ∷ []) ∷
    (Ok (codes "B36/S125"), codes "B36/S125" ∷ []) ∷
    (Ok (codes "B3/S23V"), codes "B3S23V" ∷ []) ∷
    (Ok (codes "B13/S02V"), codes "b31/s20v" ∷ []) ∷
    (Ok (codes "B/SV"), codes "B/SV" ∷ codes "BSv" ∷ []) ∷
    (Err BirthOnZero, codes "b012/s" ∷ codes "B0/S1V" ∷ []) ∷ (
      Err UnsupportedRule,
      codes "B2-a/S12" ∷ codes "B2/" ∷ codes "B9/S1" ∷ codes "a/b/c" ∷ codes "23/3V" ∷ codes "B3/S23h" ∷ codes "B3/S23H"
          ∷ codes "B05/S2V" ∷ codes "S23/B3V" ∷ codes "B1/S4VV" ∷ [],
    ) ∷
    (Err BoundedGrid, codes "B3/S23:T20" ∷ []) ∷
    (Err BadRule, codes "" ∷ codes "B3 S23" ∷ []) ∷
    []

rules_are_read : map (λ row. map (λ text. text_of (rule_of text)) row.1) rule_rows ≡ map (λ row. map (λ text. row.0) row.1) rule_rows
unfolding rule_of life_sets four_sets
rules_are_read = refl

-- texts of rules that are names
abbrev name_rows : List (List ℕ)
name_rows = codes "B3" ∷ codes "Life" ∷ codes "W110" ∷ codes "B2-aS12" ∷ codes "V" ∷ []

names_are_kept : map rule_of name_rows ≡ map (λ text. Ok (Named text)) name_rows
unfolding rule_of life_sets four_sets
names_are_kept = refl

four_is_a_rule : rule_of (codes "B1/S0V") ≡ Ok (rule_with_sets VonNeumann (record { births = 2; survivals = 1 }))
unfolding rule_of life_sets four_sets
four_is_a_rule = refl

moore_refuses : moore_rule_of (codes "B1/S0V") ≡ Err UnsupportedRule
unfolding life_sets
moore_refuses = refl

lines_row : lines_of (codes "a\n\nb\r\nc") ≡ codes "a" ∷ [] ∷ codes "b\r" ∷ codes "c" ∷ []
lines_row = refl

no_lines : lines_of [] ≡ []
no_lines = refl

last_feed : lines_of (codes "a\n") ≡ codes "a" ∷ []
last_feed = refl

one_feed : lines_of (codes "\n") ≡ [] ∷ []
one_feed = refl

words_row : words_of (codes " 4  0 0\t1 21\r") ≡ codes "4" ∷ codes "0" ∷ codes "0" ∷ codes "1" ∷ codes "21" ∷ []
words_row = refl

value_row : value_of (codes "0018446744073709551616") ≡ 2 ^ 64
value_row = refl
