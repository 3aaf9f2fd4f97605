-- What rule texts say, by what each text is. The B/S notation, and what its digits mean, are of Golly Help, QuickLife; names and the
-- bounds of a text are the project's own.
use Rattle.std.specs.Prelude.{◌≡◌, ◌⊎◌, ◌↔◌, ℕ, ◌<◌, ◌≤◌, Bool, true, false, not, ◌||◌, List, [], ◌∷◌, ◌++◌, length, map, ◌==◌, codes, Some, Ok}
use Rattle.std.specs.Char.{is_ascii_graphic, to_ascii_uppercase}
use Rattle.std.specs.List.{list_all}
use Rattle.std.specs.Str.{byte}
use Rattle.life_base.specs.Sets.{DigitSets}
use Rattle.life_base.specs.Text.{IsAround}
use Rattle.life_base.specs.Rules.{is_count_digit, digit_set, has_digit, life_sets, four_sets, rule_of}
use Rattle.life_base.specs.declared.rule.Near.{Near}
use Rattle.life_base.specs.declared.rule.Near.TheVariants.{Moore, VonNeumann}
use Rattle.life_base.specs.declared.rule.Rule.{Rule}
use Rattle.life_base.specs.declared.rule.Rule.TheVariants.{Life, Named}

-- the text, in upper case, is one of the five forms of a B/S rule with these digits
abbrev pub IsForm : List ℕ → List ℕ → List ℕ → Type 0
IsForm text births survivals =
    (text ≡ codes "B" ++ births ++ codes "/S" ++ survivals)
    ⊎ ((text ≡ codes "S" ++ survivals ++ codes "/B" ++ births)
    ⊎ ((text ≡ codes "B" ++ births ++ codes "S" ++ survivals)
    ⊎ ((text ≡ codes "S" ++ survivals ++ codes "B" ++ births)
    ⊎ (text ≡ survivals ++ codes "/" ++ births))))

-- The text is a B/S rule with these sets: it is of one of the five forms, letters in either case, with digits `0` to `8` of births and of
-- survivals, in any order and any number of times.
pub record IsLifeText (text : List ℕ) (sets : DigitSets) : Type 0 where
  pub births : List ℕ
  pub survivals : List ℕ
  pub birth_digits : list_all is_count_digit births ≡ true
  pub survival_digits : list_all is_count_digit survivals ≡ true
  pub form : IsForm (map to_ascii_uppercase text) births survivals
  pub birth_set : sets.births ≡ digit_set births
  pub survival_set : sets.survivals ≡ digit_set survivals

-- The text is a von Neumann rule with these sets: a B/S rule that begins with `B` or `b`, with no digit above 4, and then `V` or `v`.
pub record IsFourText (text : List ℕ) (sets : DigitSets) : Type 0 where
  pub prefix : List ℕ
  pub last : ℕ
  pub is : text ≡ prefix ++ last ∷ []
  pub letter : to_ascii_uppercase last ≡ byte "V"
  pub rest : List ℕ
  pub begins : map to_ascii_uppercase prefix ≡ byte "B" ∷ rest
  pub form : IsLifeText prefix sets
  pub births : sets.births < 32
  pub survivals : sets.survivals < 32

-- the text is a B/S rule with these neighbours and sets
abbrev pub IsNearText : Near → List ℕ → DigitSets → Type 0
IsNearText Moore text sets = IsLifeText text sets
IsNearText VonNeumann text sets = IsFourText text sets

-- the word has 1 to 255 visible characters of ASCII, and no colon
pub record IsRuleWord (word : List ℕ) : Type 0 where
  pub some : 0 < length word
  pub short : length word ≤ 255
  pub visible : list_all is_ascii_graphic word ≡ true
  pub unbounded : list_all (λ b. not (b == byte ":")) word ≡ true

-- `V`, `v`, `H` or `h`
abbrev pub names_neighbours : ℕ → Bool
names_neighbours b = b == byte "V" || b == byte "v" || b == byte "H" || b == byte "h"

-- the word is no B/S rule, none of the eight neighbours after which a letter names others, and has no slash
pub record IsOtherWord (word : List ℕ) : Type 0 where
  pub no_life : (sets : DigitSets) → IsLifeText word sets → ⊥
  pub no_neighbours : (prefix : List ℕ) (last : ℕ) (sets : DigitSets) → word ≡ prefix ++ last ∷ [] → names_neighbours last ≡ true → IsLifeText prefix sets → ⊥
  pub no_slash : list_all (λ b. not (b == byte "/")) word ≡ true

-- the word says this rule: a B/S rule without a birth on 0, or itself as a name
abbrev pub WordSays : List ℕ → Rule → Type 0
WordSays word (Life rule) = IsNearText rule.near word rule.sets × (has_digit rule.sets.births 0 ≡ false)
WordSays word (Named name) = (name ≡ word) × IsOtherWord word

-- the text, without whitespace at its ends, is a word that says this rule
pub record SaysRule (text : List ℕ) (rule : Rule) : Type 0 where
  pub word : List ℕ
  pub around : IsAround text word
  pub is_word : IsRuleWord word
  pub says : WordSays word rule

-- the sets of a text are those of the five forms
abbrev pub LifeTextsAreForms : Type 0
LifeTextsAreForms = (text : List ℕ) (sets : DigitSets) → (life_sets text ≡ Some sets) ↔ IsLifeText text sets

-- the sets of a von Neumann text are those of its form
abbrev pub FourTextsAreForms : Type 0
FourTextsAreForms = (text : List ℕ) (sets : DigitSets) → (four_sets text ≡ Some sets) ↔ IsFourText text sets

-- a text is read as a rule exactly if it says that rule
abbrev pub RuleTextsArePlain : Type 0
RuleTextsArePlain = (text : List ℕ) (rule : Rule) → (rule_of text ≡ Ok rule) ↔ SaysRule text rule
