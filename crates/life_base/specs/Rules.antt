-- Rule texts: what each text says, and the text of each rule. The B/S notation, and what its digits mean, are of Golly Help,
-- QuickLife. The order of the tests, the kinds of fault, names and canonical texts are the project's own.
use Rattle.std.specs.Prelude.{◌≡◌, ◌↔◌, ◌⊎◌, ℕ, ◌+◌, ◌-◌, ◌/◌, ◌%◌, ◌^◌, ◌<◌, Bool, true, false, not, ◌&&◌, ◌||◌, List, [], ◌∷◌, ◌++◌, length, take, drop, map, filter, sum_by, nat_le, nat_lt, ◌==◌, if◌then◌else◌, bytes_eq, codes, is_some, IfSome, Option, Some, None, Result, Ok, Err}
use Rattle.std.specs.Char.{is_ascii_graphic, to_ascii_uppercase}
use Rattle.std.specs.List.{list_all, list_any, slice_split}
use Rattle.std.specs.Option.{option_map}
use Rattle.std.specs.Str.{byte}
use Rattle.life_base.specs.Sets.{DigitSets, OuterTotalistic}
use Rattle.life_base.specs.Text.{trim, is_empty}
use Rattle.life_base.specs.declared.kind.Kind.{Kind}
use Rattle.life_base.specs.declared.kind.Kind.TheVariants.{BadRule, BoundedGrid, UnsupportedRule, BirthOnZero}
use Rattle.life_base.specs.declared.kind.Kind.TheVariants as kinds
use Rattle.life_base.specs.declared.rule.Near.{Near}
use Rattle.life_base.specs.declared.rule.Near.TheVariants.{Moore, VonNeumann}
use Rattle.life_base.specs.declared.rule.Rule.{Rule}
use Rattle.life_base.specs.declared.rule.Rule.TheVariants.{Life, Named}

-- the digits that a rule may name: how many of a cell's neighbours are alive (Golly Help, QuickLife)
abbrev pub counts : List ℕ
counts = 0 ∷ 1 ∷ 2 ∷ 3 ∷ 4 ∷ 5 ∷ 6 ∷ 7 ∷ 8 ∷ []

-- a set of digits contains this one
abbrev pub has_digit : ℕ → ℕ → Bool
has_digit set d = set / 2 ^ d % 2 == 1

-- the set of the digits that a text names, in any order and any number of times (the project's own)
abbrev pub digit_set : List ℕ → ℕ
digit_set text = sum_by (λ d. if list_any (λ b. b == byte "0" + d) text then 2 ^ d else 0) counts

-- the digits of a set, in rising order
abbrev pub digits_of : ℕ → List ℕ
digits_of set = map (λ d. byte "0" + d) (filter (has_digit set) counts)

-- `0` to `8`
abbrev pub is_count_digit : ℕ → Bool
is_count_digit b = nat_le (byte "0") b && nat_le b (byte "8")

-- the texts before, between and after the bytes that are no digits `0` to `8`
abbrev pub digit_groups : List ℕ → List (List ℕ)
digit_groups text = slice_split (λ b. not (is_count_digit b)) text

-- the bytes that are no digits `0` to `8`, letters in upper case
abbrev pub marks : List ℕ → List ℕ
marks text = map to_ascii_uppercase (filter (λ b. not (is_count_digit b)) text)

-- the sets of two texts of digits
abbrev pub sets : List ℕ → List ℕ → Option DigitSets
sets births survivals = Some (record { births = digit_set births; survivals = digit_set survivals })

-- The five forms of a B/S rule, by the texts between its marks and by the marks: `B3/S23` (Golly Help, QuickLife); `B3S23`,
-- `S23/B3`, `S23B3` and, survivals first, `23/3` (the project's own). Each group of digits may be empty.
abbrev pub life_form : List (List ℕ) → List ℕ → Option DigitSets
life_form ([] ∷ first ∷ [] ∷ second ∷ []) marks =
    if bytes_eq marks (codes "B/S") then sets first second
    else (if bytes_eq marks (codes "S/B") then sets second first else None)
life_form ([] ∷ first ∷ second ∷ []) marks =
    if bytes_eq marks (codes "BS") then sets first second
    else (if bytes_eq marks (codes "SB") then sets second first else None)
life_form (first ∷ second ∷ []) marks = if bytes_eq marks (codes "/") then sets second first else None
life_form _ marks = None

-- the births and survivals of a text of one of the five forms
unfoldable pub life_sets : List ℕ → Option DigitSets
life_sets text = life_form (digit_groups text) (marks text)

-- a B/S text followed by `V` for the von Neumann neighbourhood, or by `H` for the hexagonal one (Golly Help, QuickLife; the small
-- letters, the project's own)
abbrev pub names_other_neighbours : List ℕ → Bool
names_other_neighbours text =
    is_some (life_sets (take (length text - 1) text))
    && (bytes_eq (map to_ascii_uppercase (drop (length text - 1) text)) (codes "V")
    || bytes_eq (map to_ascii_uppercase (drop (length text - 1) text)) (codes "H"))

-- the sets, if no digit is above 4: the four neighbours of a cell are no more
abbrev pub up_to_four : Option DigitSets → Option DigitSets
up_to_four (Some sets) = if nat_lt sets.births 32 && nat_lt sets.survivals 32 then Some sets else None
up_to_four None = None

-- the births and survivals of a text of a von Neumann rule: `B`, births, `/S` or `S`, and survivals, with no digit above 4, and then `V`,
-- letters in either case (Golly Help, QuickLife; without the `/`, and small letters, the project's own)
unfoldable pub four_sets : List ℕ → Option DigitSets
four_sets text =
    if bytes_eq (map to_ascii_uppercase (take 1 (take (length text - 1) text))) (codes "B")
    && bytes_eq (map to_ascii_uppercase (drop (length text - 1) text)) (codes "V")
    then up_to_four (life_sets (take (length text - 1) text))
    else None

-- a text that no rule has: empty, above 255 bytes, or with a byte outside 0x21 to 0x7E, the visible characters of ASCII
abbrev pub is_bad_text : List ℕ → Bool
is_bad_text text = is_empty text || nat_lt 255 (length text) || not (list_all is_ascii_graphic text)

-- the B/S rule with these digits and neighbours
abbrev pub rule_with_sets : Near → DigitSets → Rule
rule_with_sets near sets = Life (record { sets = sets; near = near })

-- a B/S rule, unless cells are born on 0: then the empty plane would not stay empty
abbrev pub life_rule : Near → DigitSets → Result Rule Kind
life_rule near sets = if has_digit sets.births 0 then Err BirthOnZero else Ok (rule_with_sets near sets)

-- a text that is no B/S rule: a name, kept byte for byte, unless it names other neighbours or has a slash
abbrev pub other_rule : List ℕ → Result Rule Kind
other_rule text =
    if names_other_neighbours text then Err UnsupportedRule
    else (if list_any (λ b. b == byte "/") text then Err UnsupportedRule else Ok (Named text))

-- the rule of a text of none of the five forms, by its sets if it is that of a von Neumann rule
abbrev pub four_or_other : List ℕ → Option DigitSets → Result Rule Kind
four_or_other text (Some sets) = life_rule VonNeumann sets
four_or_other text None = other_rule text

-- the rule of a text, by its sets if it is of one of the five forms
abbrev pub life_or_other : List ℕ → Option DigitSets → Result Rule Kind
life_or_other text (Some sets) = life_rule Moore sets
life_or_other text None = four_or_other text (four_sets text)

-- the rule of a text without whitespace at its ends, or why it is none: the first of these tests decides, and after them `otherwise`, which has the
-- sets of a text of one of the five forms. A colon is that of a bounded grid (Golly Help, Bounded Grids).
abbrev pub tested_rule : (List ℕ → Option DigitSets → Result Rule Kind) → List ℕ → Result Rule Kind
tested_rule otherwise text =
    if is_bad_text text then Err BadRule
    else (if list_any (λ b. b == byte ":") text then Err BoundedGrid else otherwise text (life_sets text))

abbrev pub rule_of_trimmed : List ℕ → Result Rule Kind
rule_of_trimmed = tested_rule life_or_other

-- the rule of a text, or why it is none
unfoldable pub rule_of : List ℕ → Result Rule Kind
rule_of text = rule_of_trimmed (trim text)

-- the rule of a text, by its sets if it is of one of the five forms, and no von Neumann rule
abbrev pub moore_or_other : List ℕ → Option DigitSets → Result Rule Kind
moore_or_other text (Some sets) = life_rule Moore sets
moore_or_other text None = other_rule text

-- the rule of a text where the eight neighbours are the only ones, as files were read before: a von Neumann rule is refused
abbrev pub moore_rule_of : List ℕ → Result Rule Kind
moore_rule_of text = tested_rule moore_or_other (trim text)

-- the digits of a rule in rising order, each once
abbrev pub sets_text : ℕ → ℕ → List ℕ
sets_text births survivals = codes "B" ++ digits_of births ++ codes "/S" ++ digits_of survivals

-- the text of the digits, with the letter of the neighbours after it
abbrev pub with_letter : Near → List ℕ → List ℕ
with_letter Moore text = text
with_letter VonNeumann text = text ++ codes "V"

-- the canonical text of a rule: of a name its bytes
abbrev pub rule_text : Rule → List ℕ
rule_text (Life rule) = with_letter rule.near (sets_text rule.sets.births rule.sets.survivals)
rule_text (Named name) = name

-- the rule of a file that names none, B3/S23 (the project's own)
abbrev pub default_rule : Rule
default_rule = rule_with_sets Moore (record { births = 8; survivals = 12 })

-- how many neighbours count
abbrev pub most_neighbours : Near → ℕ
most_neighbours Moore = 8
most_neighbours VonNeumann = 4

-- A B/S rule: digits up to the number of neighbours alone, and no birth on 0.
pub record IsLifeRule (rule : OuterTotalistic) : Type 0 where
  pub births : rule.sets.births < 2 ^ (most_neighbours rule.near + 1)
  pub survivals : rule.sets.survivals < 2 ^ (most_neighbours rule.near + 1)
  pub no_birth_on_zero : has_digit rule.sets.births 0 ≡ false

-- the bytes of a name are a rule text that says that name
abbrev pub IsName : List ℕ → Type 0
IsName name = rule_of name ≡ Ok (Named name)

-- what holds of every rule value
abbrev pub IsRule : Rule → Type 0
IsRule (Life rule) = IsLifeRule rule
IsRule (Named name) = IsName name

-- the canonical text of each rule says that rule
abbrev pub RulesReadBack : Type 0
RulesReadBack = (rule : Rule) → IsRule rule → rule_of (rule_text rule) ≡ Ok rule

-- rules with one canonical text are one rule
abbrev pub RuleTextsTellRules : Type 0
RuleTextsTellRules = (one other : Rule) → IsRule one → IsRule other → rule_text one ≡ rule_text other → one ≡ other

-- a canonical text has 1 to 255 visible characters, and so no whitespace and no line feed
abbrev pub RuleTextsAreVisible : Type 0
RuleTextsAreVisible = (rule : Rule) → IsRule rule → is_bad_text (rule_text rule) ≡ false

-- the kinds with which a rule text is refused
abbrev pub is_rule_kind : Kind → Bool
is_rule_kind kinds.BadRule = true
is_rule_kind kinds.BoundedGrid = true
is_rule_kind kinds.UnsupportedRule = true
is_rule_kind kinds.BirthOnZero = true
is_rule_kind _ = false

-- a text that is no rule is refused with one of these
abbrev pub RuleTextsRefused : Type 0
RuleTextsRefused = (text : List ℕ) (kind : Kind) → rule_of text ≡ Err kind → is_rule_kind kind ≡ true

-- what an accepted rule text says is a rule
abbrev pub RuleTextsSayRules : Type 0
RuleTextsSayRules = (text : List ℕ) (rule : Rule) → rule_of text ≡ Ok rule → IsRule rule

-- live cells are counted among the eight neighbours, if they are counted
abbrev pub CountsEight : Rule → Type 0
CountsEight (Life rule) = rule.near ≡ Moore
CountsEight (Named name) = Unit {0}

-- What a text says now, and what it said where the eight neighbours were the only ones: the rules of the eight neighbours, and the names, are those of
-- then; and a text that was refused is refused so now, but that of a von Neumann rule, which was an unsupported one.
pub record MooreRuleStays (text : List ℕ) : Type 0 where
  pub rules : (rule : Rule) → (moore_rule_of text ≡ Ok rule) ↔ ((rule_of text ≡ Ok rule) × CountsEight rule)
  pub refusals : (kind : Kind) → moore_rule_of text ≡ Err kind
      → (rule_of text ≡ Err kind) ⊎ ((kind ≡ kinds.UnsupportedRule) × (is_some (four_sets (trim text)) ≡ true))

-- so of each text
abbrev pub MooreRulesStay : Type 0
MooreRulesStay = (text : List ℕ) → MooreRuleStays text

-- the sets that two numbers stand for, if there are two
abbrev pub sets_in : Option (ℕ × ℕ) → Option DigitSets
sets_in found = option_map (λ p. record { births = p.0; survivals = p.1 }) found

-- what was found are the numbers of these sets, each below a bound; nothing was found exactly where there are no sets
pub record AreSets (bound : ℕ) (wanted : Option DigitSets) (found : Option (ℕ × ℕ)) : Type 0 where
  pub same : sets_in found ≡ wanted
  pub below : IfSome found (λ p. (p.0 < bound) × (p.1 < bound))
