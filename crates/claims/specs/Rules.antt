-- Which rule a text names, or why it names none. Of Golly Help (QuickLife) are `B`D`/S`D, what its digits count, and `V` after it for the four
-- orthogonal neighbours. The rest is this project's own: the four other forms, digits in any order and more than once, small letters, at most 255
-- bytes, and the kinds with the order of their tests. Golly Help has more, which is refused: `:` (a bounded grid), `H` (six neighbours), births on 0,
-- and, in a text with `/`, letters after a digit and a missing `S`. Every text of 1 to 255 visible bytes without `/` and `:` that is none of the five
-- forms, with or without a letter `V` or `H` after it, is a name, whatever it means in Golly.
use Rattle.std.specs.Prelude.{ℕ, ◌+◌, ◌-◌, Bool, true, false, not, ◌&&◌, ◌||◌, List, [], ◌∷◌, ◌++◌, ◌==◌, length, take, drop, map, filter, nat_le, nat_lt, if◌then◌else◌, bytes_eq, codes, Option, Some, None, Result, Ok, Err}
use Rattle.std.specs.Char.{is_ascii_graphic, to_ascii_uppercase}
use Rattle.std.specs.List.{list_all, list_any, slice_split}
use Rattle.std.specs.Str.{byte}
use Rattle.life_base.specs.Text.{trim, is_empty, begins_with}
use Rattle.life_base.specs.declared.kind.Kind.{Kind}
use Rattle.life_base.specs.declared.kind.Kind.TheVariants.{BadRule, BoundedGrid, UnsupportedRule, BirthOnZero}

-- Of how many neighbours the live ones are counted, 8 or 4, at which counts a cell is born and at which it survives, in rising order; or a name.
pub data Rule : Type 0 where
  counting : (neighbours : ℕ) (births survivals : List ℕ) → Rule
  named : (name : List ℕ) → Rule

-- the counts that a rule may name
abbrev pub neighbour_counts : List ℕ
neighbour_counts = 0 ∷ 1 ∷ 2 ∷ 3 ∷ 4 ∷ 5 ∷ 6 ∷ 7 ∷ 8 ∷ []

-- a text has this byte
abbrev pub has : List ℕ → ℕ → Bool
has text b = list_any (λ c. c == b) text

-- the counts whose digits a text has, in rising order
abbrev pub counts_in : List ℕ → List ℕ
counts_in text = filter (λ n. has text (byte "0" + n)) neighbour_counts

-- a byte that is none of the digits `0` to `8`
abbrev pub is_mark : ℕ → Bool
is_mark b = not (nat_le (byte "0") b && nat_le b (byte "8"))

-- the digits of births and those of survivals
pub record Digits : Type 0 where
  pub births : List ℕ
  pub survivals : List ℕ

-- The five forms, D for any digits `0` to `8`: `BD/SD` and `SD/BD`, `BDSD` and `SDBD`, `D/D`. They are recognized by their marks, and by the digits
-- before, between and after these.
abbrev pub digits_by_marks : List ℕ → List (List ℕ) → Option Digits
digits_by_marks marks ([] ∷ d ∷ [] ∷ e ∷ []) =
    if bytes_eq marks (codes "B/S") then Some (record { births = d; survivals = e })
    else if bytes_eq marks (codes "S/B") then Some (record { births = e; survivals = d }) else None
digits_by_marks marks ([] ∷ d ∷ e ∷ []) =
    if bytes_eq marks (codes "BS") then Some (record { births = d; survivals = e })
    else if bytes_eq marks (codes "SB") then Some (record { births = e; survivals = d }) else None
digits_by_marks marks (d ∷ e ∷ []) = if bytes_eq marks (codes "/") then Some (record { births = e; survivals = d }) else None
digits_by_marks marks _ = None

-- the digits of a text of one of the five forms, where a small letter is as good as a capital one
unfoldable pub claimed_digits_of : List ℕ → Option Digits
claimed_digits_of word = digits_by_marks (map to_ascii_uppercase (filter is_mark word)) (slice_split is_mark word)

-- the rule of these digits, unless cells are born on 0
abbrev pub counting_rule : ℕ → Digits → Result Rule Kind
counting_rule neighbours digits =
    if has digits.births (byte "0") then Err BirthOnZero else Ok (counting neighbours (counts_in digits.births) (counts_in digits.survivals))

-- no count is above 4
abbrev pub are_up_to_four : Digits → Bool
are_up_to_four digits = list_all (λ n. nat_le n 4) (counts_in digits.births) && list_all (λ n. nat_le n 4) (counts_in digits.survivals)

-- the rule of a word of none of the five forms
abbrev pub claimed_other_rule : List ℕ → Result Rule Kind
claimed_other_rule word = if has word (byte "/") then Err UnsupportedRule else Ok (named word)

-- The rule of a word that may be one of the five forms with a letter after it. After a form that begins with `B`, and has no digit above 4, `V`
-- means four neighbours, north, east, south and west (Golly Help, after `BD/SD`; after `BDSD` it is this project's own); any other `V`, and `H`, means
-- neighbours that aren't supported.
abbrev pub lettered_rule : List ℕ → List ℕ → List ℕ → Option Digits → Result Rule Kind
lettered_rule word prefix letter None = claimed_other_rule word
lettered_rule word prefix letter (Some digits) =
    if begins_with prefix (codes "B") && bytes_eq letter (codes "V") && are_up_to_four digits then counting_rule 4 digits
    else if bytes_eq letter (codes "V") || bytes_eq letter (codes "H") then Err UnsupportedRule
    else claimed_other_rule word

-- the rule of a word, by its digits where it is of one of the five forms
abbrev pub word_rule : List ℕ → Option Digits → Result Rule Kind
word_rule word (Some digits) = counting_rule 8 digits
word_rule word None =
    let prefix = take (length word - 1) word in
    let letter = drop (length word - 1) word in
    lettered_rule word (map to_ascii_uppercase prefix) (map to_ascii_uppercase letter) (claimed_digits_of prefix)

-- the rule that a text names; whitespace at its ends counts for nothing
unfoldable pub claimed_rule_of : List ℕ → Result Rule Kind
claimed_rule_of text =
    let word = trim text in
    if is_empty word || nat_lt 255 (length word) || not (list_all is_ascii_graphic word) then Err BadRule
    else if has word (byte ":") then Err BoundedGrid
    else word_rule word (claimed_digits_of word)

-- the rule of a file that names none, B3/S23 (this project's own)
abbrev pub claimed_default_rule : Rule
claimed_default_rule = counting 8 (3 ∷ []) (2 ∷ 3 ∷ [])

-- the greatest state of a cell; under a name 255, whatever states Golly gives that rule
abbrev pub claimed_largest_state : Rule → ℕ
claimed_largest_state (counting neighbours births survivals) = 1
claimed_largest_state (named name) = 255

-- a B/S rule
abbrev pub is_counting : Rule → Bool
is_counting (counting neighbours births survivals) = true
is_counting (named name) = false

-- the canonical text of a rule
abbrev pub claimed_rule_text : Rule → List ℕ
claimed_rule_text (counting neighbours births survivals) =
    codes "B" ++ map (λ n. byte "0" + n) births ++ codes "/S" ++ map (λ n. byte "0" + n) survivals ++ (if neighbours == 4 then codes "V" else [])
claimed_rule_text (named name) = name
