-- The states of cells as texts (Golly Help, File Formats, Extended RLE).
use Rattle.std.specs.Prelude.{ℕ, ◌+◌, ◌-◌, ◌*◌, ◌/◌, ◌%◌, Bool, ◌&&◌, ◌||◌, List, [], ◌∷◌, Option, Some, None, if◌then◌else◌, ◌==◌, nat_le, codes}
use Rattle.std.specs.Option.{option_map, option_or}
use Rattle.std.specs.Str.{byte}
use Rattle.life_base.specs.declared.rule.Rule.{Rule}
use Rattle.life_base.specs.declared.rule.Rule.TheVariants.{Life, Named}

-- the state that one byte names: `b` and `.` are 0, `o` is 1, `A` to `X` are 1 to 24
abbrev pub single_state : ℕ → Option ℕ
single_state b =
    if b == byte "b" || b == byte "." then Some 0
    else if b == byte "o" then Some 1
    else if nat_le (byte "A") b && nat_le b (byte "X") then Some (b - byte "@")
    else None

-- 24 times the place of the prefix from `p` on, and the place of the letter, both counted from 1
abbrev pub prefixed_number : ℕ → ℕ → ℕ
prefixed_number prefix letter = 24 * (prefix - byte "o") + (letter - byte "@")

-- the state that a prefix `p` to `y` and a letter `A` to `X` name, if it is no more than 255
abbrev pub prefixed_state : ℕ → ℕ → Option ℕ
prefixed_state prefix letter =
    if (nat_le (byte "p") prefix && nat_le prefix (byte "y")) && (nat_le (byte "A") letter && nat_le letter (byte "X"))
    && nat_le (prefixed_number prefix letter) 255
    then Some (prefixed_number prefix letter) else None

-- a state and the bytes after it
abbrev pub with_rest : Option ℕ → List ℕ → Option (ℕ × List ℕ)
with_rest found rest = option_map (λ state. (state, rest)) found

-- the state at the beginning of the bytes, and what comes after it
abbrev pub leading_state : List ℕ → Option (ℕ × List ℕ)
leading_state [] = None
leading_state (b ∷ []) = with_rest (single_state b) []
leading_state (b ∷ c ∷ rest) = option_or (with_rest (single_state b) (c ∷ rest)) (with_rest (prefixed_state b c) rest)

-- the states under a rule: 0 and 1 under a B/S rule, 0 to 255 under a name
abbrev pub is_state_of : Rule → ℕ → Bool
is_state_of (Life sets) state = nat_le state 1
is_state_of (Named name) state = nat_le state 255

-- the text of a state under a name: `.`, a letter, or a prefix and a letter
abbrev pub state_letters : ℕ → List ℕ
state_letters n =
    if n == 0 then codes "."
    else if nat_le n 24 then (64 + n) ∷ []
    else (111 + (n - 1) / 24) ∷ (65 + (n - 1) % 24) ∷ []

-- the text of a state that is written: `b` and `o` under a B/S rule
abbrev pub state_text : Rule → ℕ → List ℕ
state_text (Life sets) n = (if n == 0 then byte "b" else byte "o") ∷ []
state_text (Named name) n = state_letters n
