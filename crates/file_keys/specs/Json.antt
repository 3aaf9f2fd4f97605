-- Strings of JSON, as RFC 8259 has them, in section 7.
use Rattle.std.specs.Prelude.{◌==◌, ◌||◌, ◌++◌, ◌∷◌, ◌/◌, ◌%◌, [], ℕ, List, codes, flat_map, nat_lt, slice_index, if◌then◌else◌}
use Rattle.std.specs.Str.Lossy.{utf8_lossy}
use Rattle.std.specs.Str.{byte}

-- the digits of a byte in hex
abbrev pub hex_digits : ℕ → List ℕ
hex_digits b = slice_index (codes "0123456789abcdef") (b / 16) ∷ slice_index (codes "0123456789abcdef") (b % 16) ∷ []

-- how a byte below 32 is written: by its letter, where it has one, or else by its number
abbrev pub control_text : ℕ → List ℕ
control_text b =
    if b == 8 then codes "\\b" else (if b == 9 then codes "\\t" else (if b == 10 then codes "\\n" else (if b == 12 then codes "\\f"
    else (if b == 13 then codes "\\r" else codes "\\u00" ++ hex_digits b))))

-- how a byte is written within a string of JSON
abbrev pub json_byte : ℕ → List ℕ
json_byte b = if nat_lt b 32 then control_text b else (if b == byte "\"" || b == byte "\\" then byte "\\" ∷ b ∷ [] else b ∷ [])

-- and a text
abbrev pub json_text : List ℕ → List ℕ
json_text text = flat_map json_byte text

-- and a name, with U+FFFD in place of what is no UTF-8 text
abbrev pub json_name : List ℕ → List ℕ
json_name name = json_text (utf8_lossy name)
