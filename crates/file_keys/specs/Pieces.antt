-- What is written of an object of JSON, piece by piece. The project's own.
use Rattle.std.specs.Prelude.{[], ◌∷◌, ℕ, List, flat_map}
use Rattle.std.specs.Str.Lossy.{replacement_bytes}
use Rattle.file_keys.specs.Json.{json_text, json_name}
use Rattle.file_keys.specs.declared.json.Piece.{Piece}
use Rattle.file_keys.specs.declared.json.Piece.TheVariants.{Plain, Text, Name}

-- what is written in place of bytes that are no UTF-8 text: U+FFFD, if there are any
abbrev pub replacement_of : List ℕ → List ℕ
replacement_of [] = []
replacement_of (b ∷ bytes) = replacement_bytes

-- what is written of a piece
abbrev pub piece_text : Piece → List ℕ
piece_text (Plain bytes) = bytes.now
piece_text (Text text) = json_text text.now
piece_text (Name name) = json_name name.now

abbrev pub pieces_text : List Piece → List ℕ
pieces_text pieces = flat_map piece_text pieces
