-- The keys of files, and the lines of the command `keys`. The project's own; the lines are those of `sha256sum`, of coreutils 9.
use Rattle.std.specs.Prelude.{◌≡◌, ◌⊎◌, ◌==◌, ◌||◌, ℕ, Bool, true, false, List, [], ◌∷◌, ◌++◌, Option, Some, None, MatchBool, codes, if◌then◌else◌}
use Rattle.std.specs.List.{list_any}
use Rattle.std.specs.Str.{byte}
use Rattle.std.specs.declared.io.ErrorKind.{ErrorKind}
use Rattle.std.specs.declared.io.ErrorKind.TheVariants as io
use Rattle.file_hints.specs.Sentences.{sentence_of}
use Rattle.file_hints.specs.declared.foreign.Foreign.{Foreign}
use Rattle.file_hints.specs.Refused.{advice_words}
use Rattle.hex.specs.Hex.{encode_lower}
use Rattle.sha2.specs.Sha256.{sha256}
use Rattle.life_base.specs.Kinds.{kind_name}
use Rattle.life_base.specs.Text.{onto_first}
use Rattle.life_base.specs.declared.fault.Fault.{Fault}
use Rattle.life_base.specs.declared.kind.Kind.{Kind}
use Rattle.life_base.specs.declared.kind.Kind.TheVariants as kinds
use Rattle.pattern_sources.specs.Faults.{place_text}
use Rattle.pattern_sources.specs.Forms.{IsTextAtStart, IsTextIn}
use Rattle.command_line.specs.declared.plans.KeyForm.{KeyForm}
use Rattle.file_keys.specs.declared.keys.refusal.FileRefusal.{FileRefusal}

-- the bytes are a file, and this is the text that is hashed: that of its pattern in the form, or, where the generation is ignored, that of its pattern in
-- the form with generation 0
abbrev pub IsHashedText : KeyForm → ℕ → List ℕ → List ℕ → Type 0
IsHashedText form top bytes text = MatchBool form.ignores_generation (IsTextAtStart form.form top bytes text) (IsTextIn form.form top bytes text)

-- the key is the SHA-256 of a text of the bytes
pub record IsKeyOf (is_text : List ℕ → List ℕ → Type 0) (bytes key : List ℕ) : Type 0 where
  pub text : List ℕ
  pub is : is_text bytes text
  pub hashed : key ≡ sha256 text

-- the bytes are a file, and this is the key of its pattern
abbrev pub IsKeyIn : KeyForm → ℕ → List ℕ → List ℕ → Type 0
IsKeyIn form top bytes key = IsKeyOf (IsHashedText form top) bytes key

-- the bytes of a name that aren't written as they are: backslash, LF and CR
abbrev pub is_special : ℕ → Bool
is_special b = b == byte "\\" || b == byte "\n" || b == byte "\r"

-- how a byte of a name is written
abbrev pub escaped_byte : ℕ → List ℕ
escaped_byte b =
    if b == byte "\\" then codes "\\\\" else (if b == byte "\n" then codes "\\n" else (if b == byte "\r" then codes "\\r" else b ∷ []))

-- how a name is written
abbrev pub escaped_name : List ℕ → List ℕ
escaped_name [] = []
escaped_name (b ∷ name) = escaped_byte b ++ escaped_name name

-- a line begins with a backslash if its name has a byte that isn't written as it is
abbrev pub name_mark : List ℕ → List ℕ
name_mark name = if list_any is_special name then codes "\\" else []

-- The line of a key: the key in hex, two spaces and the name. It ends in LF; or, with --zero, the name is written as it is, and it ends in NUL.
abbrev pub key_line : Bool → List ℕ → List ℕ → List ℕ
key_line false key name = name_mark name ++ (encode_lower key ++ (codes "  " ++ (escaped_name name ++ codes "\n")))
key_line true key name = encode_lower key ++ (codes "  " ++ (name ++ 0 ∷ []))

-- a fault of which nothing more is said
abbrev pub without_advice : Fault → FileRefusal
without_advice fault = record { fault = fault; foreign = None }

-- what comes between the sentence on a fault and the one on what the file is
abbrev pub advice_lead : Option Foreign → List ℕ
advice_lead None = []
advice_lead (Some foreign) = codes " "

-- the report of a fault: its line, where it names one, its kind, what that means, and what the file is, if that is something else than a pattern
abbrev pub fault_text : FileRefusal → List ℕ
fault_text refusal =
    place_text false refusal.fault.place.line ++ (kind_name refusal.fault.kind ++ (codes ": " ++ (sentence_of refusal.fault.kind
    ++ (advice_lead refusal.foreign ++ (advice_words refusal.foreign ++ codes "\n")))))

-- the line of a file that is refused, or that isn't read because the store is full or memory is refused
abbrev pub refused_line : List ℕ → FileRefusal → List ℕ
refused_line name refusal = escaped_name name ++ (codes ": " ++ fault_text refusal)

-- why a file can't be opened, by what the system says; `InvalidData`, which no system says of a file that it opens, is for a name that is no UTF-8 text
abbrev pub reason_of : ErrorKind → List ℕ
reason_of io.NotFound = codes "no such file"
reason_of io.PermissionDenied = codes "permission denied"
reason_of io.IsADirectory = codes "is a folder"
reason_of io.InvalidData = codes "the name isn't UTF-8 text (collection.py reads such files)"
reason_of _ = codes "can't be opened"

-- the line of a file that can't be opened
abbrev pub unopened_line : List ℕ → ErrorKind → List ℕ
unopened_line name kind = escaped_name name ++ (codes ": " ++ (reason_of kind ++ codes "\n"))

-- the pieces of a list, each of which ends at this byte, which isn't of it; what is after the last one is a piece if there is anything
abbrev pub pieces_of : ℕ → List ℕ → List (List ℕ)
pieces_of end [] = []
pieces_of end (b ∷ list) = if b == end then [] ∷ pieces_of end list else onto_first b (pieces_of end list)

-- the byte that ends a name of a list
abbrev pub end_byte_of_name : Bool → ℕ
end_byte_of_name false = byte "\n"
end_byte_of_name true = 0

-- a status of the command: each file has its key, or one was refused, or could not be opened or read, or the store is full or memory is refused for one
abbrev pub IsStatus : ℕ → Type 0
IsStatus status = (status ≡ 0) ⊎ ((status ≡ 2) ⊎ ((status ≡ 3) ⊎ (status ≡ 4)))
