-- The objects of the command `keys`, with --json: JSON as RFC 8259 has it. Their members are the project's own.
use Rattle.std.specs.Prelude.{◌==◌, ◌++◌, [], ℕ, List, Option, None, codes, decimal, if◌then◌else◌}
use Rattle.hex.specs.Hex.{encode_lower}
use Rattle.life_base.specs.Kinds.{kind_name}
use Rattle.file_keys.specs.Json.{json_text, json_name}
use Rattle.file_hints.specs.Refused.{advice_words}
use Rattle.file_keys.specs.Keys.{advice_lead, reason_of}
use Rattle.file_hints.specs.Sentences.{sentence_of}
use Rattle.file_hints.specs.declared.foreign.Foreign.{Foreign}
use Rattle.file_keys.specs.declared.keys.outcome.Outcome.{Outcome}
use Rattle.file_keys.specs.declared.keys.outcome.Outcome.TheVariants.{Key, Refused, Unopened}

-- the beginning of an object, up to the name of the file
abbrev pub object_head : List ℕ → List ℕ
object_head name = codes "{\"name\":\"" ++ json_name name

-- the rest of the object of a file with this key
abbrev pub key_members : List ℕ → List ℕ
key_members key = codes "\",\"key\":\"" ++ (json_text (encode_lower key) ++ codes "\"}\n")

-- the kind of a fault
abbrev pub kind_member : List ℕ → List ℕ
kind_member kind = codes "\",\"kind\":\"" ++ (json_text kind ++ codes "\"")

-- its line, where it names one
abbrev pub line_member : ℕ → List ℕ
line_member line = if line == 0 then [] else codes ",\"line\":" ++ decimal line

-- why a file has no key, and what the file is, if that is something else than a pattern, and the end of its object
abbrev pub reason_member : List ℕ → Option Foreign → List ℕ
reason_member reason foreign =
    codes ",\"reason\":\"" ++ (json_text reason ++ (json_text (advice_lead foreign) ++ (json_text (advice_words foreign) ++ codes "\"}\n")))

-- the rest of the object of a file without a key
abbrev pub fault_members : (kind : List ℕ) (line : ℕ) (reason : List ℕ) → Option Foreign → List ℕ
fault_members kind line reason foreign = kind_member kind ++ (line_member line ++ reason_member reason foreign)

-- the rest of the object of a file, by what it came to
abbrev pub members_text : Outcome → List ℕ
members_text (Key key) = key_members key
members_text (Refused refusal) =
    fault_members (kind_name refusal.fault.kind) refusal.fault.place.line (sentence_of refusal.fault.kind) refusal.foreign
members_text (Unopened kind) = fault_members (codes "ReadFault") 0 (reason_of kind) None

-- the object of a file, a line
abbrev pub object_text : List ℕ → Outcome → List ℕ
object_text name outcome = object_head name ++ members_text outcome
