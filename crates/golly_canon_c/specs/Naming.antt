-- The names of statuses, what each means in a sentence, and what a file is that is refused with it.
use Rattle.std.specs.Prelude.{ℕ, Bool, ◌==◌, List, [], Option, Some, None, find, codes, if◌then◌else◌}
use Rattle.life_base.specs.Kinds.{kind_number, kind_name}
use Rattle.life_base.specs.declared.kind.Kind.{Kind}
use Rattle.file_hints.specs.Sentences.{sentence_of}
use Rattle.file_hints.specs.Refused.{advice_on}
use Rattle.golly_canon_c.specs.declared.names.TheConstants.{KINDS}

-- the name of a kind, and no byte for none
abbrev pub name_or_none : Option Kind → List ℕ
name_or_none None = []
name_or_none (Some kind) = kind_name kind

-- the name of a status
abbrev pub status_name : ℕ → List ℕ
status_name number =
    if number == 0 then codes "OK"
    else (if number == 64 then codes "NoRoom"
    else (if number == 65 then codes "NoForm" else name_or_none (find (λ kind. kind_number kind == number) KINDS)))

-- the sentence of a kind, and no byte for none
abbrev pub sentence_or_none : Option Kind → List ℕ
sentence_or_none None = []
sentence_or_none (Some kind) = sentence_of kind

-- what a status means, in a sentence; that of no fault has none
abbrev pub status_sentence : ℕ → List ℕ
status_sentence number =
    if number == 64 then codes "The text has more bytes than the memory that was given for it."
    else (if number == 65 then codes "The number isn't that of a form of a pattern."
    else sentence_or_none (find (λ kind. kind_number kind == number) KINDS))

-- what a file is that is refused with a kind of fault, and no byte for none
abbrev pub advice_or_none : Option Kind → Bool → List ℕ → List ℕ
advice_or_none None is_table bytes = []
advice_or_none (Some kind) is_table bytes = advice_on kind is_table bytes

-- what a file is that is refused with a status
abbrev pub status_advice : ℕ → Bool → List ℕ → List ℕ
status_advice number is_table bytes = advice_or_none (find (λ kind. kind_number kind == number) KINDS) is_table bytes
