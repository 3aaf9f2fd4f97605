-- What is said of a refused file. The rules of this file are the project's own.
use Rattle.std.specs.Prelude.{ℕ, Bool, List, [], take, Option, None, Some}
use Rattle.file_hints.specs.Foreign.{advice_of}
use Rattle.file_hints.specs.declared.foreign.Foreign.{Foreign}
use Rattle.life_base.specs.declared.kind.Kind.{Kind}
use Rattle.life_base.specs.declared.kind.Kind.TheVariants as kinds
use Rattle.file_hints.specs.Recognition.{foreign_of}

-- what is said of what a file is where a fault of this kind is reported: nothing where the fault isn't one of the bytes of the file
abbrev pub foreign_on : Kind → Option Foreign → Option Foreign
foreign_on kinds.ReadFault foreign = None
foreign_on kinds.Full foreign = None
foreign_on kinds.Memory foreign = None
foreign_on kinds.Spent foreign = None
foreign_on _ foreign = foreign

-- the sentence on what a file is, and what to do; no byte for a file of which nothing is said
abbrev pub advice_words : Option Foreign → List ℕ
advice_words None = []
advice_words (Some foreign) = advice_of foreign

-- what a file is, by no more than its first 512 bytes
abbrev pub foreign_at_start : Bool → List ℕ → Option Foreign
foreign_at_start is_table bytes = foreign_of is_table (take 512 bytes)

-- the sentence on a file with these bytes that is refused with a fault of this kind, where a rule table was wanted or a pattern
abbrev pub advice_on : Kind → Bool → List ℕ → List ℕ
advice_on kind is_table bytes = advice_words (foreign_on kind (foreign_at_start is_table bytes))
