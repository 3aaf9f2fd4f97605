-- Laws of the macrocell format.
use Rattle.std.specs.Prelude.{◌≡◌, ◌↔◌, ◌<◌, ◌≤◌, ◌^◌, ℕ, true, false, List, [], length, take, Some, None}
use Rattle.std.specs.List.{slice_index_or}
use Rattle.life_base.specs.Refusal.{Prefix, is_placeless}
use Rattle.life_base.specs.declared.fault.Fault.{Fault}
use Rattle.life_base.specs.declared.kind.Kind.{Kind}
use Rattle.life_base.specs.declared.kind.Kind.TheVariants.{LineTooLong}
use Rattle.life_mc.specs.Macrocell.{Macrocell}
use Rattle.life_mc.specs.Reading.{AreMacrocell, AcceptsMacrocell, RefusesMacrocell, broken_rule, is_macrocell_kind}

-- lines say one thing at most
abbrev pub MacrocellsAreUnique : ℕ → Type 0
MacrocellsAreUnique top = (lines : List (List ℕ)) (a b : Macrocell) → AreMacrocell top lines a → AreMacrocell top lines b → a ≡ b

-- refused lines have one fault
abbrev pub MacrocellFaultsAreUnique : ℕ → Type 0
MacrocellFaultsAreUnique top = (lines : List (List ℕ)) (a b : Fault) → RefusesMacrocell top lines a → RefusesMacrocell top lines b → a ≡ b

-- no line breaks a rule
abbrev pub IsUnbrokenMacrocell : ℕ → List (List ℕ) → Type 0
IsUnbrokenMacrocell top lines = (k : ℕ) → k < length lines → broken_rule top (take k lines) (slice_index_or lines k []) ≡ None

-- lines are a prefix of a file exactly if no line breaks a rule
abbrev pub MacrocellPrefixesAreUnbroken : ℕ → Type 0
MacrocellPrefixesAreUnbroken top = (lines : List (List ℕ)) → Prefix (AcceptsMacrocell top) lines ↔ IsUnbrokenMacrocell top lines

-- lines, of which there are some, are a prefix of a file exactly if they are a file: after the first line any prefix is whole
abbrev pub MacrocellPrefixesAreFiles : ℕ → Type 0
MacrocellPrefixesAreFiles top = (lines : List (List ℕ)) → 0 < length lines → Prefix (AcceptsMacrocell top) lines ↔ AcceptsMacrocell top lines

-- a line breaks the rule of lengths exactly if it has more than 2 ^ 20 bytes
abbrev pub LongMacrocellLinesBreak : ℕ → Type 0
LongMacrocellLinesBreak top = (prefix : List (List ℕ)) (line : List ℕ) → broken_rule top prefix line ≡ Some LineTooLong ↔ 2 ^ 20 < length line

-- each kind of the format names a line
abbrev pub MacrocellKindsNameLines : Type 0
MacrocellKindsNameLines = (kind : Kind) → is_macrocell_kind kind ≡ true → is_placeless kind ≡ false

-- lines that are no file are refused with one of the kinds of the format
abbrev pub MacrocellRefusalsHaveKinds : ℕ → Type 0
MacrocellRefusalsHaveKinds top = (lines : List (List ℕ)) (fault : Fault) → RefusesMacrocell top lines fault → is_macrocell_kind fault.kind ≡ true

-- every file of a plane is a file of each wider one, and says the same there
abbrev pub WiderPlanesKeepMacrocells : Type 0
WiderPlanesKeepMacrocells =
    (top wider : ℕ) (lines : List (List ℕ)) (file : Macrocell) → top ≤ wider → AreMacrocell top lines file → AreMacrocell wider lines file
