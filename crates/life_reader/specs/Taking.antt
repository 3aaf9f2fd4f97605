-- What is kept of a file between two lines, and what it stands for.
use Rattle.std.specs.Prelude.{◌≡◌, ℕ, ◌+◌, ◌-◌, ◌^◌, ◌<◌, ◌≤◌, min, Bool, true, false, List, [], ◌∷◌, ◌++◌, length, flat_map}
use Rattle.life_base.specs.Lines.{whole_lines, rest_line}
use Rattle.life_base.specs.Refusal.{Prefix}
use Rattle.life_base.specs.Text.{lines_of}
use Rattle.life_base.specs.Tree.{Tree}
use Rattle.life_base.specs.declared.cell.TheConstants.{MAX_LEVEL}
use Rattle.life_base.specs.declared.fault.Fault.{Fault}
use Rattle.life_mc.specs.Reading.{AcceptsMacrocell}
use Rattle.life_quad.specs.declared.id.Id.{Id}
use Rattle.life_rle.specs.File.{HasRuns}
use Rattle.life_rle.specs.Grammar.{IsSomeRle, IsMarked}
use Rattle.life_rle.specs.Pattern.{Rle}
use Rattle.life_reader.specs.Building.{IsBuilt}
use Rattle.life_pattern.specs.Files.{Breaks, is_macrocell}
use Rattle.life_reader.specs.Waiting.{KeepsLines}
use Rattle.life_reader.specs.declared.progress.Progress.{Progress}
use Rattle.life_reader.specs.declared.progress.Progress.TheVariants as progress
use Rattle.life_reader.specs.declared.prefix.FilePrefix.{FilePrefix}

-- ---- between two lines

-- the lines that were taken: all that came, but for those after the one that holds `!`
abbrev pub consumed_lines : Progress → List (List ℕ)
consumed_lines progress.Undecided = []
consumed_lines (progress.Rle reader builder runs) = reader.lines
consumed_lines (progress.Macrocell reader ids waiting) = reader.lines

-- a file of a format was begun, its lines can be continued to one, and none was refused
pub record IsBegun (macrocell : Bool) (Grammar : List (List ℕ) → Type 0) (lines : List (List ℕ)) (refused : Bool) : Type 0 where
  pub some : 0 < length lines
  pub format : is_macrocell lines ≡ macrocell
  pub prefix : Prefix Grammar lines
  pub unrefused : refused ≡ false

-- the format is that of the first line, and no line was refused
abbrev pub IsOpen : Progress → Type 0
IsOpen progress.Undecided = Unit {0}
IsOpen (progress.Rle reader builder runs) = IsBegun false (IsSomeRle MAX_LEVEL) reader.lines reader.refused
IsOpen (progress.Macrocell reader ids waiting) = IsBegun true (AcceptsMacrocell MAX_LEVEL) reader.lines reader.refused

-- `!` has ended the pattern
abbrev pub IsOver : Progress → Type 0
IsOver progress.Undecided = ⊥
IsOver (progress.Rle reader builder runs) = (file : Rle) × IsMarked MAX_LEVEL reader.lines file
IsOver (progress.Macrocell reader ids waiting) = ⊥

-- the reader is that of the format that this line begins or goes on with, and no line was refused
abbrev pub IsReadyToTake : List ℕ → Progress → Type 0
IsReadyToTake line progress.Undecided = ⊥
IsReadyToTake line (progress.Rle reader builder runs) = (is_macrocell (reader.lines ++ line ∷ []) ≡ false) × (reader.refused ≡ false)
IsReadyToTake line (progress.Macrocell reader ids waiting) = (is_macrocell (reader.lines ++ line ∷ []) ≡ true) × (reader.refused ≡ false)

-- the squares that are kept are those of the lines
abbrev pub StandsFor : (Id → Type 0) → (Id → Tree) → Progress → Type 0
StandsFor knows content progress.Undecided = Unit {0}
StandsFor knows content (progress.Rle reader builder runs) = IsBuilt knows content (HasRuns MAX_LEVEL reader.lines) builder
StandsFor knows content (progress.Macrocell reader ids waiting) = KeepsLines knows content reader.lines ids.items waiting.items

-- the fault of the line after these, before which so many have ended
pub record IsLineFault (top : ℕ) (lines : List (List ℕ)) (line : List ℕ) (ended : ℕ) (fault : Fault) : Type 0 where
  pub breaks : Breaks top lines line fault.kind
  pub place : fault.place.line ≡ min (ended + 1) (2 ^ 64 - 1)

-- ---- between two pieces

-- the bytes that came
abbrev pub bytes_of : List (List ℕ) → List ℕ
bytes_of pieces = flat_map (λ piece. piece) pieces

-- the whole lines were taken and counted, and the bytes after them are kept
pub record IsGoing (bytes kept : List ℕ) (ended : ℕ) (lines : List (List ℕ)) : Type 0 where
  pub whole : lines ≡ whole_lines bytes
  pub rest : kept ≡ rest_line bytes
  pub count : ended ≡ min (length lines) (2 ^ 64 - 1)

-- the lines after `!` are free, and nothing is kept
pub record HasFreeLines (bytes kept : List ℕ) (lines : List (List ℕ)) : Type 0 where
  pub free : List (List ℕ)
  pub whole : whole_lines bytes ≡ lines ++ free
  pub none : kept ≡ []

-- a prefix of a file, after these bytes
pub record IsFilePrefix (bytes kept : List ℕ) (ended : ℕ) (progress : Progress) : Type 0 where
  pub short : length kept ≤ 2 ^ 20
  pub begun : IsOpen progress
  pub going : (IsOver progress → ⊥) → IsGoing bytes kept ended (consumed_lines progress)
  pub over : IsOver progress → HasFreeLines bytes kept (consumed_lines progress)

-- the same of the value that a reader keeps
abbrev pub IsFilePrefixOf : FilePrefix → Type 0
IsFilePrefixOf prefix = IsFilePrefix (bytes_of prefix.pieces.lines) prefix.kept.items prefix.ended prefix.progress

-- the end of the input: its lines were taken, but for those after `!`
pub record IsEnd (bytes : List ℕ) (ended : ℕ) (progress : Progress) : Type 0 where
  pub begun : IsOpen progress
  pub going : (IsOver progress → ⊥) → (lines_of bytes ≡ consumed_lines progress) × (ended ≡ min (length (consumed_lines progress)) (2 ^ 64 - 1))
  pub over : IsOver progress → (free : List (List ℕ)) × (lines_of bytes ≡ consumed_lines progress ++ free)
