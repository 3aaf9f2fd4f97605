-- Lines of bytes that may go on, and what a reader of single lines has taken. The rules of this file are the project's own.
use Rattle.std.specs.Prelude.{◌≡◌, ℕ, ◌+◌, ◌-◌, ◌^◌, min, Bool, true, not, List, [], ◌∷◌, ◌++◌, length, map, ◌==◌, if◌then◌else◌, codes}
use Rattle.std.specs.List.{list_all}
use Rattle.std.specs.Str.{byte}
use Rattle.life_base.specs.Text.{lines_of, numbered_from}

-- what contracts see of a reader of single lines: the lines that it took, and whether it has refused one
pub record LinesRead : Type 0 where
  pub lines : List (List ℕ)
  pub refused : Bool

-- no byte is a line feed
abbrev pub has_no_feed : List ℕ → Bool
has_no_feed bytes = list_all (λ b. not (b == byte "\n")) bytes

-- one byte more at the beginning of the first line, if there is one
abbrev pub onto_next : ℕ → List (List ℕ) → List (List ℕ)
onto_next b [] = []
onto_next b (line ∷ lines) = (b ∷ line) ∷ lines

-- the lines that have ended, each at its line feed
abbrev pub whole_lines : List ℕ → List (List ℕ)
whole_lines [] = []
whole_lines (b ∷ bytes) = if b == byte "\n" then [] ∷ whole_lines bytes else onto_next b (whole_lines bytes)

-- the bytes after the last line feed: a line that has not ended
abbrev pub rest_line : List ℕ → List ℕ
rest_line [] = []
rest_line (b ∷ bytes) = if has_no_feed (b ∷ bytes) then b ∷ bytes else rest_line bytes

-- the bytes as one line, if there are any
abbrev pub one_line : List ℕ → List (List ℕ)
one_line [] = []
one_line (b ∷ bytes) = (b ∷ bytes) ∷ []

-- the lines of an input are those that have ended, and the rest if it is not empty
abbrev pub LinesAreWhole : Type 0
LinesAreWhole = (bytes : List ℕ) → lines_of bytes ≡ whole_lines bytes ++ one_line (rest_line bytes)

-- after more bytes the lines that had ended stay, and the rest goes on
pub record IsContinued (bytes more : List ℕ) : Type 0 where
  pub whole : whole_lines (bytes ++ more) ≡ whole_lines bytes ++ whole_lines (rest_line bytes ++ more)
  pub rest : rest_line (bytes ++ more) ≡ rest_line (rest_line bytes ++ more)
  pub lines : lines_of (bytes ++ more) ≡ whole_lines bytes ++ lines_of (rest_line bytes ++ more)

-- what the lines of bytes are that follow others
abbrev pub LinesContinue : Type 0
LinesContinue = (bytes more : List ℕ) → IsContinued bytes more

-- after bytes without a line feed no line has ended, and the rest has them at its end
pub record IsLonger (bytes more : List ℕ) : Type 0 where
  pub whole : whole_lines (bytes ++ more) ≡ whole_lines bytes
  pub rest : rest_line (bytes ++ more) ≡ rest_line bytes ++ more

-- after bytes without a line feed, and a line feed, one line more has ended: the rest with these bytes
pub record IsEnded (bytes end : List ℕ) : Type 0 where
  pub whole : whole_lines (bytes ++ end ++ codes "\n") ≡ whole_lines bytes ++ (rest_line bytes ++ end) ∷ []
  pub rest : rest_line (bytes ++ end ++ codes "\n") ≡ []

-- what bytes without a line feed do to the lines, alone or with one after them
abbrev pub LinesGrow : Type 0
LinesGrow = (bytes more : List ℕ) → has_no_feed more ≡ true → IsLonger bytes more × IsEnded bytes more

-- the lines one after another, each with a line feed after it
abbrev pub joined_lines : List (List ℕ) → List ℕ
joined_lines [] = []
joined_lines (line ∷ lines) = line ++ byte "\n" ∷ joined_lines lines

-- the bytes are these lines, each with a line feed after it, and a rest; and no line feed is in a line or in the rest
pub record AreJoined (bytes : List ℕ) (lines : List (List ℕ)) (rest : List ℕ) : Type 0 where
  pub is : bytes ≡ joined_lines lines ++ rest
  pub whole : list_all has_no_feed lines ≡ true
  pub behind : has_no_feed rest ≡ true

-- bytes are their whole lines and their rest so, and no others
pub record AreOnlyJoined (bytes : List ℕ) : Type 0 where
  pub are : AreJoined bytes (whole_lines bytes) (rest_line bytes)
  pub only : (lines : List (List ℕ)) (rest : List ℕ) → AreJoined bytes lines rest → (lines ≡ whole_lines bytes) × (rest ≡ rest_line bytes)

-- the whole lines and the rest, by what joins them
abbrev pub LinesAreJoined : Type 0
LinesAreJoined = (bytes : List ℕ) → AreOnlyJoined bytes

-- these are the lines with their numbers, counted from 1; a number above 2 ^ 64 - 1 is reported as that
pub record AreNumbered (lines : List (List ℕ)) (numbered : List (ℕ × List ℕ)) : Type 0 where
  pub texts : map (λ (p : ℕ × List ℕ). p.1) numbered ≡ lines
  pub numbers : (before : List (ℕ × List ℕ)) (number : ℕ) (line : List ℕ) (rest : List (ℕ × List ℕ)) → numbered ≡ before ++ (number, line) ∷ rest
      → number ≡ min (length before + 1) (2 ^ 64 - 1)

-- lines are numbered so
abbrev pub LinesAreNumbered : Type 0
LinesAreNumbered = (lines : List (List ℕ)) → AreNumbered lines (numbered_from 1 lines)
