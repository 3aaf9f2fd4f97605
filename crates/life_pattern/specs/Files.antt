-- Files of either format: which bytes are one, and what they say. A macrocell file begins with `[M2]` (Golly Help, File Formats,
-- macrocell); that every other input is extended RLE is the project's own.
use Rattle.std.specs.Prelude.{◌≡◌, ℕ, Bool, false, List, [], ◌∷◌, ◌++◌, codes, Option, Some, None, MatchBool, if◌then◌else◌, ◌||◌}
use Rattle.life_base.specs.Refusal.{IsRefusal}
use Rattle.life_base.specs.Text.{lines_of, begins_with}
use Rattle.life_base.specs.declared.fault.Fault.{Fault}
use Rattle.life_base.specs.declared.kind.Kind.{Kind}
use Rattle.life_base.specs.declared.kind.Kind.TheVariants.{NoHeader}
use Rattle.life_mc.specs.Macrocell.{Macrocell}
use Rattle.life_mc.specs.Reading.{AreMacrocell, broken_rule, is_macrocell_kind}
use Rattle.life_rle.specs.Pattern.{Rle}
use Rattle.life_rle.specs.Grammar.{IsRle, BreaksRle, is_rle_kind}
use Rattle.life_pattern.specs.Universe.{Universe, IsSame, macrocell_universe, rle_universe}

-- the lines are a file of either format that says this
pub data Says (top : ℕ) (lines : List (List ℕ)) : Universe → Type 0 where
  as_macrocell : (file : Macrocell) → AreMacrocell top lines file → Says top lines (macrocell_universe file)
  as_rle : (file : Rle) → IsRle top lines file → Says top lines (rle_universe file)

-- the bytes are such a file
abbrev pub Reads : ℕ → List ℕ → Universe → Type 0
Reads top bytes u = Says top (lines_of bytes) u

-- the lines are a file of either format
abbrev pub Accepts : ℕ → List (List ℕ) → Type 0
Accepts top lines = (u : Universe) × Says top lines u

-- the bytes are a file of either format
abbrev pub Accepted : ℕ → List ℕ → Type 0
Accepted top bytes = Accepts top (lines_of bytes)

-- Both are files, with the same rule and generation, and the same state for every pair of whole numbers.
pub record Same (top : ℕ) (a b : List ℕ) : Type 0 where
  pub first : Universe
  pub second : Universe
  pub reads_first : Reads top a first
  pub reads_second : Reads top b second
  pub same : IsSame first second

-- line 1 begins with `[M2]`
abbrev pub is_macrocell : List (List ℕ) → Bool
is_macrocell [] = false
is_macrocell (line ∷ lines) = begins_with line (codes "[M2]")

-- The first rule that a line breaks after a prefix of a file: that of the macrocell format where line 1 begins with `[M2]`, and else
-- that of extended RLE.
abbrev pub Breaks : ℕ → List (List ℕ) → List ℕ → Kind → Type 0
Breaks top prefix line kind =
    MatchBool (is_macrocell (prefix ++ line ∷ [])) (broken_rule top prefix line ≡ Some kind) (BreaksRle top prefix line kind)

-- what lines lack that end after a prefix of a file: a macrocell file is whole after its first line
abbrev pub missing_file_part : List (List ℕ) → Option Kind
missing_file_part lines = if is_macrocell lines then None else Some NoHeader

-- why the lines are no file of either format
abbrev pub RefusesLines : ℕ → List (List ℕ) → Fault → Type 0
RefusesLines top lines fault = IsRefusal (Accepts top) (Breaks top) missing_file_part lines fault

-- why the bytes are none
abbrev pub Refuses : ℕ → List ℕ → Fault → Type 0
Refuses top bytes fault = RefusesLines top (lines_of bytes) fault

-- the kinds with which a file is refused
abbrev pub is_file_kind : Kind → Bool
is_file_kind kind = is_macrocell_kind kind || is_rle_kind kind
