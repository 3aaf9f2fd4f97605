-- What the calls of the library tell of a file, in the words of the formats.
use Rattle.std.specs.Prelude.{◌≡◌, ◌⊎◌, ◌+◌, ◌*◌, ◌<◌, ◌^◌, ℕ, min, List, length, false, codes, Ok, Err}
use Rattle.life_base.specs.Text.{begins_with}
use Rattle.life_base.specs.declared.fault.Fault.{Fault}
use Rattle.life_base.specs.declared.kind.Kind.TheVariants.{Full, Memory, TooManyCells}
use Rattle.claims.specs.Counting.{claimed_node_lines, IsCanonicalText}
use Rattle.claims.specs.Files.{pattern_of, SayOnePattern, IsShortage, claimed_fault_of}
use Rattle.claims.specs.Generation.{SaysMoreCells}
use Rattle.claims.specs.Pattern.{Pattern}
use Rattle.claims.specs.Shown.{IsClaimedShown}
use Rattle.theorems.specs.Patterns.{IsRleOfFile}

-- the text is that of the file's pattern in extended RLE; it is a file of that pattern and no macrocell file, and no more than 2 ^ 20 cells have a state
-- other than 0
pub record IsClaimedRleText (file text : List ℕ) : Type 0 where
  pub is : IsRleOfFile file text
  pub same : SayOnePattern file text
  pub format : begins_with text (codes "[M2]") ≡ false
  pub few : SaysMoreCells (2 ^ 20) file → ⊥

-- the text tells the file's pattern, and how many node lines its canonical text has
pub record AreFiveLines (file text : List ℕ) : Type 0 where
  pub pattern : Pattern
  pub is : pattern_of file ≡ Ok pattern
  pub canonical : List ℕ
  pub is_canonical : IsCanonicalText file canonical
  pub shown : IsClaimedShown pattern (claimed_node_lines canonical) text

-- why a file isn't read: it has this fault, or the store is full or memory is refused
abbrev pub IsClaimedUnread : List ℕ → Fault → Type 0
IsClaimedUnread file fault = (pattern_of file ≡ Err fault) ⊎ IsShortage fault

-- how many squares reading a file takes at most: 14 for each byte, and 264
abbrev pub squares_for : List ℕ → ℕ
squares_for file = 14 * length file + 264

-- memory is refused; or the store is full, and the limit, which counts as 2 ^ 62 at most, is below this many squares
abbrev pub IsShortageBelow : (squares limit : ℕ) → Fault → Type 0
IsShortageBelow squares limit fault = ((fault ≡ claimed_fault_of Full) × (min limit (2 ^ 62) < squares)) ⊎ (fault ≡ claimed_fault_of Memory)

-- why a file isn't read within a limit: it has this fault; or memory is refused, or the store is full, and the limit is below the squares for the file
abbrev pub IsUnreadWithin : ℕ → List ℕ → Fault → Type 0
IsUnreadWithin limit file fault = (pattern_of file ≡ Err fault) ⊎ IsShortageBelow (squares_for file) limit fault

-- why it isn't written in extended RLE
abbrev pub IsUnwritten : ℕ → List ℕ → Fault → Type 0
IsUnwritten limit file fault = IsUnreadWithin limit file fault ⊎ ((fault ≡ claimed_fault_of TooManyCells) × SaysMoreCells (2 ^ 20) file)
