-- The texts that the calls on whole files give, and why they refuse.
use Rattle.std.specs.Prelude.{◌≡◌, ◌⊎◌, ◌<◌, ◌^◌, ℕ, List, [], length, min}
use Rattle.life_base.specs.Refusal.{OrMemory, fault_of}
use Rattle.life_base.specs.Text.{lines_of}
use Rattle.life_base.specs.Tree.{Tree}
use Rattle.life_base.specs.declared.cell.TheConstants.{MAX_LEVEL}
use Rattle.life_base.specs.declared.fault.Fault.{Fault}
use Rattle.life_base.specs.declared.kind.Kind.TheVariants.{Full, TooManyCells}
use Rattle.life_quad.specs.Store.{Nodes, stored_squares}
use Rattle.life_pattern.specs.Files.{Same, Refuses}
use Rattle.life_writer.specs.Least.{IsLeastText}
use Rattle.life_reader.specs.Needs.{SomeOfFile}
use Rattle.life_reader.specs.Space.{sufficient_for}
use Rattle.life_writer.specs.Texts.{IsCanonical, IsRleOf, FileHasMoreCells}
pub use Rattle.life_forms.specs.Needed.{NeedsMore}
use Rattle.library_calls.specs.Reported.{Reported}

-- how many squares the store of a call holds at most, by the limit that is asked for
abbrev pub squares_of_limit : ℕ → ℕ
squares_of_limit limit = min limit (2 ^ 62)

-- the store of a call when it begins: it holds no square, and has this limit
pub record IsFreshStore (limit : ℕ) (store : Nodes) : Type 0 where
  pub empty : stored_squares store ≡ []
  pub most : store.limit ≡ squares_of_limit limit

-- no more are needed than the limit
abbrev pub Fits : ((Tree → Type 0) → Type 0) → ℕ → Type 0
Fits Needs limit = ¬ NeedsMore Needs (squares_of_limit limit)

-- memory was refused; or the store was full, and its limit is too low
abbrev pub IsLimitShortage : (ℕ → Type 0) → ℕ → Fault → Type 0
IsLimitShortage IsTooLow limit fault = OrMemory fault ((fault ≡ fault_of Full) × IsTooLow (squares_of_limit limit))

-- a square that is needed to read the file has a property
abbrev pub SomeToRead : List ℕ → (Tree → Type 0) → Type 0
SomeToRead bytes P = SomeOfFile MAX_LEVEL P (lines_of bytes)

-- the limit is too low to read the file, and below the squares for a file of these bytes
abbrev pub IsTooLowFor : List ℕ → ℕ → Type 0
IsTooLowFor bytes most = NeedsMore (SomeToRead bytes) most × (most < sufficient_for (length bytes))

-- a text is reported: it is copied, or longer than the memory
abbrev pub TellsText : Reported → Type 0
TellsText it = (it.status ≡ 0) ⊎ (it.status ≡ 64)

-- why a call on these bytes is refused
abbrev pub RefusesWithin : ℕ → List ℕ → Fault → Type 0
RefusesWithin limit bytes fault = Refuses MAX_LEVEL bytes fault ⊎ IsLimitShortage (IsTooLowFor bytes) limit fault

-- the same where the text is extended RLE, which may have too many cells
abbrev pub RefusesRleWithin : ℕ → List ℕ → Fault → Type 0
RefusesRleWithin limit bytes fault = RefusesWithin limit bytes fault ⊎ ((fault ≡ fault_of TooManyCells) × FileHasMoreCells MAX_LEVEL bytes (2 ^ 20))

-- the text is the canonical text of the bytes, and has the fewest node lines, under a name of the files without leaf lines
abbrev pub IsLeastCanonicalText : List ℕ → List ℕ → Type 0
IsLeastCanonicalText bytes text = IsCanonical MAX_LEVEL bytes text × IsLeastText MAX_LEVEL bytes text

-- the text is that of the bytes in extended RLE, and a file of the same pattern
abbrev pub IsRleText : List ℕ → List ℕ → Type 0
IsRleText bytes text = IsRleOf MAX_LEVEL (2 ^ 20) bytes text × Same MAX_LEVEL bytes text
