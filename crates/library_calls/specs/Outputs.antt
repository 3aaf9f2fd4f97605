-- The outputs of a file, which a call on it, or a stream at its end, gives as a text: which text it is, and why there is none.
use Rattle.std.specs.Prelude.{◌≡◌, ◌⊎◌, ◌<◌, ℕ, List, [], length}
use Rattle.life_base.specs.Lines.{whole_lines}
use Rattle.life_base.specs.Tree.{Tree}
use Rattle.life_base.specs.declared.cell.TheConstants.{MAX_LEVEL}
use Rattle.life_base.specs.declared.fault.Fault.{Fault}
use Rattle.life_reader.specs.Feeding.{RefusesPrefix}
use Rattle.life_reader.specs.Needs.{SomeOfLines}
use Rattle.life_reader.specs.Space.{HoldsOnly, sufficient_for}
use Rattle.life_pattern.specs.Store.{IsRead}
use Rattle.life_writer.specs.Texts.{IsShownText}
use Rattle.life_pattern.specs.declared.pattern.Pattern.{Pattern}
use Rattle.life_quad.specs.Store.{Nodes}
use Rattle.library_calls.specs.Texts.{IsRleText, NeedsMore, squares_of_limit, RefusesWithin, RefusesRleWithin, IsLimitShortage}
use Rattle.life_step.specs.Stepped.{IsStepped}
use Rattle.life_generations.specs.Later.{IsTextLater}
use Rattle.library_calls.specs.Stepping.{RefusesLater, RefusesStepWithin}
use Rattle.library_calls.specs.declared.texts.Output.{Output}
use Rattle.library_calls.specs.InForm.{IsTextInForm, RefusesFormWithin}
use Rattle.library_calls.specs.declared.texts.Output.TheVariants.{Canonical, Rle, Lines, Next, Later}

-- the text is this output of the bytes, within a limit of the store
abbrev pub IsOutputText : Output → ℕ → List ℕ → List ℕ → Type 0
IsOutputText (Canonical form) limit = IsTextInForm form limit
IsOutputText Rle limit = IsRleText
IsOutputText Lines limit = IsShownText MAX_LEVEL
IsOutputText Next limit = IsStepped
IsOutputText (Later n) limit = IsTextLater n

-- why the bytes have none, within a limit of the store
abbrev pub RefusesTextOf : Output → ℕ → List ℕ → Fault → Type 0
RefusesTextOf (Canonical form) = RefusesFormWithin form
RefusesTextOf Rle = RefusesRleWithin
RefusesTextOf Lines = RefusesWithin
RefusesTextOf Next = RefusesStepWithin
RefusesTextOf (Later n) = λ limit. RefusesLater n

-- the text is this output of each file that was read as this pattern of the store, within its limit
abbrev pub IsTextOfRead : Output → Nodes → Pattern → List ℕ → Type 0
IsTextOfRead output store pattern text =
    (limit : ℕ) (bytes : List ℕ) → store.limit ≡ squares_of_limit limit → IsRead MAX_LEVEL bytes store pattern → IsOutputText output limit bytes text

-- why those files have none whose squares alone the store holds, within its limit
abbrev pub RefusesTextOfRead : Output → Nodes → Pattern → Fault → Type 0
RefusesTextOfRead output store pattern fault =
    (limit : ℕ) (bytes : List ℕ) → store.limit ≡ squares_of_limit limit → IsRead MAX_LEVEL bytes store pattern → HoldsOnly [] bytes store
    → RefusesTextOf output limit bytes fault

-- a square that the lines of these bytes need which have ended has a property
abbrev pub SomeOfPrefix : List ℕ → (Tree → Type 0) → Type 0
SomeOfPrefix bytes P = SomeOfLines MAX_LEVEL P (whole_lines bytes)

-- the limit is too low for these lines, and below the squares for the bytes
abbrev pub IsTooLowForPrefix : List ℕ → ℕ → Type 0
IsTooLowForPrefix bytes most = NeedsMore (SomeOfPrefix bytes) most × (most < sufficient_for (length bytes))

-- no file goes on from these bytes, or the store is full or memory is refused for their lines that have ended
abbrev pub RefusesPiece : ℕ → List ℕ → Fault → Type 0
RefusesPiece limit bytes fault = RefusesPrefix MAX_LEVEL bytes fault ⊎ IsLimitShortage (IsTooLowForPrefix bytes) limit fault

-- What contracts see of a file that comes in pieces: which text its end gives, how many squares its store may hold, and the bytes that came.
pub record Piecewise : Type 0 where
  pub output : Output
  pub space : ℕ
  pub bytes : List ℕ
