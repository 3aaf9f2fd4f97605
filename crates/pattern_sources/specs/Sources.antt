-- What comes of a source that has a pattern file, and why nothing comes of it.
use Rattle.std.specs.Prelude.{◌≡◌, ◌≢◌, ◌⊎◌, ◌<◌, ◌+◌, ◌^◌, ℕ, false, List, [], length, Contains, AllPairs, Option, Result, IfOk, IfErr, IsErrAnd}
use Rattle.std.specs.Io.KnownBytes.{Consumes}
use Rattle.life_base.specs.DeviceRuns.{SourceRun}
use Rattle.life_base.specs.Inputs.{ReadAll, CameBeyond}
use Rattle.life_base.specs.Refusal.{fault_of}
use Rattle.life_base.specs.Tree.{Tree, is_blank_tree}
use Rattle.life_base.specs.declared.fault.Fault.{Fault}
use Rattle.life_base.specs.declared.cell.TheConstants.{MAX_LEVEL}
use Rattle.life_base.specs.declared.kind.Kind.TheVariants.{Full, InputTooLong, Memory, ReadFault, TooManyCells}
use Rattle.life_quad.specs.Store.{Nodes, stored_squares}
use Rattle.life_pattern.specs.Files.{Refuses}
use Rattle.life_pattern.specs.Store.{IsNew}
use Rattle.life_reader.specs.Space.{IsSquareOfFile, sufficient_for}
use Rattle.life_reader.specs.Reading.{LacksForRead}
use Rattle.life_pattern.specs.Store.{IsShortageOf}
use Rattle.life_writer.specs.Texts.{FileHasMoreCells}
use Rattle.life_base.specs.declared.form.Form.{Form}
use Rattle.pattern_forms.specs.InForm.{RefusesFormFor}
use Rattle.pattern_sources.specs.Forms.{LacksForm}

-- why an input isn't read to its end: too much came, or the source failed
pub data InputRefuses (source : SourceRun) (fault : Fault) : Type 0 where
  by_length : fault ≡ fault_of InputTooLong → CameBeyond (2 ^ 30) source.before source.after → InputRefuses source fault
  by_source : fault ≡ fault_of ReadFault → source.failures ≡ 1 → InputRefuses source fault

-- The squares are all different and none is blank. Each is one of `base`, or one that a prefix of the input needs: of what was left to read before.
pub record AreOfInput (base : List Tree) (input : Option (List ℕ)) (squares : List Tree) : Type 0 where
  pub bytes : List ℕ
  pub left : Option (List ℕ)
  pub came : Consumes input left bytes
  pub distinct : AllPairs ◌≢◌ squares
  pub not_blank : (t : Tree) → Contains squares t → is_blank_tree t ≡ false
  pub needed : (t : Tree) → Contains squares t → Contains base t ⊎ IsSquareOfFile bytes t

-- The store holds only squares that the input needs, besides those of `base`, and lacks one which the bytes need that were read. Its limit is below the
-- number of squares that so many bytes may need, besides those of `base`.
pub record IsTooSmallFor (base : List Tree) (source : SourceRun) (store : Nodes) : Type 0 where
  pub squares : AreOfInput base source.before (stored_squares store)
  pub lacks : LacksForRead MAX_LEVEL (2 ^ 30) store source
  pub read : List ℕ
  pub came : Consumes source.before source.after read
  pub tight : store.limit < length base + sufficient_for (length read)

-- the store holds its limit, and is too small for what was read of the input, besides the squares of `base`; or a growth of memory was refused
abbrev pub IsShortageFor : List Tree → SourceRun → Nodes → Fault → Type 0
IsShortageFor base source store fault = IsShortageOf store fault × (fault ≡ fault_of Full → IsTooSmallFor base source store)

-- that of a store of 2^31 squares, or a growth of memory was refused elsewhere
abbrev pub IsSourceShortage : List Tree → SourceRun → Fault → Type 0
IsSourceShortage base source fault = (fault ≡ fault_of Memory) ⊎ ((store : Nodes) × (store.limit ≡ 2 ^ 31) × IsShortageFor base source store fault)

-- all of a file was read, and `gives` relates its bytes to the text
pub record HasText (gives : List ℕ → List ℕ → Type 0) (source : SourceRun) (text : List ℕ) : Type 0 where
  pub bytes : List ℕ
  pub read : ReadAll (2 ^ 30) source.before source.after bytes
  pub is : gives bytes text

-- why nothing comes of a file: it isn't read; all of it was read, and `refuses` relates its bytes to the fault; or the store is full or memory is refused
pub data HasNoText (refuses : List ℕ → Fault → Type 0) (source : SourceRun) (fault : Fault) : Type 0 where
  by_input : InputRefuses source fault → HasNoText refuses source fault
  by_file : (bytes : List ℕ) → ReadAll (2 ^ 30) source.before source.after bytes → refuses bytes fault → HasNoText refuses source fault
  by_want : IsSourceShortage [] source fault → HasNoText refuses source fault

-- what comes of a file: what `gives` relates to its bytes, or why there is nothing; and where its source failed, that is reported
pub record ComesOf {A : Type 0} (items : A → List ℕ) (gives : List ℕ → List ℕ → Type 0) (refuses : List ℕ → Fault → Type 0) (source : SourceRun)
    (result : Result A Fault) : Type 0 where
  pub ok : IfOk result (λ a. HasText gives source (items a))
  pub err : IfErr result (HasNoText refuses source)
  pub reported : source.failures ≡ 1 → IsErrAnd result (λ fault. fault.kind ≡ ReadFault)

-- the store holds no squares but such
abbrev pub HoldsNoneBut : (Tree → Type 0) → Nodes → Type 0
HoldsNoneBut IsSuch store = (t : Tree) → Contains (stored_squares store) t → IsSuch t

-- The squares of the store are all different and none is blank, and each is needed, to read the files or to make the answer. The store lacks one that
-- the answer needs. So where it holds its limit, more different squares are needed than that. `ToMake` says of a property that a square has it which the
-- answer needs.
pub record IsTooSmallToMake (IsToRead : Tree → Type 0) (ToMake : (Tree → Type 0) → Type 0) (store : Nodes) : Type 0 where
  pub distinct : AllPairs ◌≢◌ (stored_squares store)
  pub not_blank : (t : Tree) → Contains (stored_squares store) t → is_blank_tree t ≡ false
  pub needed : HoldsNoneBut (λ t. IsToRead t ⊎ ToMake (λ u. u ≡ t)) store
  pub lacks : ToMake (IsNew store)

-- a call found that a store of 2^31 squares holds its limit and is too small for the call, or a growth of memory was refused to it
abbrev pub IsCallShortage : (Tree → Type 0) → ((Tree → Type 0) → Type 0) → Fault → Type 0
IsCallShortage IsToRead ToMake fault =
    (store : Nodes) × (store.limit ≡ 2 ^ 31) × IsShortageOf store fault × (fault ≡ fault_of Full → IsTooSmallToMake IsToRead ToMake store)

-- the store holds no squares but those of a file, or of two files
abbrev pub HoldsOneFile : List ℕ → Nodes → Type 0
HoldsOneFile bytes = HoldsNoneBut (IsSquareOfFile bytes)

-- why bytes have no text that takes a list of cells: they are no file, or one with too many cells
abbrev pub RefusesMany : List ℕ → Fault → Type 0
RefusesMany bytes fault = Refuses MAX_LEVEL bytes fault ⊎ ((fault ≡ fault_of TooManyCells) × FileHasMoreCells MAX_LEVEL bytes (2 ^ 20))

-- why bytes have no text in a form: they are no file, or one whose pattern has none in the form
abbrev pub RefusesInForm : Form → List ℕ → Fault → Type 0
RefusesInForm form bytes fault = Refuses MAX_LEVEL bytes fault ⊎ RefusesFormFor form (LacksForm form MAX_LEVEL bytes) fault
