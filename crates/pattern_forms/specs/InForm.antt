-- A pattern in one of its forms: its text, what is the same in the form, and when there is none; of patterns, and of files. The project's own.
use Rattle.std.specs.Prelude.{◌≡◌, ◌⊎◌, ◌^◌, ℕ, min, Bool, true, false, List}
use Rattle.life_base.specs.Refusal.{fault_of}
use Rattle.life_base.specs.declared.cell.TheConstants.{MAX_LEVEL}
use Rattle.life_base.specs.declared.fault.Fault.{Fault}
use Rattle.life_base.specs.declared.kind.Kind.TheVariants.{Full, OutOfPlane}
use Rattle.life_quad.specs.Store.{Nodes}
use Rattle.life_pattern.specs.Files.{Reads, Same}
use Rattle.life_writer.specs.Listing.{canon_text}
use Rattle.life_pattern.specs.Store.{IsRead}
use Rattle.life_writer.specs.Texts.{IsCanonical}
use Rattle.life_pattern.specs.Universe.{Universe, AreOfOneGeneration, IsSame}
use Rattle.life_pattern.specs.declared.pattern.Pattern.{Pattern}
use Rattle.life_forms.specs.Forms.{IsMoved, IsShift, IsTurnedShift}
use Rattle.life_forms.specs.Images.{IsTurnedText}
use Rattle.life_forms.specs.Needed.{HasLargerForm}
use Rattle.life_forms.specs.Turns.{Turn, image}
use Rattle.life_phase_forms.specs.Phases.{AreOfOneCourse, IsPhasesText, LeavesUnderway}
use Rattle.life_phase_forms.specs.declared.compare.FaultOfTwo.{FaultOfTwo}
use Rattle.life_base.specs.declared.form.Form.{Form}
use Rattle.life_base.specs.declared.form.Form.TheVariants.{Placed, Moved, Turned, Phases}

-- ---- of patterns

-- the text is the canonical text of the moved form
pub record IsMovedText (top : ℕ) (u : Universe) (text : List ℕ) : Type 0 where
  pub form : Universe
  pub moved : IsMoved top u form
  pub is : text ≡ canon_text top form

-- the text is the canonical text of the pattern in this form; for all phases, up to a period of so many generations, that of one of its phases
abbrev pub IsFormText : Form → ℕ → Universe → List ℕ → Type 0
IsFormText Placed = λ top u text. text ≡ canon_text top u
IsFormText Moved = IsMovedText
IsFormText Turned = IsTurnedText
IsFormText (Phases generations) = λ top u text. IsPhasesText top generations u text

-- the two are one pattern in this form: the same; a shift of each other; a shift after one of the eight turns and reflections; or such a shift of a phase
abbrev pub AreOneInForm : Form → Universe → Universe → Type 0
AreOneInForm Placed = IsSame
AreOneInForm Moved = IsShift
AreOneInForm Turned = IsTurnedShift
AreOneInForm (Phases generations) = AreOfOneCourse generations

-- The pattern has no text in this form: the moved form has more different squares than this; turned, that of one of its eight images; for all phases, the
-- pattern leaves the plane before its period is found.
abbrev pub LacksFormIn : Form → ℕ → Universe → Type 0
LacksFormIn Placed most u = ⊥
LacksFormIn Moved most u = HasLargerForm most u
LacksFormIn Turned most u = (turn : Turn) × HasLargerForm most (image turn u)
LacksFormIn (Phases generations) most u = LeavesUnderway generations u

-- one of two patterns has none, turned only where both are of one generation
abbrev pub OneLacksFormIn : Form → ℕ → Universe → Universe → Type 0
OneLacksFormIn Placed most u v = ⊥
OneLacksFormIn Moved most u v = LacksFormIn Moved most u ⊎ LacksFormIn Moved most v
OneLacksFormIn Turned most u v = AreOfOneGeneration u v × (LacksFormIn Turned most u ⊎ LacksFormIn Turned most v)
OneLacksFormIn (Phases generations) most u v = LacksFormIn (Phases generations) most u ⊎ LacksFormIn (Phases generations) most v

-- Why there is no text in a form, or no comparison: for this reason. For all phases it may also be that a store of the call itself is full, or that the moved
-- form of a phase has more different squares than a form may have.
abbrev pub RefusesFormFor : Form → Type 0 → Fault → Type 0
RefusesFormFor Placed reason fault = (fault ≡ fault_of Full) × reason
RefusesFormFor Moved reason fault = (fault ≡ fault_of Full) × reason
RefusesFormFor Turned reason fault = (fault ≡ fault_of Full) × reason
RefusesFormFor (Phases generations) reason fault = ((fault ≡ fault_of OutOfPlane) × reason) ⊎ (fault ≡ fault_of Full)

-- how many different squares a form of a pattern of this store has at most
abbrev pub most_of_form : Nodes → ℕ
most_of_form store = min (2 ^ 21) store.limit

-- ---- of files

-- both are files, and what the first says is related to what the second says
pub record SayRelated (relates : Universe → Universe → Type 0) (top : ℕ) (a b : List ℕ) : Type 0 where
  pub first : Universe
  pub second : Universe
  pub reads_first : Reads top a first
  pub reads_second : Reads top b second
  pub related : relates first second

-- the bytes are a file, and its pattern has no text in this form
abbrev pub FileLacksForm : Form → (top most : ℕ) → List ℕ → Type 0
FileLacksForm form top most bytes = (u : Universe) × Reads top bytes u × LacksFormIn form most u

-- both are files, and one of their patterns has none, turned only where both are of one generation
abbrev pub OneFileLacksForm : Form → (top most : ℕ) → List ℕ → List ℕ → Type 0
OneFileLacksForm form top most a b = SayRelated (OneLacksFormIn form most) top a b

-- The first of two files whose pattern has no text in this form is this one: the first of both; or the first has one, and the second has none. The flag says
-- which of the two it is.
abbrev pub IsFirstToLack : Form → (top most : ℕ) → (of_second : Bool) → (a b : List ℕ) → Type 0
IsFirstToLack form top most false a b = FileLacksForm form top most a
IsFirstToLack form top most true a b = (¬ FileLacksForm form top most a) × FileLacksForm form top most b

-- the fault of two patterns that isn't said to be one of the second
abbrev pub of_two : Fault → FaultOfTwo
of_two fault = record { fault = fault; of_second = false }

-- the bytes are a file whose pattern has a text in this form, and this is the text
pub record SaysText (form : Form) (top most : ℕ) (bytes text : List ℕ) : Type 0 where
  pub universe : Universe
  pub reads : Reads top bytes universe
  pub has : ¬ LacksFormIn form most universe
  pub is : IsFormText form top universe text

-- the same; as it lies, every pattern has one
abbrev pub IsTextWithin : Form → (top most : ℕ) → List ℕ → List ℕ → Type 0
IsTextWithin Placed top most = IsCanonical top
IsTextWithin Moved top most = SaysText Moved top most
IsTextWithin Turned top most = SaysText Turned top most
IsTextWithin (Phases generations) top most = SaysText (Phases generations) top most

-- both are files of one pattern in this form
abbrev pub AreSameIn : Form → ℕ → List ℕ → List ℕ → Type 0
AreSameIn Placed = Same
AreSameIn Moved = SayRelated IsShift
AreSameIn Turned = SayRelated IsTurnedShift
AreSameIn (Phases generations) = SayRelated (AreOfOneCourse generations)

-- what holds of each two files that two patterns in the store were read from
abbrev pub ForEachTwoFiles : Nodes → (p q : Pattern) → (List ℕ → List ℕ → Type 0) → Type 0
ForEachTwoFiles store p q Holds = (a b : List ℕ) → IsRead MAX_LEVEL a store p → IsRead MAX_LEVEL b store q → Holds a b
