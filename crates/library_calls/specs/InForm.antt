-- The text of a pattern in a form, its key, and why there is none.
use Rattle.std.specs.Prelude.{◌≡◌, ◌⊎◌, ◌==◌, ◌-◌, ◌^◌, leb, ℕ, min, List, Option, Some, None, MatchOption, if◌then◌else◌}
use Rattle.sha2.specs.Sha256.{sha256}
use Rattle.life_base.specs.declared.cell.TheConstants.{MAX_LEVEL}
use Rattle.life_base.specs.declared.fault.Fault.{Fault}
use Rattle.pattern_forms.specs.InForm.{FileLacksForm, IsTextWithin, RefusesFormFor}
use Rattle.life_base.specs.declared.form.Form.{Form}
use Rattle.life_base.specs.declared.form.Form.TheVariants.{Placed, Moved, Turned, Phases}
use Rattle.library_calls.specs.Reported.{Reported, Returns}
use Rattle.library_calls.specs.Texts.{IsLeastCanonicalText, RefusesWithin, squares_of_limit}

-- The form that has this number, if one has it. From 2^31 on that is the one for all phases, up to a period of so many generations as the number is above it.
abbrev pub form_numbered : ℕ → Option Form
form_numbered number =
    if number == 0 then Some Placed else (if number == 1 then Some Moved else (if number == 2 then Some Turned
    else (if leb (2 ^ 31) number then Some (Phases (number - 2 ^ 31)) else None)))

-- how many different squares a form has at most, by the limit that is asked for
abbrev pub squares_of_form : ℕ → ℕ
squares_of_form limit = min (2 ^ 21) (squares_of_limit limit)

-- the text is that of the bytes' pattern in this form, which is not too large by the limit that is asked for
abbrev pub IsTextInForm : Form → ℕ → List ℕ → List ℕ → Type 0
IsTextInForm Placed limit = IsLeastCanonicalText
IsTextInForm Moved limit = IsTextWithin Moved MAX_LEVEL (squares_of_form limit)
IsTextInForm Turned limit = IsTextWithin Turned MAX_LEVEL (squares_of_form limit)
IsTextInForm (Phases generations) limit = IsTextWithin (Phases generations) MAX_LEVEL (squares_of_form limit)

-- the key is the SHA-256 of this text
abbrev pub IsKeyInForm : Form → ℕ → List ℕ → List ℕ → Type 0
IsKeyInForm form limit bytes key = (text : List ℕ) × IsTextInForm form limit bytes text × (key ≡ sha256 text)

-- why the bytes have no text in a form that not every pattern has
abbrev pub RefusesLackWithin : Form → ℕ → List ℕ → Fault → Type 0
RefusesLackWithin form limit bytes fault =
    RefusesWithin limit bytes fault ⊎ RefusesFormFor form (FileLacksForm form MAX_LEVEL (squares_of_form limit) bytes) fault

-- why the bytes have no text in this form, within a limit of the store
abbrev pub RefusesFormWithin : Form → ℕ → List ℕ → Fault → Type 0
RefusesFormWithin Placed = RefusesWithin
RefusesFormWithin Moved = RefusesLackWithin Moved
RefusesFormWithin Turned = RefusesLackWithin Turned
RefusesFormWithin (Phases generations) = RefusesLackWithin (Phases generations)

-- no form has the number, which is reported, and no byte was written
pub record TellsNoForm (before after : List ℕ) (it : Reported) : Type 0 where
  pub status : it.status ≡ 65
  pub line : it.line ≡ 0
  pub needed : it.needed ≡ 0
  pub kept : after ≡ before

-- what a call that takes the number of a form answers: such a text of the bytes in that form, or why they have none; or that no form has the number
abbrev pub AnswersInForm : (IsText : Form → ℕ → List ℕ → List ℕ → Type 0) → (number limit : ℕ) (bytes before after : List ℕ) → Reported → Type 0
AnswersInForm IsText number limit bytes before after it =
    MatchOption (form_numbered number) (TellsNoForm before after it)
    (λ form. Returns (IsText form limit bytes) (RefusesFormWithin form limit bytes) before after it)
