-- What the comparison of two files in a form tells.
use Rattle.std.specs.Prelude.{◌≡◌, ◌⊎◌, ℕ, List}
use Rattle.life_base.specs.Kinds.{kind_number}
use Rattle.life_base.specs.declared.cell.TheConstants.{MAX_LEVEL}
use Rattle.life_base.specs.declared.fault.Fault.{Fault}
use Rattle.life_pattern.specs.Files.{Accepted}
use Rattle.pattern_forms.specs.InForm.{AreSameIn, OneFileLacksForm, RefusesFormFor}
use Rattle.life_base.specs.declared.form.Form.{Form}
use Rattle.library_calls.specs.Comparing.{Compared, RefusesEither}
use Rattle.library_calls.specs.InForm.{squares_of_form}

-- why two files aren't compared in this form
abbrev pub RefusesEitherInForm : Form → ℕ → List ℕ → List ℕ → Fault → Type 0
RefusesEitherInForm form limit first second fault =
    RefusesEither limit first second fault ⊎ RefusesFormFor form (OneFileLacksForm form MAX_LEVEL (squares_of_form limit) first second) fault

-- both are files whose patterns have texts in the form, and the answer is reported, 1 or 0; or the fault that keeps it from being found
pub data ComparesInForm (form : Form) (limit : ℕ) (first second : List ℕ) (reported : Compared) : Type 0 where
  by_answer : reported.status ≡ 0 → reported.line ≡ 0 → Accepted MAX_LEVEL first → Accepted MAX_LEVEL second
      → ¬ OneFileLacksForm form MAX_LEVEL (squares_of_form limit) first second
      → ((reported.is_same ≡ 1) × AreSameIn form MAX_LEVEL first second) ⊎ ((reported.is_same ≡ 0) × (¬ AreSameIn form MAX_LEVEL first second))
      → ComparesInForm form limit first second reported
  by_fault : (fault : Fault) → reported.status ≡ kind_number fault.kind → reported.line ≡ fault.place.line → reported.is_same ≡ 0
      → RefusesEitherInForm form limit first second fault → ComparesInForm form limit first second reported

-- no form has the number, which is reported
pub record ComparesInNone (reported : Compared) : Type 0 where
  pub status : reported.status ≡ 65
  pub line : reported.line ≡ 0
  pub is_same : reported.is_same ≡ 0
