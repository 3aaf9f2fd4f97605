-- The text of a file's pattern in a form.
use Rattle.std.specs.Prelude.{ℕ, ◌^◌, List}
use Rattle.life_pattern.specs.Files.{Reads}
use Rattle.life_pattern.specs.Universe.{Universe}
use Rattle.pattern_forms.specs.InForm.{FileLacksForm, IsTextWithin}
use Rattle.life_base.specs.declared.form.Form.{Form}

-- the bytes are a file whose pattern has a text in the form, of no more than 2^21 different squares, and this is the text
abbrev pub IsTextIn : Form → ℕ → List ℕ → List ℕ → Type 0
IsTextIn form top = IsTextWithin form top (2 ^ 21)

-- the bytes are a file whose pattern has no text in the form
abbrev pub LacksForm : Form → ℕ → List ℕ → Type 0
LacksForm form top = FileLacksForm form top (2 ^ 21)

-- the same rule and cells, in generation 0
abbrev pub at_start : Universe → Universe
at_start u = record { rule = u.rule; generation = 0; cell = u.cell }

-- The bytes are a file, and this is the text in the form of its pattern with generation 0: that of a file, `start`, which says the same with generation 0.
pub record IsTextAtStart (form : Form) (top : ℕ) (bytes text : List ℕ) : Type 0 where
  pub universe : Universe
  pub reads : Reads top bytes universe
  pub start : List ℕ
  pub says : Reads top start (at_start universe)
  pub is : IsTextIn form top start text
