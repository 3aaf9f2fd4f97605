-- The words of the contracts of this crate.
pub use Rattle.life_base.specs.Refusal.{OrMemory, fault_of}
pub use Rattle.life_base.specs.declared.kind.Kind.TheVariants.{Full, OutOfPlane}
pub use Rattle.life_pattern.specs.Store.{ForEachFile, IsOfFile, IsTrimmed, universe_in}
pub use Rattle.life_forms.specs.Needed.{HasLargeForm}
pub use Rattle.life_phase_forms.specs.declared.compare.FaultOfTwo.{FaultOfTwo}
pub use Rattle.pattern_forms.specs.InForm.{AreSameIn, FileLacksForm, ForEachTwoFiles, IsFirstToLack, IsMovedText, IsTextWithin, most_of_form, of_two, OneFileLacksForm, RefusesFormFor}
