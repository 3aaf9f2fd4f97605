-- The words of the contracts of this crate.
pub use Rattle.life_base.specs.Tree.{depth, tree_cell}
pub use Rattle.life_writer.specs.Lesser.{IsLesserText}
pub use Rattle.life_pattern.specs.Store.{content, ForEachFile, IsOfFile, IsTrimmed, universe_in}
pub use Rattle.life_pattern.specs.Universe.{square_universe}
pub use Rattle.life_forms.specs.Images.{IsTurnedText}
pub use Rattle.life_later.specs.Course.{LeavesWithin}
pub use Rattle.life_later.specs.Stores.{IsKnownInShared, KeepsShared}
pub use Rattle.life_leap.specs.After.{after}
pub use Rattle.life_phases.specs.Periods.{IsLeastPeriod, LeavesFromMiddle}
pub use Rattle.life_phase_forms.specs.Laws.{CoursesKeepPeriods, GenerationsKeepTurns, PhasesTextsAreFiles, PhasesTextsTellFiles}
pub use Rattle.life_phase_forms.specs.OfFile.{FileLeavesUnderway, IsPhasesTextOf, IsMemoryOrFull, RefusesOneOfTwo, RefusesPhases, SayOneCourse}
pub use Rattle.life_phase_forms.specs.Phases.{begun, IsLeastOfPhases}
