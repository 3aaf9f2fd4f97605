-- The words of the contracts of this crate.
pub use Rattle.life_base.specs.DeviceRuns.{sink_run, source_run}
pub use Rattle.life_base.specs.Refusal.{fault_of}
pub use Rattle.life_base.specs.declared.cell.TheConstants.{MAX_LEVEL}
pub use Rattle.life_base.specs.declared.kind.Kind.TheVariants.{TooManyCells}
pub use Rattle.life_canon.specs.Calls.{ReadsBothInto}
pub use Rattle.life_canon.specs.Running.{AreWorking, RunsCanon}
pub use Rattle.life_pattern.specs.Files.{Accepted, Refuses, Same}
pub use Rattle.life_pattern.specs.Store.{IsOfFile, IsShortageOf, IsTrimmed, RefusesIn}
pub use Rattle.life_reader.specs.Calls.{ReadsInto}
pub use Rattle.life_reader.specs.Feeding.{Stands}
pub use Rattle.life_writer.specs.Least.{IsLeastText}
pub use Rattle.life_writer.specs.Texts.{FileHasMoreCells, IsCanonical, IsRleOf, IsShownText}
