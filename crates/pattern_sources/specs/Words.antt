-- The words of the contracts of this crate.
pub use Rattle.life_base.specs.DeviceRuns.{sink_run, source_run}
pub use Rattle.life_base.specs.Refusal.{fault_of, OrMemory}
pub use Rattle.life_base.specs.Writing.{WritesText}
pub use Rattle.life_reader.specs.ReadWhole.{ReadsWhole}
pub use Rattle.life_canon.specs.Running.{AreWorking, RunsCanon}
pub use Rattle.life_reader.specs.Reading.{ReadsPattern}
pub use Rattle.life_pattern.specs.Store.{content, IsOfFile, IsRead, IsTrimmed, IsShortageOf, Keeps, universe_in}
pub use Rattle.life_quad.specs.Cells.{population}
pub use Rattle.life_quad.specs.Store.{stored_squares}
pub use Rattle.pattern_sources.specs.Faults.{fault_line, is_of_table, line_word, refusal_of, status_of, Reports}
pub use Rattle.pattern_sources.specs.Forms.{IsTextAtStart, IsTextIn}
pub use Rattle.pattern_sources.specs.Sources.{AreOfInput, ComesOf, HoldsOneFile, RefusesInForm}
