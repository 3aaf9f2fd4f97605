-- The words of the contracts of this crate.
pub use Rattle.life_base.specs.Words.{IsMemory}
pub use Rattle.life_pattern.specs.Store.{ForEachFile, IsOfFile, Keeps}
pub use Rattle.life_periods.specs.Line.{is_moving, kind_words, period_line}
pub use Rattle.life_periods.specs.OfFile.{FilesHaveOnePeriod, IsPeriodOfFile, IsShownWithPeriod, RefusesPeriod, RefusesPeriodOfFile}
