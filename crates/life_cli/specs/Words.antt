-- The words of the contracts of this crate.
pub use Rattle.command_line.specs.Plans.{HasSecond, task_of}
pub use Rattle.life_base.specs.DeviceRuns.{optional_source_run, sink_run, source_run, SourceRun}
pub use Rattle.life_base.specs.DeviceState.{has_failed}
pub use Rattle.life_base.specs.Inputs.{ReadAll}
pub use Rattle.life_base.specs.Refusal.{fault_of, OrMemory}
pub use Rattle.life_pattern.specs.Files.{Refuses}
pub use Rattle.life_reader.specs.ReadWhole.{ReadsWhole}
pub use Rattle.life_canon.specs.Running.{AreWorking, RunsCanon}
pub use Rattle.life_reader.specs.Reading.{ReadsPattern}
pub use Rattle.life_pattern.specs.Store.{content, IsOfFile, IsRead, IsTrimmed, IsShortageOf, Keeps, universe_in}
pub use Rattle.life_writer.specs.Texts.{IsCanonical, IsRleOf, IsShownText}
pub use Rattle.life_cli.specs.Jobs.{IsUncompared, IsWrittenInPart, CanonRefuses, HasNoTable, HasNoTextByTable, HasTable, HasTextByTable, IsPatternIn}
pub use Rattle.life_cli.specs.Jobs.{made_status, made_text, MadeOf, OfFile, OfOneFile, OfTable, refusal_in, RefusesLifeStep, RefusesStepBy, TaskMakes, TaskRan, TaskRefuses}
pub use Rattle.life_cli.specs.Jobs.{HasNoTextLater, HasNoTextLaterByTable, HasTextLaterByTable, IsSteppedTimes, RefusesGenerations, RefusesStepOf, RefusesTimes}
pub use Rattle.life_cli.specs.Jobs.{Worked, WritesPlacedText}
pub use Rattle.life_cli.specs.Origins.{FailsToOpen, OpensFiles}
pub use Rattle.life_cli.specs.Usages.{is_asked, is_out_of_memory, text_line, text_status, usage_line, usage_status, words_line, words_status}
pub use Rattle.life_generations.specs.Later.{IsTextLater}
pub use Rattle.life_periods.specs.OfFile.{IsShownWithPeriod, RefusesPeriodOfFile}
pub use Rattle.life_quad.specs.Cells.{population}
pub use Rattle.life_quad.specs.Store.{stored_squares}
pub use Rattle.life_step.specs.Stepped.{IsStepped, IsSteppedBy}
pub use Rattle.pattern_sources.specs.Faults.{fault_line, refusal_of, status_of, Reports}
pub use Rattle.pattern_sources.specs.Forms.{IsTextIn}
pub use Rattle.pattern_sources.specs.Sources.{AreOfInput, ComesOf, HasText, HoldsOneFile, InputRefuses, IsShortageFor, RefusesInForm, RefusesMany}
pub use Rattle.pattern_sources.specs.declared.refusals.Refusal.{Refusal}
pub use Rattle.std.specs.Io.KnownBytes.{Appends}
