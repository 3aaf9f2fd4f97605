-- The words of the contracts of this crate.
pub use Rattle.clap.specs.Words.{App, FailsBy, first_of, found_of, HasMatchesOf, new_app, rows_of, Rule, subcommand_of, subcommand_rows_of, with_rule}
pub use Rattle.clap.specs.Words.{with_subcommand}
pub use Rattle.life_base.specs.Numbers.{u64_of}
pub use Rattle.command_line.specs.CommandLine.{canon_line, convert_line, files_line, files_rule, flag, HasRule, keys_line, named_program, one_file_line, option}
pub use Rattle.command_line.specs.CommandLine.{program, ReadsAs, required_file, required_option, same_line, short_flag, show_line, step_line, two_files_line, with_explain, with_form}
pub use Rattle.command_line.specs.Origins.{IsOriginOf}
pub use Rattle.command_line.specs.Plans.{AreOfTask, AreWhole, Explains, ExplainsPlan, form_word, HasDefaultWithin, HasNoForm, HasNoFormat, HasNoMost, HasNoNumber, HasNoPeriod, HasSecond, HasOneFile, HoldsFiles}
pub use Rattle.command_line.specs.Plans.{HoldsFlag, HoldsForm, HoldsGenerations, HoldsKeyForm, HoldsKeys, HoldsMost, HoldsPeriod, HoldsStream, IfWork, input_count, input_count_under, IsFoundAmong, IsPlanOf, IsRequestOf, IsTaskPlanOf, IsValueOf}
pub use Rattle.command_line.specs.Plans.{NamesInputTwice, RefusesAs, RefusesKeys, RefusesStream, RefusesWord, HasNoJob, target_word, task_of, task_plan_of, values_of}
pub use Rattle.std.specs.Str.{bytes_eq}
