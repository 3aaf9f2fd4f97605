-- The words of `command_line` in which the contracts of `work` and `plan` speak of a job.
pub use Rattle.command_line.specs.Plans.{ExplainsPlan, HasSecond, IsPlanOf, NamesInputTwice, task_of}
