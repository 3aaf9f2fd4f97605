-- The words of the contracts of this crate.
pub use Rattle.file_keys.specs.Duplicates.{CanGather, classes_in, Gathers, kept_groups, kept_names, next_names, PutsFile, RanDuplicates, with_name, with_outcome}
pub use Rattle.file_keys.specs.Groups.{ended_name, groups_text, GroupsAreByKey, IsGroupStatus, names_text, status_by}
pub use Rattle.file_keys.specs.Json.{control_text, hex_digits, json_byte, json_text, json_name}
pub use Rattle.file_keys.specs.KeyRuns.{bytes_of_name, CanBegin, CanTake, Comes, error_line, IsOutcomeOf, IsReportedAs, LacksBytes, LacksList, Listed, name_of_file, names_among, names_in_list, names_left, outcome_line}
pub use Rattle.file_keys.specs.KeyRuns.{outcome_status, output_line, KeysRan, ReadsList, report_line, style_by, style_of, Takes, TakesNames, TellsOn, WritesFiles}
pub use Rattle.file_hints.specs.Refused.{advice_words, foreign_on}
pub use Rattle.file_hints.specs.Warnings.{warning_sentence}
pub use Rattle.file_keys.specs.Keys.{advice_lead, without_advice, escaped_name, escaped_byte, fault_text, is_special, IsHashedText, IsKeyIn, IsKeyOf, IsStatus, key_line, name_mark, pieces_of, reason_of}
pub use Rattle.file_keys.specs.Keys.{refused_line, unopened_line}
pub use Rattle.file_keys.specs.Objects.{fault_members, key_members, kind_member, line_member, members_text, object_head, object_text, reason_member}
pub use Rattle.file_keys.specs.Pieces.{piece_text, pieces_text, replacement_of}
pub use Rattle.file_keys.specs.Stream.{BreaksStream, CanTakePieces, done, PatternEntry, fault_entry, HoldsPiece, IsEntryOf, IsOutcomeOfPiece, LacksNul, StreamRan, TakesPieces, TellsStreamEnd, TellsGiven}
pub use Rattle.file_keys.specs.Stream.{TellsSource, warning_line, warning_with, WritesEntries, WritesEntry}
pub use Rattle.life_base.specs.DeviceRuns.{sink_run, source_run}
pub use Rattle.life_base.specs.Devices.{flag_count}
pub use Rattle.life_base.specs.Inputs.{ReadAll}
pub use Rattle.life_base.specs.Refusal.{fault_of, IsMemory}
pub use Rattle.life_base.specs.Text.{is_empty}
pub use Rattle.life_base.specs.Writing.{LeavesSink, WritesText}
pub use Rattle.pattern_sources.specs.Faults.{fault_line, refusal_of, status_of, Reports}
pub use Rattle.pattern_sources.specs.Forms.{IsTextIn}
pub use Rattle.pattern_sources.specs.Sources.{ComesOf, RefusesInForm}
pub use Rattle.std.specs.List.{list_any}
