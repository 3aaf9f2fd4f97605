-- The words of the contracts of this crate.
pub use Rattle.life_base.specs.Devices.{flag_count, CountsFailure, takes_none}
pub use Rattle.life_base.specs.Inputs.{CameBeyond, ReadAll}
pub use Rattle.life_base.specs.Lines.{LinesAreJoined, LinesAreNumbered, LinesAreWhole, LinesContinue, LinesGrow}
pub use Rattle.life_base.specs.Numbers.{capped_number, i64_of, number_up_to, u64_of}
pub use Rattle.life_base.specs.Refusal.{Answers, IsMemory}
pub use Rattle.life_base.specs.RuleForms.{FourTextsAreForms, LifeTextsAreForms, RuleTextsArePlain}
pub use Rattle.life_base.specs.Rules.{AreSets, digit_groups, digit_set, digits_of, four_or_other, four_sets, has_digit, is_bad_text, is_count_digit, life_form}
pub use Rattle.life_base.specs.Rules.{life_rule, life_sets, marks, MooreRulesStay, most_neighbours, names_other_neighbours, other_rule, rule_of}
pub use Rattle.life_base.specs.Rules.{rule_of_trimmed, rule_text, RulesReadBack, RuleTextsAreVisible, RuleTextsRefused, RuleTextsSayRules}
pub use Rattle.life_base.specs.Rules.{RuleTextsTellRules, sets_in, sets_text, up_to_four, with_letter}
pub use Rattle.life_base.specs.Text.{begins_with, is_blank, is_digit_text, is_too_long, is_whitespace, lines_of, numbered_from, trim, trim_end, trim_start}
pub use Rattle.life_base.specs.Text.{value_of, with_word, words_of}
pub use Rattle.life_base.specs.Writing.{LeavesSink, WritesText}
pub use Rattle.life_base.specs.declared.kind.Kind.TheVariants.{Memory}
pub use Rattle.std.specs.Borrow.{ftrue}
pub use Rattle.std.specs.Char.{is_ascii_digit, is_ascii_graphic, to_ascii_uppercase}
pub use Rattle.std.specs.Coded.{coded_list, coded_ℕ}
pub use Rattle.std.specs.Io.{ReadsAtMost, WritesAtMost}
pub use Rattle.std.specs.Io.KnownBytes.{Keeps, ReadConsumes, WriteAppends}
pub use Rattle.std.specs.List.{flat_map, list_all, list_any, prefix_len}
pub use Rattle.std.specs.Str.{byte}
