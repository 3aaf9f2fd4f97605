-- The words of the contracts of this crate.
pub use Rattle.life_base.specs.Refusal.{Answers, IsMemory, OrMemory}
pub use Rattle.life_base.specs.Rules.{rule_of}
pub use Rattle.life_base.specs.Text.{lines_of}
pub use Rattle.life_table.specs.Around.{states_of_neighbours, AnswersNext}
pub use Rattle.life_table.specs.Found.{Adds, Consistent, SomeGives, IsFoundOf}
pub use Rattle.life_table.specs.Grammar.{TableGrammarsAgree, IsPlainTable}
pub use Rattle.life_table.specs.Index.{AnswersAmong, AreBlocks, AreCounts, Asks, entry_at, BlockHasLine, HasLines, InSets, is_among, IsApart, IsImage, IsQuery}
pub use Rattle.life_table.specs.Index.{KeepsOrders, MayComeAfter, MayFit, MayFitInSomeOrder, MayGive, Stay}
pub use Rattle.life_table.specs.Laws.{AcceptedWritesTable, TableLinesBreakByKinds, NothingDropped, OneAnswer, OrdersByCounts, PermuteByCounts, TableRefusalsHaveKinds}
pub use Rattle.life_table.specs.Laws.{ZeroStaysZero}
pub use Rattle.life_table.specs.Meaning.{Ambiguous, Becomes, count_of, Decides, Gives, GivesAs, GivesByCounts, GivesNothing, has_state, HasState, IsChoice}
pub use Rattle.life_table.specs.Meaning.{state_of}
pub use Rattle.life_table.specs.Orders.{family, images, orders, reflected_turn, reflected_turns, turn, turns}
pub use Rattle.life_table.specs.Reader.{parsed_after, AreEntriesOf, fits_after, IsGood, IsKeptParse, nothing_parsed, parts_left}
pub use Rattle.life_table.specs.Reading.{agree, begins_rule_line, between_commas, bytes_alone, line_content, Describes, entries_of, entry_of, if_named}
pub use Rattle.life_table.specs.Reading.{if_neighborhood, if_states, if_symmetry, if_transition, is_bound, is_described, is_list, is_name_byte}
pub use Rattle.life_table.specs.Reading.{is_neighborhood_key, is_passed_over, is_section_line, is_table_kind, is_table_line, is_variable_line}
pub use Rattle.life_table.specs.Reading.{is_variable_name, missing_part_of, name_in, name_on, neighborhood_named, number_below, parse_ahead, parse_descriptor}
pub use Rattle.life_table.specs.Reading.{parse_in_table, parse_line, parse_rest, parse_settled, RefusesTable, single, states_listed, states_named}
pub use Rattle.life_table.specs.Reading.{states_of_entry, symmetry_named, transition_of, union, variable_named, variable_of, variable_states, within_braces}
pub use Rattle.life_table.specs.Seen.{IsSeen, places}
pub use Rattle.life_table.specs.Site.{centre_of, GoesRound, IsLineAt, IsSite, others_of, TurnsAreImages}
pub use Rattle.life_table.specs.Taking.{add_to, AreFailed, can_be_state, Completes, CompletesWith, free_count, IsGrouped, IsSearch, of_state, settled_state}
pub use Rattle.life_table.specs.Taking.{settled_count, GroupTakes}
pub use Rattle.life_table.specs.Valid.{allows_zero, fits_zero, is_quiet, is_quiet_output, is_variable, IsEntry, neighbour_count}
pub use Rattle.std.specs.Int.{bit_at}
pub use Rattle.std.specs.List.{after_first, before_first, list_all, list_any, slice_split}
pub use Rattle.std.specs.List.Sorted.{IsPermutation}
pub use Rattle.std.specs.Str.{byte}
