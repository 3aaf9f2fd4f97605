-- The words of the contracts of this crate.
pub use Rattle.life_base.specs.Numbers.{capped_number, u64_of}
pub use Rattle.life_base.specs.Refusal.{Answers, fault_of, IsMemory, OrMemory}
pub use Rattle.life_base.specs.Text.{is_digit_text, lines_of, value_of, words_of}
pub use Rattle.life_base.specs.declared.cell.Run.{Run}
pub use Rattle.life_base.specs.declared.rule.Rule.{Rule}
pub use Rattle.life_rle.specs.Blocks.{FewBlocks, FewBlocksInPrefixes}
pub use Rattle.life_rle.specs.Cursor.{IsNear, item_count, cursor_after_item, row_limit, start_of}
pub use Rattle.life_rle.specs.Decided.{IsDecided}
pub use Rattle.life_rle.specs.File.{HasRuns, IsPrefixOfRuns, RefusesRle, Shows}
pub use Rattle.life_rle.specs.PrefixLaws.{BeginsAsRle, RlePrefixesAreFiles, PrefixesOfPrefixes, IsMarkDecided, LinesAfterMarkAreFree, LongRleLinesBreak}
pub use Rattle.life_rle.specs.PrefixLaws.{MacrocellLineBreaks}
pub use Rattle.life_rle.specs.Grammar.{BreaksRle, is_rle_kind, later_of, opening_of}
pub use Rattle.life_rle.specs.Header.{after_number, after_word, header_form, header_of, rule_part}
pub use Rattle.life_rle.specs.Items.{Broken, item_with_digits, item_after}
pub use Rattle.life_rle.specs.ItemsLaw.{ItemsAreCells}
pub use Rattle.life_rle.specs.Laws.{BreaksForGood, RleFaultsAreUnique, RlePrefixesAreUnbroken, IsOneRle, RleKindsNameLines, RleLinesBreakByKinds, RleTextReadsBack}
pub use Rattle.life_rle.specs.Laws.{StatesReadBack, WiderPlanesKeepRles, WrappedGreedily}
pub use Rattle.life_rle.specs.LongestRuns.{RunsAreLongest}
pub use Rattle.life_rle.specs.Pattern.{item_fault, Rle}
pub use Rattle.life_rle.specs.Plain.{FaultsArePlain, HeadersArePlain, ItemsArePlain}
pub use Rattle.life_rle.specs.PlainFile.{FilesArePlain, IsPlainRle}
pub use Rattle.life_rle.specs.PlainPosition.{PositionsArePlain}
pub use Rattle.life_rle.specs.Plane.{rle_plane_end, is_coordinate, most_count}
pub use Rattle.life_rle.specs.Position.{and_then, corner_in, field_of, Generation, is_position_line, position_of, position_with, signed_number, position_with_field}
pub use Rattle.life_rle.specs.Reader.{IsCount, IsCountRead, IsItemAt, IsNumberRead, IsTokenAt, ItemsBreak, last_of, ReadsItems, TakesItem}
pub use Rattle.life_rle.specs.Runs.{is_run_end, with_run}
pub use Rattle.life_rle.specs.RunsLaw.{RlesAreBlankOutside, RunsAreCells}
pub use Rattle.life_rle.specs.ShortItems.{RowHasSpace, IsShortItem, IsStateAt, AreShortCells, PassesDead, ReadsOn, short_count, short_digits}
pub use Rattle.life_rle.specs.Sorted.{are_sorted_cells, is_live_cell, rises}
pub use Rattle.life_rle.specs.Standing.{Advances, is_over, is_refused, IsCursorPlaced, StandsAt, TakesRleLine}
pub use Rattle.life_rle.specs.States.{is_state_of, state_letters, prefixed_state, single_state, state_text}
pub use Rattle.life_rle.specs.Valid.{RlesAreValid}
pub use Rattle.life_rle.specs.Writer.{column_after_run, Follow, IsAhead, IsGoodCell, IsInPlane, IsLiveRun, IsPen, item_of, items_text, continues_run, longer_run}
pub use Rattle.life_rle.specs.Writer.{pen_text, PutsItems, run_of, tag_text, text_with, WritesCell}
pub use Rattle.life_rle.specs.Written.{box_of, box_of_cell, count_text, generation_text, header_text, item_text, items_from, position_text, rle_text, box_side}
pub use Rattle.life_rle.specs.Written.{way_to, with_gap}
pub use Rattle.life_rle.specs.declared.item.Item.TheVariants.{Cells, RowEnds}
pub use Rattle.life_rle.specs.declared.line.Later.TheVariants.{Data}
pub use Rattle.life_rle.specs.declared.position.Position.{Position}
pub use Rattle.std.specs.Char.{is_ascii_digit}
pub use Rattle.std.specs.Fmt.{signed_decimal}
pub use Rattle.std.specs.Int.{int_max, int_min}
pub use Rattle.std.specs.List.{after_first, before_first}
pub use Rattle.std.specs.Option.{option_map}
pub use Rattle.std.specs.Str.{byte}
pub use Rattle.std.specs.Vec.{vec_capacity, vec_len}
