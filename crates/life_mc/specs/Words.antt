-- The words of the contracts of this crate.
pub use Rattle.life_base.specs.Numbers.{capped_number, u64_of}
pub use Rattle.life_base.specs.Refusal.{fault_of, IsMemory, OrMemory}
pub use Rattle.life_base.specs.Text.{is_blank, is_digit_text, is_empty, lines_of, trim, value_of, words_of}
pub use Rattle.life_base.specs.declared.cell.TheConstants.{MAX_LEVEL}
pub use Rattle.life_base.specs.declared.kind.Kind.TheVariants.{Memory}
pub use Rattle.life_mc.specs.Accepted.{MacrocellsAreValid, MacrocellsAreBlankOutside, LinesAreValid, NodeLinesCounted}
pub use Rattle.life_mc.specs.Grammar.{MacrocellGrammarsAgree, is_cell, IsPlainMacrocell}
pub use Rattle.life_mc.specs.Laws.{IsUnbrokenMacrocell, MacrocellFaultsAreUnique, MacrocellsAreUnique, MacrocellPrefixesAreFiles, MacrocellPrefixesAreUnbroken, MacrocellKindsNameLines, LongMacrocellLinesBreak}
pub use Rattle.life_mc.specs.Laws.{MacrocellRefusalsHaveKinds, WiderPlanesKeepMacrocells}
pub use Rattle.life_mc.specs.Macrocell.{is_child, is_quarter, largest_state, level_of}
pub use Rattle.life_mc.specs.Reading.{broken_rule, broken_after, broken_by_node, broken_by_square, is_letter_command, is_leaf, is_leaf_byte, is_macrocell_kind}
pub use Rattle.life_mc.specs.Reading.{is_node_line, leaf_bytes, MacrocellLinesBreakByKinds, RefusesMacrocell, byte_of_row, square_of_text, squares_of}
pub use Rattle.life_mc.specs.Squares.{LinesStandForSquares}
pub use Rattle.life_mc.specs.Standing.{begins_with_number, first_row, leading_cells, IsCommandRead, IsParsed, IsLastNumber, IsSpacedNumber, quad_words, TellsRow, WritesBetween}
pub use Rattle.life_mc.specs.Writing.{file_text, header_lines_text, mc_text, node_text, row_text, TextsReadBack}
pub use Rattle.life_mc.specs.declared.line.Line.TheVariants.{Quad}
pub use Rattle.life_mc.specs.declared.line.ParsedLine.TheVariants.{NodeLine}
pub use Rattle.std.specs.Char.{is_ascii_digit}
pub use Rattle.std.specs.List.{list_all}
pub use Rattle.std.specs.Option.{option_map}
pub use Rattle.std.specs.Result.{result_err}
pub use Rattle.std.specs.Simd.Lanes.{mask_l}
pub use Rattle.std.specs.Str.{byte}
