-- The words of the contracts of this crate.
pub use Rattle.std.specs.Char.{is_ascii_digit}
pub use Rattle.std.specs.List.{list_any}
pub use Rattle.std.specs.Str.{byte}
pub use Rattle.life_base.specs.Text.{lines_of, without_last}
pub use Rattle.file_hints.specs.Recognition.{binary_of, first_item_line, first_text, foreign_of, has_byte, has_no_item, has_only, holds_text}
pub use Rattle.file_hints.specs.Recognition.{is_headerless, is_image, is_plaintext, is_tar, lines_but_first, other_pattern_of, returns_of, text_kind_of}
pub use Rattle.file_hints.specs.Recognition.{without_space}
pub use Rattle.file_hints.specs.Damage.{is_live_byte, is_neighbour_count, is_set_letter, is_size_digit, is_state_byte, lines_of_items, number_from}
pub use Rattle.file_hints.specs.Damage.{warning_of, with_digit}
pub use Rattle.file_hints.specs.Refused.{advice_on, advice_words, foreign_at_start, foreign_on}
pub use Rattle.file_hints.specs.Warnings.{warning_sentence}
pub use Rattle.file_hints.specs.Watching.{count_after, IsCutAt, warning_after, warning_by, warning_in, warning_in_ending, warning_in_header, warning_in_items}
pub use Rattle.file_hints.specs.Watching.{warning_in_macrocell, warning_in_rle}
