use Rattle.std.proofs.Common.{◌≡◌, ◌∙◌, ◌-◌, ◌%◌, ℕ, List, ap, sym, arith, get_or, length, take, length-take-le, ◌^◌}
use Rattle.life_mc.specs.Reading.{byte_of_row}
use Rattle.life_mc.specs.Grammar.{is_row}
use Rattle.life_mc.specs.Standing.{first_row, leading_cells}
use Rattle.life_mc.proofs.Leaves.{row_fits_all}
use Rattle.life_mc.proofs.WholeRows.{columns_in_prefix, prefix_is_row, prefix_within, no_row_in_prefix, row_in_prefix}
use Rattle.life_mc.proofs.leaf.whole_row.Goals as goal

pub returns-then-text-end-ne36 : goal.returns-then-text-end-ne36
returns-then-text-end-ne36 c =
    let text = c.args.text.now in
    sym (row_fits_all (first_row text))
    ∙ no_row_in_prefix 8 text c.requires (λ e. c.if-text-end-ne36.true (ap (λ k. get_or text k 0) c.cells_in_prefix-end.ensures ∙ e))

pub returns : goal.returns
returns c =
    let text = c.args.text.now in
    let prefix : c.cells_in_prefix-end.result ≡ leading_cells 8 text = c.cells_in_prefix-end.ensures in
    let row : first_row text ≡ take (leading_cells 8 text) text = row_in_prefix 8 text c.requires
    (ap (λ k. get_or text k 0) (sym prefix) ∙ c.if-text-end-ne36.false) in
    let byte : c.first_columns.result ≡ byte_of_row (take (leading_cells 8 text) text) =
    c.first_columns.ensures ∙ ap (λ k. c.eight_columns.result - c.eight_columns.result % 2 ^ (8 - k)) prefix
    ∙ ap (λ b. b - b % 2 ^ (8 - leading_cells 8 text)) c.eight_columns.ensures ∙ columns_in_prefix (leading_cells 8 text) text (prefix_within 8 text)
    (omega (arith, c.requires)) in (
      ap is_row row ∙ prefix_is_row text,
      byte ∙ ap byte_of_row (sym row),
      prefix ∙ sym (ap (λ (t : List ℕ). length t) row ∙ length-take-le (leading_cells 8 text) text (omega (arith, c.requires, prefix_within 8 text))),
    )
