use Rattle.std.proofs.Common.{◌+◌, ◌-◌, ◌∙◌, ◌≡◌, ◌∷◌, ◌++◌, [], List, ℕ, ap, w64, arith, length, slice_index, take}
use Rattle.std.specs.Int.{to_le_bytes}
use Rattle.life_mc.specs.declared.line_writing.TheConstants.{ROW_WORDS}
use Rattle.life_mc.specs.Writing.{row_text}
use Rattle.life_mc.proofs.LineSpace.{row-put}
use Rattle.life_mc.proofs.RowTexts.{some_text, text_in_table}
use Rattle.life_mc.proofs.line_writing.write_row.Goals as goal

pub returns-clause-written : goal.returns-clause-written
returns-clause-written c =
    let row = c.args.row in
    let text = c.copy_from_slice.new.self in
    let n = c.row_length.result in
    let word = c.copy_from_slice.ensures.after ∙ c.to_le_bytes.ensures in
    let eight : length text ≡ 8 = ap (λ (t : List ℕ). length t) word in
    let cells : take (n - 1) text ++ 36 ∷ [] ≡ row_text row = ap (λ k. take (k - 1) text ++ 36 ∷ []) c.row_length.ensures.text
    ∙ ap (λ (t : List ℕ). take (length (row_text row) - 1) t ++ 36 ∷ []) (word ∙ ap (λ k. to_le_bytes w64 (slice_index ROW_WORDS k)) c.from.ensures)
    ∙ text_in_table row (omega arith) in
    row-put c.args.space.now text (row_text row) c.args.at n (c.args.at + 8 - c.args.at) (omega (arith, c.requires)) eight (omega arith)
    (omega (arith, c.row_length.ensures.text, some_text row)) c.row_length.ensures.within cells
