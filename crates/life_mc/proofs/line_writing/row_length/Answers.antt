use Rattle.std.proofs.Common.{arith, ◌∙◌, ap, slice_index}
use Rattle.life_mc.specs.declared.line_writing.TheConstants.{ROW_LENGTHS}
use Rattle.life_mc.proofs.RowTexts.{length_in_table, short_text}
use Rattle.life_mc.proofs.line_writing.row_length.Goals as goal

pub returns-clause-text : goal.returns-clause-text
returns-clause-text c = c.from-2.ensures ∙ ap (slice_index ROW_LENGTHS) c.from.ensures ∙ length_in_table c.args.row (omega arith)

pub returns-clause-within : goal.returns-clause-within
returns-clause-within c =
    let is = c.from-2.ensures ∙ ap (slice_index ROW_LENGTHS) c.from.ensures ∙ length_in_table c.args.row (omega arith) in
    omega (arith, is, short_text c.args.row (omega arith))
