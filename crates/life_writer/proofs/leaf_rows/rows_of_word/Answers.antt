use Rattle.std.proofs.Common.{◌∙◌}
use Rattle.life_writer.proofs.LeafWords.{rows-of_word}
use Rattle.life_writer.proofs.leaf_rows.rows_of_word.Goals as goal

pub returns : goal.returns
returns c = c.to_be_bytes.ensures ∙ rows-of_word c.by_rows.result c.args.cells c.by_rows.ensures
