use Rattle.std.proofs.lemmas.Bool.{ltb-true}
use Rattle.life_strip.specs.declared.row_builder.RowWord.{RowWord}
use Rattle.life_rows.proofs.ThreeRowsLemmas.{inner-by_ends}
use Rattle.life_rows.proofs.three_rows.are_inner.Goals as goal

abbrev no_word : RowWord
no_word = record { place = 0; cells = 0 }

pub returns-then-words-gt0 : goal.returns-then-words-gt0
returns-then-words-gt0 c last =
    inner-by_ends c.args.words.now no_word c.requires c.if-words-gt0.true (ltb-true _ _ last)
