use Rattle.std.proofs.Common.{◌≡◌, ◌++◌, ◌/◌, ◌%◌, ◌^◌, ◌∙◌, arith, refl}
use Rattle.life_quad.specs.Store.{eight, four}
use Rattle.life_writer.specs.Rows.{rows_side_by_side}
use Rattle.life_writer.proofs.LeafWords.{rows-of_word}
use Rattle.life_writer.proofs.RowFacts.{leaf_rows}
use Rattle.life_forms.proofs.leaves.leaf_rows.Goals as goal

pub returns : goal.returns
returns c =
    let word = c.args.cells in
    let first : word / 2 ^ 48 % 2 ^ 16 ≡ word / 281474976710656 = omega arith in
    let last : word / 2 ^ 0 % 2 ^ 16 ≡ word % 65536 = omega arith in
    c.to_be_bytes.ensures ∙ rows-of_word c.by_rows.result word c.by_rows.ensures
    ∙ (λ i. rows_side_by_side (four (first i)) (four (word / 2 ^ 32 % 2 ^ 16)) ++ rows_side_by_side (four (word / 2 ^ 16 % 2 ^ 16)) (four (last i)))
    ∙ leaf_rows (eight word) _ _ _ _ _ _ _ _ refl refl refl refl refl refl
