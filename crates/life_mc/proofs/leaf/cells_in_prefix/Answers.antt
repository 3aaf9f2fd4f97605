use Rattle.std.proofs.Common.{◌≡◌, ◌∙◌, ◌-◌, ◌≤◌, ◌++◌, ◌∷◌, [], ap, not, length, length-append, take, arith}
use lib.Count.{count_trailing_zeros}
use Rattle.std.specs.Simd.Lanes.{mask_l}
use Rattle.std.proofs.lemmas.Simd.{length-chunk, trailing_mask_l}
use Rattle.life_mc.specs.Grammar.{is_cell}
use Rattle.life_mc.proofs.WholeRows.{first_other, marks_left, others, some_other}
use Rattle.life_mc.proofs.leaf.cells_in_prefix.Goals as goal

pub overflow_sub-result : goal.overflow_sub-result
overflow_sub-result c =
    let text = take 8 c.args.text.now in
    omega (arith, c.cell_places.ensures, marks_left text (length-chunk 0 8 c.args.text.now c.requires))

pub returns : goal.returns
returns c =
    let text = take 8 c.args.text.now in
    let eight : length text ≡ 8 = length-chunk 0 8 c.args.text.now c.requires in
    let marks : 511 - c.cell_places.result ≡ mask_l (others text) = omega (arith, c.cell_places.ensures, marks_left text eight) in
    let long : length (text ++ 36 ∷ []) ≤ 64 = omega (arith, length-append text (36 ∷ []), eight) in
    ap (count_trailing_zeros 64) marks ∙ trailing_mask_l (λ b. not (is_cell b)) 64 (text ++ 36 ∷ []) long (some_other text) ∙ first_other 8 c.args.text.now
