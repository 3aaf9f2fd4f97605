use Rattle.std.proofs.Common.{◌≡◌, ℕ, ◌+◌, ◌*◌, ◌/◌, ◌%◌, ◌^◌, ◌<◌, arith, refl, ◌∙◌, ap}
use Rattle.std.proofs.lemmas.Int.{ints}
use Rattle.life_quad.specs.Store.{four}
use Rattle.life_next.specs.Generation.{next_life}
use Rattle.life_block.specs.Bits.{leaf_of_cells}
use Rattle.life_pieces.specs.Pieces.{square_from, step_ahead}
use Rattle.life_block.proofs.LeafWordLemmas.{next-rows, quarter-bits}
use Rattle.life_pieces.proofs.NeedLemmas.{joined-is}
use Rattle.life_pieces.proofs.SquareLemmas.{square-is}
use Rattle.life_block.proofs.leaf_words.next_cells.Goals as goal

pub returns : goal.returns
returns c cells x y h =
    let f = next_life c.args.rule.now cells in
    let word = c.by_quarters-cells.result in
    let rows = next-rows c.args.rule.now cells x y c.words_around.result c.next_word.result (c.words_around.ensures cells x y h) c.next_word.ensures in
    let square : (s q k : ℕ) → s < 2 → q < 2 → k + 16 * (2 * s + q) ≡ 48
    → four (word / 2 ^ k % 2 ^ 16) ≡ square_from f 2 (step_ahead x (4 * q)) (step_ahead y (4 * s)) =
    (λ s q k ls lq e. square-is f (step_ahead x (4 * q)) (step_ahead y (4 * s)) (word / 2 ^ k % 2 ^ 16) (omega arith)
    (quarter-bits f x y c.next_word.result word rows c.by_quarters-cells.ensures s q k ls lq e)) in
    let ex : step_ahead x 0 ≡ x = omega (arith, ints) in
    let ey : step_ahead y 0 ≡ y = omega (arith, ints) in
    let first : word / 2 ^ 48 ≡ word / 2 ^ 48 % 2 ^ 16 = omega arith in
    let last : word % 2 ^ 16 ≡ word / 2 ^ 0 % 2 ^ 16 = omega arith in
    ap leaf_of_cells c.of.ensures ∙ joined-is (record {
      nw = ap four first ∙ square 0 0 48 (omega arith) (omega arith) refl ∙ (λ j. square_from f 2 (ex j) (ey j));
      ne = square 0 1 32 (omega arith) (omega arith) refl ∙ ap (square_from f 2 (step_ahead x 4)) ey;
      sw = square 1 0 16 (omega arith) (omega arith) refl ∙ ap (λ z. square_from f 2 z (step_ahead y 4)) ex;
      se = ap four last ∙ square 1 1 0 (omega arith) (omega arith) refl;
    })
