use Rattle.std.proofs.Common.{◌≡◌, refl, arith}
use Rattle.std.proofs.lemmas.Int.{ints}
use Rattle.life_next.specs.Generation.{one_before}
use Rattle.life_pieces.specs.Pieces.{step_back, step_ahead}
use Rattle.life_block.proofs.LeafWordLemmas.{HasRows-moved, eight-between}
use Rattle.life_block.proofs.leaf_words.one_row_north.Goals as goal

pub returns : goal.returns
returns c cells x y above here =
    let middle : y ≡ step_ahead (step_back y 8) 8 = omega (arith, ints) in
    let north : step_ahead (step_back y 8) 7 ≡ one_before y = omega (arith, ints) in
    HasRows-moved cells x _ _ _ north
    (eight-between cells x (step_back y 8) c.args.above c.args.here 1 8 56 (omega arith) refl refl (omega arith) above
    (HasRows-moved cells x _ _ _ middle here))
