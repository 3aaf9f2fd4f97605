use Rattle.std.proofs.Common.{◌≡◌, ◌≤◌, sym, refl, subst, min, arith}
use Rattle.std.proofs.lemmas.Int.{ints}
use Rattle.std.proofs.lemmas.Result.{IfOk-weaker}
use Rattle.std.proofs.Math.Pow.{pow_mono}
use Rattle.life_quad.specs.Store.{eight}
use Rattle.life_pieces.specs.Pieces.{IsPiece, step_ahead, step_back}
use Rattle.life_pieces.proofs.PieceLemmas.{IsPiece-moved}
use Rattle.life_leap.specs.After.{after, leap_length}
use Rattle.life_leap.proofs.bands.leaf_after.Goals as goal

pub returns-clause-later : goal.returns-clause-later
returns-clause-later g c =
    let n = leap_length c.args.pace 4 in
    let few : n ≤ 4 = pow_mono {i = min c.args.pace 2} {j = 2} (omega arith) in
    IfOk-weaker c.leaf.result _ _
    (λ r e. record {
      later = λ cells x y binary p.
          let z = step_back y 4 in
          let at : y ≡ step_ahead z 4 = omega (arith, ints) in
          let to : step_ahead z 8 ≡ step_ahead y 4 = omega (arith, ints) in
          let h = c.bands_later-later.ensures cells x z (c.bands_of-bands.ensures cells x z binary (IsPiece-moved cells x x y (step_ahead z 4)
          (g.S.Squares.content c.args.squares.now c.args.id) refl at p)) in
          subst (IsPiece (after c.args.rule.now n cells) (step_ahead x 4) (step_ahead y 4)) (sym e)
          (IsPiece-moved (after c.args.rule.now n cells) (step_ahead x 4) (step_ahead x 4) (step_ahead z 8) (step_ahead y 4)
          (eight c.middle_cells.result) refl to
          (c.middle_cells.ensures (after c.args.rule.now n cells) x z n few h));
    })
    c.leaf.ensures.square
