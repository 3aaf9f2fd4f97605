use Rattle.std.proofs.Common.{◌≡◌, ◌-◌, ◌^◌, pos, ◌+ℤ◌, arith, ◌∙◌, ap}
use Rattle.std.proofs.lemmas.Result.{IfOk-weaker, on_err_weaker}
use Rattle.std.proofs.lemmas.Int.{ints}
use Rattle.std.proofs.Math.Pow.{pow_mono}
use Rattle.life_base.specs.Tree.{half_side}
use Rattle.life_quad.proofs.RunLemmas.{SetsRun-span}
use Rattle.life_quad.proofs.runs.set_run.Goals as goal

pub offset-requires-clause-small : goal.offset-requires-clause-small
offset-requires-clause-small g c =
    let low = c.level.ensures.low in
    let small = pow_mono {i = c.level.result - 1} {j = 61} (omega arith) in
    let e = c.half_side-half.ensures.half in omega arith

pub offset-requires-2-clause-small : goal.offset-requires-2-clause-small
offset-requires-2-clause-small g c =
    let low = c.level.ensures.low in
    let small = pow_mono {i = c.level.result - 1} {j = 61} (omega arith) in
    let e = c.half_side-half.ensures.half in omega arith

pub returns : goal.returns
returns g c =
    let half : c.half_side-half.result ≡ half_side (g.S.Squares.content c.args.squares.now c.args.root) = c.half_side-half.ensures.half
    ∙ ap (λ l. 2 ^ (l - 1)) c.level.ensures.level in
    let i = c.requires.inside in
    let ex : pos c.offset.result ≡ c.args.run.x +ℤ pos c.half_side-half.result = omega (arith, ints, c.offset.ensures, i.west, i.east) in
    let ey : pos c.offset-2.result ≡ c.args.run.y +ℤ pos c.half_side-half.result = omega (arith, ints, c.offset-2.ensures, i.north, i.south) in
    let x = ex ∙ ap (λ h. c.args.run.x +ℤ pos h) half in
    let y = ey ∙ ap (λ h. c.args.run.y +ℤ pos h) half in
    let call = c.set_span.ensures in
    record {
      known = call.known;
      square = IfOk-weaker c.set_span.result _ _ (λ r s. SetsRun-span _ _ _ _ _ c.requires.high i x y s) call.square;
      keeps = call.keeps;
      refusals = call.refusals;
      space = call.space;
      needed = on_err_weaker c.set_span.result (λ s. (s.0, SetsRun-span _ _ _ _ _ c.requires.high i x y s.1, s.2)) call.needed;
    }
