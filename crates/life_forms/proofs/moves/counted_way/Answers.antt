use Rattle.std.proofs.Common.{◌≡◌, pos, neg_ℤ, ◌+ℤ◌, ◌-ℤ◌, to_z, of_z, w64, arith}
use Rattle.std.proofs.lemmas.Int.{ints}
use Rattle.life_base.specs.declared.cell.TheConstants.{MAX_LEVEL}
use Rattle.life_forms.specs.Forms.{IsInPlace}
use Rattle.life_forms.specs.Turns.{opposite_coordinate}
use Rattle.life_forms.proofs.MirrorFacts.{way-below}
use Rattle.life_forms.proofs.ShiftFacts.{in-place-at}
use Rattle.life_forms.proofs.TurnFacts.{backwards-is}
use Rattle.life_forms.proofs.moves.counted_way.Goals as goal

pub returns-then-last-clause-opposite : goal.returns-then-last-clause-opposite
returns-then-last-clause-opposite c = λ e.
    let near = c.side_way.ensures.near in
    let from = near.low in
    let to = near.high in
    let a = c.requires.least in
    let b = c.requires.order in
    let d = c.requires.most in
    let way = to_z w64 (of_z w64 (pos 0 -ℤ to_z w64 (of_z w64 c.side_way.result))) in
    let is : way ≡ neg_ℤ c.side_way.result = omega (arith, ints, from, to) in
    let l = backwards-is (c.args.low +ℤ way) in
    let h = backwards-is (c.args.high +ℤ way) in
    in-place-at MAX_LEVEL _ _ _ _ (omega (arith, ints, a, b, d, is, h)) (omega (arith, ints, a, b, d, is, l)) c.side_way.ensures.place

pub returns-then-last-clause-near : goal.returns-then-last-clause-near
returns-then-last-clause-near c =
    let near = c.side_way.ensures.near in
    let from = near.low in
    let to = near.high in
    let a = c.requires.least in
    let b = c.requires.order in
    let d = c.requires.most in
    let l = backwards-is c.args.low in
    let h = backwards-is c.args.high in
    let place : IsInPlace MAX_LEVEL (opposite_coordinate c.args.high +ℤ c.side_way.result) (opposite_coordinate c.args.low +ℤ c.side_way.result) =
    in-place-at MAX_LEVEL _ _ _ _ (omega (arith, ints, a, b, d, h)) (omega (arith, ints, a, b, d, l)) c.side_way.ensures.place in
    let most = way-below _ _ c.side_way.result place (omega (arith, ints, a, b, d, h)) (omega (arith, ints, a, b, d, l)) in
    record { low = omega (arith, ints, from, to, most); high = omega (arith, ints, from, to, most) }
