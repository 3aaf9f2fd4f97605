use Rattle.std.proofs.Common.{◌+◌, ◌^◌, refl}
use Rattle.life_quad.proofs.KeepingLemmas.{keeps-then}
use Rattle.life_pieces.specs.Pieces.{step_ahead, step_back}
use Rattle.life_pieces.proofs.PieceLemmas.{IsAt-kept, IsPiece-kept}
use Rattle.life_leap.proofs.RootSteps.{ends-kept, west-of_ends, middle-of_ends, east-of_ends}
use Rattle.life_leap.proofs.leap.three_with_ends.Goals as goal

pub returns-clause-pieces : goal.returns-clause-pieces
returns-clause-pieces g c cells x y hn hs =
    let C = g.S.Squares.content in
    let k = c.args.level in
    let b = c.args.blank in
    let n = c.args.north.now in
    let s = c.args.south.now in
    let side = 2 ^ k in
    let k1 = c.in_ok-first.ensures.keeps in
    let k2 = c.in_ok-second.ensures.keeps in
    let k3 = c.in_ok-third.ensures.keeps in
    let k12 = keeps-then k1 k2 in
    let blank = c.requires.blank in
    let kn = c.requires.known_north in
    let ks = c.requires.known_south in
    let v = step_ahead y side in
    let first = west-of_ends (C c.args.squares.now) cells k x y b n s hn hs (C c.join.new.self c.in_ok-first.first) blank.level c.in_ok-first.ensures.square in
    let second = middle-of_ends (C c.join.new.self) cells k x y b n s (ends-kept k1 cells side x y b n blank kn hn)
    (ends-kept k1 cells side x v b s blank ks hs)
    (C c.join-2.new.self c.in_ok-second.second) (IsAt-kept k1 kn.second).level c.in_ok-second.ensures.square in
    let third = east-of_ends (C c.join-2.new.self) cells k x y b n s (ends-kept k12 cells side x y b n blank kn hn)
    (ends-kept k12 cells side x v b s blank ks hs)
    (C c.join-3.new.self c.in_ok-third.third) (IsAt-kept k12 kn.fourth).level c.in_ok-third.ensures.square in
    let west = step_back x side in
    let here = step_ahead west (2 ^ (k + 1)) in
    record {
      first = IsPiece-kept (keeps-then k2 k3) cells west y (record { known = c.in_ok-first.ensures.known; level = refl }) first;
      second = IsPiece-kept k3 cells here y (record { known = c.in_ok-second.ensures.known; level = refl }) second;
      third = third;
    }
