use Rattle.std.proofs.Common.{◌≡◌, ◌+◌, ◌^◌, sym, ◌∙◌, arith}
use Rattle.std.proofs.lemmas.Int.{ints}
use Rattle.life_base.proofs.Squares.{quad_nw, quad_ne, quad_sw, quad_se}
use Rattle.life_base.specs.Tree.{depth}
use Rattle.life_pieces.specs.Pieces.{step_ahead}
use Rattle.life_pieces.proofs.PieceLemmas.{pieces-of, twice}
use Rattle.life_leap.proofs.GridLemmas.{row-moved}
use Rattle.life_leap.specs.Grid.{IsTwoAt}
use Rattle.life_leap.proofs.grid.sixteenths.Goals as goal

pub returns-clause-pieces : goal.returns-clause-pieces
returns-clause-pieces g c cells x y p =
    let content = g.S.Squares.content c.args.squares.now in
    let k = c.args.level in
    let s = 2 ^ k in
    let q = c.divide.ensures.quarters in
    let at = c.requires.level in
    let low = q.nw_level in
    let level : depth (content c.divide.result.nw) ≡ k + 1 = omega (arith, at, low) in
    let parts = pieces-of cells x y (k + 1) level c.divide.ensures.square p in
    let north : IsTwoAt content cells (2 ^ (k + 1)) x y c.divide.result.nw c.divide.result.ne = record { west = parts.0; east = parts.1 } in
    let south : IsTwoAt content cells (2 ^ (k + 1)) x (step_ahead y (2 ^
    (k + 1))) c.divide.result.sw c.divide.result.se = record { west = parts.2; east = parts.3 } in
    let two = twice k in
    let e : step_ahead y (2 ^ (k + 1)) ≡ step_ahead (step_ahead y s) s = omega (arith, ints, two) in
    let f : step_ahead (step_ahead y (2 ^ (k + 1))) s ≡ step_ahead (step_ahead (step_ahead y s) s) s = omega (arith, ints, two) in
    record {
      first = c.halves_of_two.ensures.north cells x y north;
      second = c.halves_of_two.ensures.south cells x y north;
      third = row-moved content cells s x _ _ _ e (c.halves_of_two-2.ensures.north cells x _ south);
      fourth = row-moved content cells s x _ _ _ f (c.halves_of_two-2.ensures.south cells x _ south);
    }

pub returns-clause-corners : goal.returns-clause-corners
returns-clause-corners g c q is =
    let same = sym c.divide.ensures.square ∙ is in
    let north = c.halves_of_two.ensures in
    let south = c.halves_of_two-2.ensures in
    record {
      nw = sym (quad_nw same) ∙ north.west;
      ne = sym (quad_ne same) ∙ north.east;
      sw = sym (quad_sw same) ∙ south.west;
      se = sym (quad_se same) ∙ south.east;
    }
