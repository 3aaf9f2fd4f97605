use Rattle.std.proofs.Common.{◌≡◌, ◌+◌, ◌^◌, sym, subst, arith}
use Rattle.std.proofs.lemmas.Int.{ints}
use Rattle.life_pieces.specs.Pieces.{AreSixteen, step_back, step_ahead}
use Rattle.life_pieces.proofs.PieceLemmas.{twice, AreFour-moved}
use Rattle.life_pieces.proofs.grid.Nine.quarters.Goals as goal

pub returns-clause-pieces : goal.returns-clause-pieces
returns-clause-pieces g c cells x y h =
    let content = g.S.Squares.content c.args.squares.now in
    let side = 2 ^ c.args.level in
    let double : 2 ^ (c.args.level + 1) ≡ side + side = twice c.args.level in
    let north : step_ahead (step_back y (2 ^ (c.args.level + 1))) side ≡ step_back y side = omega (arith, ints, double) in
    let south : step_ahead y (2 ^ (c.args.level + 1)) ≡ step_ahead (step_ahead y side) side = omega (arith, ints, double) in
    subst (AreSixteen content cells side x y) (sym c.of.ensures) (record {
      first = AreFour-moved content cells north (c.halves.ensures.south cells x _ h.before);
      second = c.halves-2.ensures.north cells x y h.here;
      third = c.halves-2.ensures.south cells x y h.here;
      fourth = AreFour-moved content cells south (c.halves-3.ensures.north cells x _ h.after);
    })
