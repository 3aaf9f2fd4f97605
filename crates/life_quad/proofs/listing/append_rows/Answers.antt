use Rattle.std.proofs.Common.{arith}
use Rattle.std.proofs.lemmas.Int.{ints}
use Rattle.std.proofs.lemmas.Result.{on_ok_weaker}
use Rattle.life_quad.specs.Bands.{pieces}
use Rattle.life_quad.proofs.PartLemmas.{rows_are}
use Rattle.life_quad.proofs.listing.append_rows.Goals as goal

pub returns-clause-cells : goal.returns-clause-cells
returns-clause-cells g c =
    let north = c.requires.north in
    let south = c.requires.south in
    on_ok_weaker c.append_part-4.result
    (rows_are c.args.row _ _ _ _ (pieces (g.S.Squares.content c.args.squares.now) c.args.band.now) c.args.list.now.items c.append_part.new.list.items
    c.append_part-2.new.list.items c.append_part-3.new.list.items _ c.requires.band
    (omega (arith, ints, north, south)) (omega (arith, ints, north, south)) (omega (arith, ints, north, south)) (omega (arith, ints, north, south))
    c.in_ok-append_part.ensures.cells c.in_ok-append_part-2.ensures.cells c.in_ok-append_part-3.ensures.cells)
    c.append_part-4.ensures.cells
