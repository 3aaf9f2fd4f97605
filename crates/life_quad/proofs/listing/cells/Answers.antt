use Rattle.std.proofs.Common.{◌≡◌, ◌-◌, ◌^◌, pos, neg_ℤ, length, arith, sym, ◌∙◌, ap, subst, Err, to_z, of_z, w64}
use Rattle.std.proofs.lemmas.Int.{ints}
use Rattle.life_quad.specs.Cells.{IsCellList}
use Rattle.life_quad.proofs.CellListLemmas.{square_cells, square_length, IsCellList-square, whole_list, whole_in_band, more_in_square}
use Rattle.life_quad.proofs.listing.cells.Given.{Over}
use Rattle.life_quad.proofs.listing.cells.Goals as goal
use Rattle.life_base.proofs.Results.{error_is}

pub keep-requires-clause-west : goal.keep-requires-clause-west
keep-requires-clause-west g c = omega (arith, ints, c.least_coordinate-west.ensures.west)

pub keep-requires-clause-east : goal.keep-requires-clause-east
keep-requires-clause-east g c = omega (arith, ints, c.least_coordinate-west.ensures.east)

pub append_band-requires-clause-north : goal.append_band-requires-clause-north
append_band-requires-clause-north g c = omega (arith, ints, c.least_coordinate-west.ensures.west)

pub append_band-requires-clause-south : goal.append_band-requires-clause-south
append_band-requires-clause-south g c = omega (arith, ints, c.least_coordinate-west.ensures.east)

pub append_band-requires-clause-band : goal.append_band-requires-clause-band
append_band-requires-clause-band g c =
    let half : to_z w64 (of_z w64 c.least_coordinate-west.result) ≡ neg_ℤ (pos (2 ^ (c.level-level.result - 1))) =
    omega (arith, ints, c.least_coordinate-west.ensures.half) in
    whole_in_band _ (g.met.S.Squares.full _ _ c.requires.known) _ _ (g.S.Squares.content c.args.squares.now) _ _ c.level-level.ensures.level half
    c.new-band.ensures.items c.in_ok-keep.ensures.pieces

pub returns-in_err-append_band : goal.returns-in_err-append_band
returns-in_err-append_band g c =
    let p = error_is c.from_residual-in_err-append_band.result c.from_residual-in_err-append_band.ensures.1 in
    let half : to_z w64 (of_z w64 c.least_coordinate-west.result) ≡ neg_ℤ (pos (2 ^ (c.level-level.result - 1))) =
    omega (arith, ints, c.least_coordinate-west.ensures.half) in
    let many = more_in_square _ (g.met.S.Squares.full _ _ c.requires.known) _ _ (g.S.Squares.content c.args.squares.now) _ _ c.level-level.ensures.level half
    c.new-band.ensures.items c.in_ok-keep.ensures.pieces {T = Unit {0}} (Err _) _ c.args.limit c.new-list.ensures.items c.in_err-append_band.ensures.many in
    record { cells = rw p tt; number = rw p tt; few = rw p tt; many = rw p many; refusals = rw p c.in_err-append_band.ensures.refusals }

list_is : (g : Over) (c : goal.In_ok-append_band g) → c.append_band.new.list.items ≡ square_cells (g.S.Squares.content c.args.squares.now c.args.id)
list_is g c =
    let half : to_z w64 (of_z w64 c.least_coordinate-west.result) ≡ neg_ℤ (pos (2 ^ (c.level-level.result - 1))) =
    omega (arith, ints, c.least_coordinate-west.ensures.half) in
    whole_list _ (g.met.S.Squares.full _ _ c.requires.known) _ _ (g.S.Squares.content c.args.squares.now) _ _ c.level-level.ensures.level half
    c.new-band.ensures.items c.in_ok-keep.ensures.pieces _ _ c.new-list.ensures.items c.in_ok-append_band.ensures.cells

pub returns-clause-cells : goal.returns-clause-cells
returns-clause-cells g c = subst (IsCellList _) (sym (list_is g c)) (IsCellList-square _ (g.met.S.Squares.full _ _ c.requires.known) c.requires.high)

pub returns-clause-number : goal.returns-clause-number
returns-clause-number g c = ap length (list_is g c) ∙ square_length _ (g.met.S.Squares.full _ _ c.requires.known)
