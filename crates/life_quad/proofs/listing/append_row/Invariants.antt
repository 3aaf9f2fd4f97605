use Rattle.std.proofs.Common.{◌≡◌, ◌++◌, take}
use Rattle.life_quad.specs.Bands.{pieces, row_cells}
use Rattle.life_quad.proofs.listing.append_row.Given as goal

abbrev pub invariant-loop-placed : goal.invariant-loop-placed
invariant-loop-placed g l = l.list.items ≡ l.initial.list.items ++ row_cells l.row (pieces (g.S.Squares.content l.squares) (take l.placed-index l.band))
