use Rattle.std.proofs.Common.{◌≡◌, ◌≤◌, ◌++◌, take}
use Rattle.life_quad.specs.Bands.{pieces, part_cells}
use Rattle.life_quad.proofs.listing.append_part.Given as goal

abbrev pub invariant-loop-placed : goal.invariant-loop-placed
invariant-loop-placed g l = record {
  cells : l.list.items ++ take l.count l.gathered
      ≡ l.initial.list.items ++ part_cells l.south l.low l.y (pieces (g.S.Squares.content l.squares) (take l.placed-index l.band));
  count : l.count ≤ 16;
}
