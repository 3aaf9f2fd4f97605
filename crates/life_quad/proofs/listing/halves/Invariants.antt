use Rattle.std.proofs.Common.{◌≡◌, ◌-◌, ◌^◌, take}
use Rattle.std.specs.List.{All}
use Rattle.life_quad.specs.Bands.{IsPlaced, pieces, upper, lower}
use Rattle.life_quad.proofs.listing.halves.Given as goal

abbrev pub invariant-loop-placed : goal.invariant-loop-placed
invariant-loop-placed g l =
    record {
      north : All (IsPlaced (g.S.Squares.knows l.squares) (g.S.Squares.content l.squares) (l.level - 1)) l.north.items;
      south : All (IsPlaced (g.S.Squares.knows l.squares) (g.S.Squares.content l.squares) (l.level - 1)) l.south.items;
      upper : pieces (g.S.Squares.content l.squares) l.north.items ≡ upper (2 ^ (l.level - 1))
          (pieces (g.S.Squares.content l.squares) (take l.placed-index l.band));
      lower : pieces (g.S.Squares.content l.squares) l.south.items ≡ lower (2 ^ (l.level - 1))
          (pieces (g.S.Squares.content l.squares) (take l.placed-index l.band));
    }
