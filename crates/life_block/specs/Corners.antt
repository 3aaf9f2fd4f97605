-- Four squares in a corner of sixteen, or in the middle of them.
use Rattle.life_quad.specs.declared.id.Id.{Id}
use Rattle.life_quad.specs.declared.moves.Quarters.{Quarters}
use Rattle.life_block.specs.declared.corner.Corner.{Corner}
use Rattle.life_block.specs.declared.corner.Corner.TheVariants.{NorthWest, NorthEast, SouthWest, SouthEast}
use Rattle.life_pieces.specs.Pieces.{Sixteen, four_of}

-- four quarters in one corner of sixteen squares that are another square everywhere else
abbrev pub at_corner : Corner → Quarters → Id → Sixteen
at_corner NorthWest q b = four_of (four_of q.nw q.ne b b) (four_of q.sw q.se b b) (four_of b b b b) (four_of b b b b)
at_corner NorthEast q b = four_of (four_of b b q.nw q.ne) (four_of b b q.sw q.se) (four_of b b b b) (four_of b b b b)
at_corner SouthWest q b = four_of (four_of b b b b) (four_of b b b b) (four_of q.nw q.ne b b) (four_of q.sw q.se b b)
at_corner SouthEast q b = four_of (four_of b b b b) (four_of b b b b) (four_of b b q.nw q.ne) (four_of b b q.sw q.se)

-- four quarters in the middle of sixteen squares that are another square everywhere else
abbrev pub in_middle : Quarters → Id → Sixteen
in_middle q b = four_of (four_of b b b b) (four_of b q.nw q.ne b) (four_of b q.sw q.se b) (four_of b b b b)
