-- Worked examples.
use Rattle.std.proofs.Common.{◌≡◌, refl}
use Rattle.life_lanes.specs.Places.{place_in, place_in_leaf, exchanged}

second_row : place_in 1 0 ≡ 2
second_row = refl

third_column : place_in 0 2 ≡ 4
third_column = refl

last_cell : place_in 3 3 ≡ 15
last_cell = refl

-- the first cell of the north-eastern quarter, and the last one of the north-western
fifth_column : place_in_leaf 0 4 ≡ 16
fifth_column = refl

fourth_row : place_in_leaf 3 3 ≡ 15
fourth_row = refl

-- bit 0 exchanged with bit 2
from_above : exchanged 1 2 0 ≡ 2
from_above = refl

from_below : exchanged 1 2 2 ≡ 0
from_below = refl

between : exchanged 1 2 1 ≡ 1
between = refl
