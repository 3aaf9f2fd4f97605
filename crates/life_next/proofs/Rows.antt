-- Worked examples, computed.
use Rattle.std.proofs.Common.{◌≡◌, [], ◌∷◌, refl}
use Rattle.life_next.specs.Counts.{NineWords, neighbours_in, sides_in, count_at}

-- words of one cell, of which the north-eastern and the western one are alive
abbrev two_alive : NineWords
two_alive =
    record {
      before = record { before = 0; here = 0; after = 1 };
      here = record { before = 1; here = 0; after = 0 };
      after = record { before = 0; here = 0; after = 0 };
    }

around : neighbours_in two_alive 0 ≡ 0 ∷ 1 ∷ 0 ∷ 0 ∷ 0 ∷ 0 ∷ 1 ∷ 0 ∷ []
around = refl

sides : sides_in two_alive 0 ≡ 0 ∷ 0 ∷ 0 ∷ 1 ∷ []
sides = refl

-- 3 in the first column, 4 in the second
three : count_at (record { ones = 1; twos = 1; fours = 2; eights = 0 }) 0 ≡ 3
three = refl

four : count_at (record { ones = 1; twos = 1; fours = 2; eights = 0 }) 1 ≡ 4
four = refl
