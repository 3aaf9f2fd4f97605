-- The 64 cells of a word amid those of their neighbours, and how many of these are alive.
use Rattle.std.specs.Prelude.{ℕ, ◌+◌, ◌*◌, List, [], ◌∷◌}
use Rattle.std.specs.Int.{bit_at}
use Rattle.life_base.specs.declared.rule.Near.{Near}
use Rattle.life_base.specs.declared.rule.Near.TheVariants.{Moore, VonNeumann}
use Rattle.life_next.specs.declared.counts.BitCounts.{BitCounts}
use Rattle.life_pieces.specs.declared.grid.Three.{Three}

-- a word of cells amid those of their eight neighbours: bit i of each is the neighbour of bit i of the one in the middle
abbrev pub NineWords : Type 0
NineWords = Three (Three ℕ)

-- the states of the neighbours of place i, from north around
abbrev pub neighbours_in : NineWords → ℕ → List ℕ
neighbours_in w i =
    bit_at w.before.here i ∷ bit_at w.before.after i ∷ bit_at w.here.after i ∷ bit_at w.after.after i ∷ bit_at w.after.here i ∷ bit_at w.after.before i
    ∷ bit_at w.here.before i ∷ bit_at w.before.before i ∷ []

-- of the four of them that share a side with the place, from north around
abbrev pub sides_in : NineWords → ℕ → List ℕ
sides_in w i = bit_at w.before.here i ∷ bit_at w.here.after i ∷ bit_at w.after.here i ∷ bit_at w.here.before i ∷ []

-- of the neighbours that count
abbrev pub counted_in : Near → NineWords → ℕ → List ℕ
counted_in Moore = neighbours_in
counted_in VonNeumann = sides_in

-- the number that the four words have in column i
abbrev pub count_at : BitCounts → ℕ → ℕ
count_at c i = bit_at c.ones i + 2 * bit_at c.twos i + 4 * bit_at c.fours i + 8 * bit_at c.eights i
