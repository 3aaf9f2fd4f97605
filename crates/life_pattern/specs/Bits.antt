-- A square of level 2 in a word.
use Rattle.std.specs.Prelude.{ℕ, ◌/◌, ◌%◌, ◌^◌}
use Rattle.life_base.specs.Tree.{Tree}
use Rattle.life_quad.specs.Store.{four}

-- the square of level 2 of sixteen bits of a word, of which this one is the lowest
abbrev pub square_of_bits : ℕ → ℕ → Tree
square_of_bits word lowest = four (word / 2 ^ lowest % 2 ^ 16)
