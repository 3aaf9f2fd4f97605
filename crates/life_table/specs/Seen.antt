-- Which neighbours an entry may be.
use Rattle.std.specs.Prelude.{◌≡◌, ℕ, ◌-◌, ◌%◌, ◌<◌, ◌^◌, List, length, slice_index, nat_lt, true, if◌then◌else◌}
use Rattle.std.specs.Int.{bit_at}
use Rattle.life_table.specs.Taking.{can_be_state}
use Rattle.life_table.specs.declared.table.Var.{Var}
use Rattle.life_table.specs.declared.table.Entry.{Entry}
use Rattle.life_table.specs.declared.table.Entry.TheVariants as entries
use Rattle.life_table.specs.declared.seen.Seen.{Seen}

-- the places that learn of an entry: all for a variable of which nothing is known
abbrev pub places : Seen → Entry → ℕ
places seen (entries.Fixed s) = slice_index seen.fixed s
places seen (entries.Var i) = if nat_lt i 64 then slice_index seen.listed i else 2 ^ 16 - 1

-- where an entry may be the neighbour at a place, going round, the place learns of it
abbrev pub IsSeen : List Var → List ℕ → Seen → Type 0
IsSeen vars others seen = (entry : Entry) (k : ℕ) → k < 16 → can_be_state vars entry (slice_index others (k % length others)) ≡ true
    → bit_at (places seen entry) k ≡ 1
