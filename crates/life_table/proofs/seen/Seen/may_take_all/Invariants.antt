use Rattle.std.proofs.Common.{◌≡◌, ℕ, ◌<◌, get_or}
use Rattle.std.specs.Int.{bit_at}
use Rattle.life_table.specs.Seen.{places}
use Rattle.life_table.specs.declared.table.Entry.TheVariants as entries
use Rattle.life_table.proofs.seen.Seen.may_take_all.Given as goal

-- the places of the entries so far are taken
abbrev pub invariant-loop-entry : goal.invariant-loop-entry
invariant-loop-entry l = (j k : ℕ) → j < l.entry-index → bit_at (places l.self (get_or l.inputs j (entries.Fixed 0))) k ≡ 1 → bit_at l.consumed k ≡ 1
