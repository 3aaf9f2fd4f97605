use Rattle.std.proofs.Common.{◌≡◌, ℕ, ◌+◌, ◌-◌, ◌<◌, length, get_or, cond}
use Rattle.std.specs.Int.{bit_at}
use Rattle.life_table.specs.Seen.{places}
use Rattle.life_table.specs.declared.table.Entry.TheVariants as entries
use Rattle.life_table.proofs.fit.turns_that_may_fit.Given as goal

-- a turn stays where the inputs so far may be their neighbours
abbrev pub invariant-loop-i : goal.invariant-loop-i
invariant-loop-i l = (r : ℕ) → r < 8
    → ((j : ℕ) → j < l.i → bit_at (places l.seen (get_or l.inputs j (entries.Fixed 0))) (cond l.reflect (length l.inputs - j) j + r) ≡ 1) → bit_at l.fits r ≡ 1
