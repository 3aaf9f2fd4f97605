use Rattle.std.proofs.Common.{◌≡◌, ℕ, ◌<◌, ◌≤◌, ◌∷◌, [], take, length, slice_index, true, count_by}
use Rattle.life_table.specs.Index.{is_among}
use Rattle.life_table.proofs.some_order.Counts.of.Given as goal

-- the states of the neighbours so far, and how many of all have each
abbrev pub invariant-loop-i : goal.invariant-loop-i
invariant-loop-i l = record {
  few : l.count ≤ l.i;
  each : (s : ℕ) → is_among (take l.i l.others) s ≡ true → is_among (take l.count l.states) s ≡ true;
  counted : (j : ℕ) → j < l.count → slice_index l.times j ≡ count_by (is_among (slice_index l.states j ∷ [])) l.others;
  size : length l.states ≡ 8;
  places : length l.times ≡ 8;
}
