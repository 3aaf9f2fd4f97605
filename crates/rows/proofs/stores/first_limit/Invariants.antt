use Rattle.std.proofs.Common.{◌≤◌, ◌^◌}
use Rattle.rows.proofs.stores.first_limit.Given as goal

-- the first limit that suffices is one that a store may have
abbrev pub invariant-loop-limit : goal.invariant-loop-limit
invariant-loop-limit l = l.first ≤ 2 ^ 31
