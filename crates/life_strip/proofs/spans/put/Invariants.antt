use Rattle.std.proofs.Common.{◌≡◌, ◌++◌, drop}
use Rattle.life_strip.specs.Strip.{with_squares}
use Rattle.life_strip.proofs.spans.put.Given as goal

-- with those that are left there are all
abbrev pub invariant-loop-i : goal.invariant-loop-i
invariant-loop-i l =
    l.spans.items ++ with_squares (drop l.i l.pieces) (drop l.i l.squares) ≡ l.fn.spans.items ++ with_squares l.pieces l.squares
