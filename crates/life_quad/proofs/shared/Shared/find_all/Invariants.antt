use Rattle.life_quad.specs.Store.{AreFound}
use Rattle.life_quad.proofs.shared.Shared.find_all.Given as goal

-- the squares so far are found
abbrev pub invariant-loop-i : goal.invariant-loop-i
invariant-loop-i l = AreFound l.self l.quarters l.squares l.i
