use Rattle.std.proofs.Common.{◌≡◌, ◌-◌, ◌^◌}
use Rattle.life_quad.specs.Store.{Knows, IsShared, content, stored_squares}
use Rattle.life_quad.proofs.JoinAllLemmas.{AreJoined}
use Rattle.life_quad.proofs.shared.SharedSquaresImpl.join_all.Given as goal

-- the squares so far are joined, and of the others those that are stored as nodes
abbrev pub invariant-loop-i : goal.invariant-loop-i
invariant-loop-i l =
    AreJoined (λ s id. Knows s id × IsShared s) content stored_squares (λ s. s.limit) (λ id. id.0 ≡ 2 ^ 64 - 1) l.fn.self l.self l.quarters l.squares l.i
