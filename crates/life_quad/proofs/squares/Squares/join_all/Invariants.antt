use Rattle.life_quad.proofs.JoinAllLemmas.{AreJoined}
use Rattle.life_quad.proofs.squares.Squares.join_all.Given as goal

-- the squares so far are joined
abbrev pub invariant-loop-i : goal.invariant-loop-i
invariant-loop-i g l =
    AreJoined g.Self.Squares.knows g.Self.Squares.content g.Self.Squares.stored g.Self.Squares.most (λ id. Unit {0}) l.fn.self l.self l.quarters l.squares l.i
