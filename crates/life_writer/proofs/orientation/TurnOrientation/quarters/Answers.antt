use Rattle.std.proofs.Common.{ℕ, ◌≤◌, subst}
use Rattle.life_quad.proofs.TurningLemmas.{depth-turned}
use Rattle.life_writer.proofs.orientation.TurnOrientation.quarters.Goals as goal

pub divide_turned-requires-clause-deep : goal.divide_turned-requires-clause-deep
divide_turned-requires-clause-deep g c =
    subst (λ (n : ℕ). 1 ≤ n)
    (depth-turned c.args.self.now (g.S.Squares.content c.args.squares.now c.args.id) (g.met.S.Squares.full _ _ c.requires.known)) c.requires.deep
