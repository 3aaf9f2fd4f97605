use Rattle.std.proofs.Common.{sym, ◌∙◌}
use Rattle.life_quad.proofs.TurningLemmas.{depth-turned}
use Rattle.life_writer.proofs.orientation.TurnOrientation.level.Goals as goal

pub returns : goal.returns
returns g c =
    c.level.ensures.level ∙ sym (depth-turned c.args.self.now (g.S.Squares.content c.args.squares.now c.args.id) (g.met.S.Squares.full _ _ c.requires))
