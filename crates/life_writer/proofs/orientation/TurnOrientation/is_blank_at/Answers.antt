use Rattle.std.proofs.Common.{sym, ◌∙◌}
use Rattle.life_quad.proofs.TurningLemmas.{blank-image, depth-turned}
use Rattle.life_writer.proofs.orientation.TurnOrientation.is_blank_at.Goals as goal

pub is_blank_at-requires-clause-level : goal.is_blank_at-requires-clause-level
is_blank_at-requires-clause-level g c =
    c.requires.level ∙ depth-turned c.args.self.now (g.S.Squares.content c.args.squares.now c.args.id) (g.met.S.Squares.full _ _ c.requires.known)

pub returns : goal.returns
returns g c = c.is_blank_at.ensures ∙ sym (blank-image c.args.self.now (g.S.Squares.content c.args.squares.now c.args.id))
