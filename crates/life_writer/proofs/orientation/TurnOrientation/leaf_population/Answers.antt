use Rattle.std.proofs.Common.{sym, ◌∙◌}
use Rattle.life_quad.proofs.TurningLemmas.{depth-turned, population-image}
use Rattle.life_writer.proofs.orientation.TurnOrientation.leaf_population.Goals as goal

pub leaf_population-requires-clause-level : goal.leaf_population-requires-clause-level
leaf_population-requires-clause-level g c =
    c.requires.level ∙ depth-turned c.args.self.now (g.S.Squares.content c.args.squares.now c.args.id) (g.met.S.Squares.full _ _ c.requires.known)

pub returns : goal.returns
returns g c = c.leaf_population.ensures ∙ sym (population-image c.args.self.now (g.S.Squares.content c.args.squares.now c.args.id))
