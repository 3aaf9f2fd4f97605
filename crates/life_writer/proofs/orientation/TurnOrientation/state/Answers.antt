use Rattle.life_writer.proofs.SeenFacts.{state-turned}
use Rattle.life_writer.proofs.orientation.TurnOrientation.state.Goals as goal

pub returns : goal.returns
returns g c =
    state-turned c.args.self.now (g.S.Squares.content c.args.squares.now c.args.id) (g.met.S.Squares.full _ _ c.requires) c.state.result c.state.ensures
