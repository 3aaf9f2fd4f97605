use Rattle.std.proofs.Common.{rules}
use Rattle.life_quad.proofs.MoveLemmas.{quad_of_parts, levels_of_parts}
use Rattle.life_quad.proofs.moves.divide.Goals as goal

pub returns-clause-square : goal.returns-clause-square
returns-clause-square g c = quad_of_parts (g.S.Squares.content c.args.squares.now) _ c.in-Some.parts _ c.requires.deep c.in-Some.ensures.1

pub returns-clause-quarters : goal.returns-clause-quarters
returns-clause-quarters g c =
    let levels = levels_of_parts _ _ _ _ _ (g.met.S.Squares.full c.args.squares.now c.args.id c.requires.known) (returns-clause-square g c) in
    record {
      nw = search rules;
      ne = search rules;
      sw = search rules;
      se = search rules;
      nw_level = levels.0;
      ne_level = levels.1;
      sw_level = levels.2;
      se_level = levels.3;
    }
