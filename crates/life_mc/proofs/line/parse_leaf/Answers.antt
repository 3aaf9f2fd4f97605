use Rattle.std.proofs.Common.{rules}
use Rattle.life_mc.proofs.Nodes.{match_map}
use Rattle.life_mc.proofs.line.parse_leaf.Goals as goal

pub returns : goal.returns
returns c = λ rule levels. match_map c.read_leaf_line.result (c.read_leaf_line.ensures rule levels) (λ square p. search rules) (λ kind p. search rules)
