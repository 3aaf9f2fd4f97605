use Rattle.life_mc.proofs.node.read_node.Goals as goal

pub returns-then-is_leaf_line : goal.returns-then-is_leaf_line
returns-then-is_leaf_line c = c.read_leaf_line.ensures c.args.rule.now c.args.levels.now
