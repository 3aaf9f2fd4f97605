use Rattle.std.proofs.Common.{◌≡◌, ◌++◌, take, flat_map, map}
use Rattle.life_mc.specs.Writing.{node_text}
use Rattle.life_forms.specs.Corners.{leaf_line}
use Rattle.life_forms.proofs.corners.append_leaves.Given as goal

abbrev pub invariant-loop-leaf : goal.invariant-loop-leaf
invariant-loop-leaf l = l.text.items ≡ l.fn.text.items ++ flat_map node_text (map leaf_line (take l.leaf-index l.leaves))
