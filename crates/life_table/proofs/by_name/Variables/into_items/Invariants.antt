use Rattle.std.proofs.Common.{◌≡◌, ◌++◌, map}
use Rattle.life_table.specs.ByName.{var_of}
use Rattle.life_table.proofs.by_name.Variables.into_items.Given as goal

abbrev pub invariant-loop-name : goal.invariant-loop-name
invariant-loop-name l = l.vars ++ map var_of l.name-iterator ≡ l.fn.self
