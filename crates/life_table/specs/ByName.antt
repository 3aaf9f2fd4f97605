-- How a reader keeps the variables of a rule table: the states of each, by its name.
use Rattle.std.specs.Prelude.{ℕ, List}
use Rattle.std.specs.Global.{Vec}
use Rattle.life_table.specs.declared.table.Var.{Var}

-- the variable with a name and its states
abbrev pub var_of : Vec ℕ × List ℕ → Var
var_of entry = record { name = entry.0.items; states = entry.1 }
