-- When a rule table in the words of the format is the layer's.
use Rattle.std.specs.Prelude.{◌≡◌, ℕ, List, map, slice_get, false, ◌==◌, Some}
use Rattle.std.specs.List.{list_any}
use Rattle.std.specs.Option.{option_map_or}
use Rattle.claims.specs.Table.{Entry, fixed, variable, Variable, Transition, Table, claimed_states_of, ClaimedAnswer, becomes, ambiguous}
use Rattle.life_table.specs.Grammar.{symmetry_word}
use Rattle.life_table.specs.Meaning.{has_state}
use Rattle.life_table.specs.Meaning.{Answer as LayerAnswer, Becomes, Ambiguous}
use Rattle.life_table.specs.Valid.{neighbour_count}
use Rattle.life_table.specs.declared.table.Var.{Var}
use Rattle.life_table.specs.declared.table.Entry.{Entry as LayerEntry}
use Rattle.life_table.specs.declared.table.Entry.TheVariants as entries
use Rattle.life_table.specs.declared.table.Transition.{Transition as LayerTransition}
use Rattle.life_table.specs.declared.table.Table.{Table as LayerTable}

-- an entry, a transition and an answer of the layer
abbrev pub entry_in : LayerEntry → Entry
entry_in (entries.Fixed s) = fixed s
entry_in (entries.Var i) = variable i

abbrev pub transition_in : LayerTransition → Transition
transition_in line = record { line = line.line; inputs = map entry_in line.inputs; output = entry_in line.output }

abbrev pub answer_in : LayerAnswer → ClaimedAnswer
answer_in (Becomes s) = becomes s
answer_in (Ambiguous number) = ambiguous number

-- the variables have the names and the states of the layer's, which keeps the states as a set
pub record AreVariables (vars : List Var) (variables : List Variable) : Type 0 where
  pub names : map (λ (v : Variable). v.name) variables ≡ map (λ (var : Var). var.name) vars
  pub states : (i s : ℕ) → list_any (λ t. t == s) (claimed_states_of variables (variable i))
      ≡ option_map_or (λ (var : Var). has_state var s) (slice_get vars i) false

-- the table is that of the layer
pub record IsTable (layer : LayerTable) (table : Table) : Type 0 where
  pub name : table.name ≡ layer.name
  pub n_states : table.n_states ≡ Some layer.n_states
  pub neighbours : table.neighbours ≡ Some (neighbour_count layer.neighborhood)
  pub symmetry : table.symmetry ≡ Some (symmetry_word layer.symmetry)
  pub variables : AreVariables layer.vars table.variables
  pub transitions : table.transitions ≡ map transition_in layer.lines
