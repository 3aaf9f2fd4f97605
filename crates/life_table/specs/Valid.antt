-- What holds of the parts of every rule table.
use Rattle.std.specs.Prelude.{◌≡◌, ◌≢◌, ℕ, ◌+◌, ◌<◌, ◌≤◌, Bool, true, false, List, [], ◌∷◌, slice_get, length, All, IsTrue, Some, nat_eq, ◌==◌, if◌then◌else◌}
use Rattle.std.specs.List.{list_any, list_all}
use Rattle.std.specs.Option.{option_map_or}
use Rattle.life_table.specs.Meaning.{HasState, has_state}
use Rattle.life_table.specs.declared.table.Neighborhood.{Neighborhood}
use Rattle.life_table.specs.declared.table.Neighborhood.TheVariants.{VonNeumann, Moore}
use Rattle.life_table.specs.declared.table.Symmetry.{Symmetry}
use Rattle.life_table.specs.declared.table.Symmetry.TheVariants.{Rotate8, Rotate8Reflect}
use Rattle.life_table.specs.declared.table.Var.{Var}
use Rattle.life_table.specs.declared.table.Entry.{Entry}
use Rattle.life_table.specs.declared.table.Entry.TheVariants as entries
use Rattle.life_table.specs.declared.table.Transition.{Transition}

-- how many neighbours a cell has
abbrev pub neighbour_count : Neighborhood → ℕ
neighbour_count VonNeumann = 4
neighbour_count Moore = 8

-- the turns by an eighth are for eight neighbours alone
abbrev pub is_listed : Neighborhood → Symmetry → Bool
is_listed VonNeumann Rotate8 = false
is_listed VonNeumann Rotate8Reflect = false
is_listed _ _ = true

-- a fixed state is below the number of states, and a variable is one that there is
pub record IsEntry (n_states : ℕ) (vars : List Var) (entry : Entry) : Type 0 where
  pub fixed : (s : ℕ) → entry ≡ entries.Fixed s → s < n_states
  pub variable : (i : ℕ) → entry ≡ entries.Var i → i < length vars

-- an entry is the variable i
abbrev pub is_variable : ℕ → Entry → Bool
is_variable i (entries.Fixed s) = false
is_variable i (entries.Var j) = nat_eq i j

-- a transition has a centre, as many neighbours as the neighbourhood has, and an output that is bound
pub record IsTransition (n_states neighbours : ℕ) (vars : List Var) (line : Transition) : Type 0 where
  -- the centre, and each neighbour
  pub count : length line.inputs ≡ neighbours + 1
  pub inputs : All (IsEntry n_states vars) line.inputs
  pub output : IsEntry n_states vars line.output
  -- an output variable is an input
  pub bound : (i : ℕ) → line.output ≡ entries.Var i → IsTrue (list_any (is_variable i) line.inputs)

-- a variable has states, and each is below the number of states
pub record IsVariable (n_states : ℕ) (var : Var) : Type 0 where
  pub some : ¬ ((s : ℕ) → ¬ (HasState var s))
  pub below : (s : ℕ) → HasState var s → s < n_states

-- an entry may be 0
abbrev pub allows_zero : List Var → Entry → Bool
allows_zero vars (entries.Fixed s) = s == 0
allows_zero vars (entries.Var i) = option_map_or (λ var. has_state var 0) (slice_get vars i) false

-- the line fits the neighbourhood in which each cell is 0
abbrev pub fits_zero : List Var → Transition → Bool
fits_zero vars line = list_all (allows_zero vars) line.inputs

-- an output that is no fixed state but 0
abbrev pub is_quiet_output : Entry → Bool
is_quiet_output (entries.Fixed s) = s == 0
is_quiet_output (entries.Var i) = true

-- the first line that fits the all-zero neighbourhood has no fixed output but 0
abbrev pub is_quiet : List Var → List Transition → Bool
is_quiet vars [] = true
is_quiet vars (line ∷ lines) = if fits_zero vars line then is_quiet_output line.output else is_quiet vars lines

-- the parts of a rule table agree
pub record IsSoundTable (n_states : ℕ) (neighborhood : Neighborhood) (symmetry : Symmetry) (vars : List Var) (lines : List Transition) : Type 0 where
  pub least : 2 ≤ n_states
  pub most : n_states ≤ 256
  pub listed : IsTrue (is_listed neighborhood symmetry)
  pub names : (i j : ℕ) (x y : Var) → i < j → slice_get vars i ≡ Some x → slice_get vars j ≡ Some y → x.name ≢ y.name
  pub variables : All (IsVariable n_states) vars
  pub transitions : All (IsTransition n_states (neighbour_count neighborhood) vars) lines
  pub quiet : IsTrue (is_quiet vars lines)
