-- Neighbours that are still free, and variables that take them.
use Rattle.std.specs.Prelude.{◌≡◌, ℕ, ◌+◌, ◌/◌, ◌%◌, ◌<◌, ◌≤◌, ◌⊎◌, List, [], ◌∷◌, drop, slice_get, slice_index, length, Option, Some, None, IfSome, All, IsTrue, Bool, false, nat_eq, if◌then◌else◌}
use Rattle.std.specs.Int.{bit_at}
use Rattle.std.specs.List.{list_any, sum_by}
use Rattle.std.specs.Option.{option_map_or}
use Rattle.life_table.specs.Found.{Consistent}
use Rattle.life_table.specs.Meaning.{IsChoice, HasState, has_state}
use Rattle.life_table.specs.Valid.{is_variable}
use Rattle.life_table.specs.declared.table.Var.{Var}
use Rattle.life_table.specs.declared.table.Entry.{Entry}
use Rattle.life_table.specs.declared.table.Entry.TheVariants as entries
use Rattle.life_table.specs.declared.groups.Group.{Group}

-- n of the state s, seen from the state t: n where it is t, else 0
abbrev pub of_state : ℕ → ℕ → ℕ → ℕ
of_state t s n = if nat_eq t s then n else 0

-- how many of the free places have the state t, where place k is free if bit k is set
abbrev pub free_count : ℕ → ℕ → List ℕ → ℕ
free_count t free [] = 0
free_count t free (s ∷ states) = of_state t s (free % 2) + free_count t (free / 2) states

-- an entry may be the state s
abbrev pub can_be_state : List Var → Entry → ℕ → Bool
can_be_state vars (entries.Fixed fixed) s = nat_eq fixed s
can_be_state vars (entries.Var i) s = option_map_or (λ var. has_state var s) (slice_get vars i) false

-- the state of an input that is settled where the centre's input has the centre's state
abbrev pub settled_state : Entry → ℕ → Entry → Option ℕ
settled_state first centre (entries.Fixed s) = Some s
settled_state first centre (entries.Var i) = if is_variable i first then Some centre else None

-- how many of the inputs are settled to the state t
abbrev pub settled_count : Entry → ℕ → ℕ → List Entry → ℕ
settled_count first centre t inputs = sum_by (λ entry. option_map_or (λ s. of_state t s 1) (settled_state first centre entry) 0) inputs

-- 1 for an input that the centre doesn't settle and a choice makes the state t, else 0
abbrev pub open_state : Entry → (ℕ → ℕ) → ℕ → Entry → ℕ
open_state first choice t (entries.Fixed s) = 0
open_state first choice t (entries.Var i) = if is_variable i first then 0 else of_state t (choice i) 1

-- how many inputs of these groups a choice makes the state t
abbrev pub wanted_inputs : (ℕ → ℕ) → List Group → ℕ → ℕ
wanted_inputs choice groups t = sum_by (λ group. of_state t (choice group.variable) group.times) groups

-- the groups when one more input is this variable
abbrev pub add_to : ℕ → List Group → List Group
add_to number [] = record { variable = number; times = 1 } ∷ []
add_to number (g ∷ groups) = if nat_eq number g.variable then record { variable = g.variable; times = g.times + 1 } ∷ groups else g ∷ add_to number groups

-- one of the groups is this variable's
abbrev pub has_group : ℕ → List Group → Bool
has_group number groups = list_any (λ g. nat_eq number g.variable) groups

-- each group is of another variable
abbrev pub IsDistinct : List Group → Type 0
IsDistinct [] = Unit
IsDistinct (g ∷ groups) = (has_group g.variable groups ≡ false) × IsDistinct groups

-- the variable of the first group
abbrev pub first_variable : List Group → ℕ
first_variable [] = 0
first_variable (g ∷ groups) = g.variable

-- the groups of the inputs that the centre doesn't settle. An open output's is the first
pub record IsGrouped (first output : Entry) (inputs : List Entry) (groups : List Group) : Type 0 where
  pub counts : (choice : ℕ → ℕ) (t : ℕ) → wanted_inputs choice groups t ≡ sum_by (open_state first choice t) inputs
  pub distinct : IsDistinct groups
  pub unsettled : All (λ g. is_variable g.variable first ≡ false) groups
  pub stands : All (λ g. IsTrue (list_any (is_variable g.variable) inputs) ⊎ (output ≡ entries.Var g.variable)) groups
  pub some : All (λ g. IsTrue (list_any (is_variable g.variable) inputs) → 0 < g.times) groups
  pub output_first : (i : ℕ) → output ≡ entries.Var i → is_variable i first ≡ false → (0 < length groups) × (first_variable groups ≡ i)

-- groups of different variables that there are, each of one input at least
pub record AreGroups (vars : List Var) (groups : List Group) : Type 0 where
  pub there : All (λ g. g.variable < length vars) groups
  pub some : All (λ g. 0 < g.times) groups
  pub distinct : IsDistinct groups

-- what a search is given: at most nine groups, of variables that have states, and at most eight neighbours
pub record IsSearch (vars : List Var) (groups : List Group) (states : List ℕ) : Type 0 where
  pub size : length states ≤ 8
  pub are_groups : AreGroups vars groups
  pub few : length groups ≤ 9
  pub choosable : Consistent vars [] []

-- some choice makes the inputs of these groups the states at the free places
pub record Completes (vars : List Var) (groups : List Group) (states : List ℕ) (free : ℕ) : Type 0 where
  pub choice : ℕ → ℕ
  pub is_choice : IsChoice vars choice
  pub counts : (t : ℕ) → wanted_inputs choice groups t ≡ free_count t free states

-- the same, where the first group's variable is the state s
pub record CompletesWith (vars : List Var) (groups : List Group) (states : List ℕ) (free s : ℕ) : Type 0 where
  pub completes : Completes vars groups states free
  pub is : completes.choice (first_variable groups) ≡ s

-- a set of free places that is marked with one more than the number of a group: from that group on they can't be taken
abbrev pub AreFailed : List Var → List Group → List ℕ → List ℕ → Type 0
AreFailed vars groups states marks = (free k : ℕ) → slice_index marks free ≡ k + 1 → ¬ (Completes vars (drop k groups) states free)

-- a group can take free places with the state of this one, which is free, and this is what stays free
pub record GroupTakes (vars : List Var) (group : Group) (states : List ℕ) (place free rest : ℕ) : Type 0 where
  pub is_free : bit_at free place ≡ 1
  pub less : rest ≤ free
  pub can_be : IfSome (slice_get vars group.variable) (λ var. HasState var (slice_index states place))
  pub counts : (t : ℕ) → free_count t free states ≡ of_state t (slice_index states place) group.times + free_count t rest states
