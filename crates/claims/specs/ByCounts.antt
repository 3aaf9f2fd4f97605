-- What a line of a table gives by the counts of the neighbours' states, without an order of the neighbours.
use Rattle.std.specs.Prelude.{◌≡◌, ℕ, ◌<◌, List, [], ◌∷◌, length, take, drop, map, count_by, ◌==◌, codes, Contains, ◌↔◌, Some, Ok}
use Rattle.std.specs.Option.{unwrap_or}
use Rattle.claims.specs.Table.{Entry, fixed, variable, Variable, Transition, Table, claimed_states_of, table_of, claimed_states_given}

-- the state of an entry, where this is the state of each variable
abbrev pub state_for : (ℕ → ℕ) → Entry → ℕ
state_for value (fixed state) = state
state_for value (variable number) = value number

-- Some choice of one of its states for each variable makes the centre's entry the state of the centre, as many of the other inputs each state
-- as there are neighbours with it, and the output this state.
pub record GivesByClaimedCounts (variables : List Variable) (line : Transition) (centre : ℕ) (around : List ℕ) (state : ℕ) : Type 0 where
  pub value : ℕ → ℕ
  pub is_value : (n : ℕ) → n < length variables → Contains (claimed_states_of variables (variable n)) (value n)
  pub first : map (state_for value) (take 1 line.inputs) ≡ centre ∷ []
  pub counts : (t : ℕ) → count_by (λ s. s == t) (map (state_for value) (drop 1 line.inputs)) ≡ count_by (λ s. s == t) around
  pub output : state_for value line.output ≡ state

-- in a table with the symmetry `permute`, a line gives a cell what it gives by the counts of its neighbours' states, without an order
abbrev pub PermuteByClaimedCounts : Type 0
PermuteByClaimedCounts = (bytes : List ℕ) (table : Table) → table_of bytes ≡ Ok table → table.symmetry ≡ Some (codes "permute") →
    (line : Transition) → Contains table.transitions line → (centre : ℕ) (around : List ℕ) → length around ≡ unwrap_or table.neighbours 0 →
    (state : ℕ) → Contains (claimed_states_given table centre around line) state ↔ GivesByClaimedCounts table.variables line centre around state
