-- What a rule table makes of a cell and its neighbours.
use Rattle.std.specs.Prelude.{◌≡◌, ◌≢◌, ℕ, ◌/◌, ◌%◌, ◌<◌, List, [], ◌∷◌, ◌++◌, map, take, drop, slice_get, slice_index, length, IfSome, All, Contains, count_by, nat_eq, ◌⊎◌, Bool, ◌==◌, IsTrue, Result, MatchResult}
use Rattle.std.specs.Int.{bit_at}
use Rattle.life_base.specs.declared.fault.Fault.{Fault}
use Rattle.life_base.specs.declared.kind.Kind.TheVariants as kinds
use Rattle.life_table.specs.Orders.{images}
use Rattle.life_table.specs.declared.table.Symmetry.{Symmetry}
use Rattle.life_table.specs.declared.table.Var.{Var}
use Rattle.life_table.specs.declared.table.Entry.{Entry}
use Rattle.life_table.specs.declared.table.Entry.TheVariants as entries
use Rattle.life_table.specs.declared.table.Transition.{Transition}

-- a variable may be this state: its bit is set
abbrev pub has_state : Var → ℕ → Bool
has_state var s = bit_at (slice_index var.states (s / 64)) (s % 64) == 1

abbrev pub HasState : Var → ℕ → Type 0
HasState var s = IsTrue (has_state var s)

-- choice has, for the number of each variable, one of its states
abbrev pub IsChoice : List Var → (ℕ → ℕ) → Type 0
IsChoice vars choice = (i : ℕ) → i < length vars → IfSome (slice_get vars i) (λ var. HasState var (choice i))

-- the state of an entry under a choice
abbrev pub state_of : (ℕ → ℕ) → Entry → ℕ
state_of choice (entries.Fixed s) = s
state_of choice (entries.Var i) = choice i

-- some choice makes the inputs these states, entry by entry, and the output s
pub record GivesAs (vars : List Var) (line : Transition) (states : List ℕ) (s : ℕ) : Type 0 where
  pub choice : ℕ → ℕ
  pub is_choice : IsChoice vars choice
  pub inputs : map (state_of choice) line.inputs ≡ states
  pub output : state_of choice line.output ≡ s

-- the line gives the state s: of some image of the neighbours, after the centre
pub record Gives (symmetry : Symmetry) (vars : List Var) (line : Transition) (centre : ℕ) (others : List ℕ) (s : ℕ) : Type 0 where
  pub image : List ℕ
  pub is_image : Contains (images symmetry others) image
  pub gives : GivesAs vars line (centre ∷ image) s

-- how often a state stands in a list
abbrev pub count_of : ℕ → List ℕ → ℕ
count_of s xs = count_by (nat_eq s) xs

-- the same without an order: some choice makes the centre input the centre, gives each state as many of
-- the other inputs as it has neighbours, and makes the output s
pub record GivesByCounts (vars : List Var) (line : Transition) (centre : ℕ) (others : List ℕ) (s : ℕ) : Type 0 where
  pub choice : ℕ → ℕ
  pub is_choice : IsChoice vars choice
  pub first : map (state_of choice) (take 1 line.inputs) ≡ centre ∷ []
  pub counts : (t : ℕ) → count_of t (map (state_of choice) (drop 1 line.inputs)) ≡ count_of t others
  pub output : state_of choice line.output ≡ s

-- what a table answers: a state, or the number of the line that gives two
pub data Answer : Type 0 where
  Becomes : (state : ℕ) → Answer
  Ambiguous : (number : ℕ) → Answer

-- what lines give and decide at one cell with these neighbours
module _ (symmetry : Symmetry) (vars : List Var) (centre : ℕ) (others : List ℕ) where
  abbrev pub GivesNothing : Transition → Type 0
  GivesNothing line = (s : ℕ) → ¬ (Gives symmetry vars line centre others s)

  -- a line that gives something answers so: its one state, or that it gives two
  abbrev pub LineAnswers : Transition → Answer → Type 0
  LineAnswers line (Becomes s) = Gives symmetry vars line centre others s × ((t : ℕ) → Gives symmetry vars line centre others t → t ≡ s)
  LineAnswers line (Ambiguous number) = (number ≡ line.line) × (s : ℕ) × (t : ℕ) × (s ≢ t) × Gives symmetry vars line centre others s
      × Gives symmetry vars line centre others t

  -- the first line that gives anything decides
  pub record FirstToGive (lines : List Transition) (answer : Answer) : Type 0 where
    pub before : List Transition
    pub line : Transition
    pub after : List Transition
    pub split : lines ≡ before ++ line ∷ after
    pub silent : All GivesNothing before
    pub answers : LineAnswers line answer

  -- where no line gives anything, the cell keeps its state
  abbrev pub Decides : List Transition → Answer → Type 0
  Decides lines answer = FirstToGive lines answer ⊎ (All GivesNothing lines × (answer ≡ Becomes centre))

  -- a call answers what the lines decide: Ok with the state, or Err with Ambiguous at the number of the line that gives two
  abbrev pub DecidesAs : List Transition → Result ℕ Fault → Type 0
  DecidesAs lines result = MatchResult result (λ s. Decides lines (Becomes s))
      (λ fault. (fault.kind ≡ kinds.Ambiguous) × Decides lines (Ambiguous fault.place.line))
