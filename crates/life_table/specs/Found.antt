-- What has been found of the states that a line gives.
use Rattle.std.specs.Prelude.{◌≡◌, ◌≢◌, ℕ, List, map, ◌⊎◌, Contains}
use Rattle.life_table.specs.Meaning.{IsChoice, state_of, GivesAs}
use Rattle.life_table.specs.declared.table.Var.{Var}
use Rattle.life_table.specs.declared.table.Entry.{Entry}
use Rattle.life_table.specs.declared.table.Transition.{Transition}
use Rattle.life_table.specs.declared.found.Found.{Found}
use Rattle.life_table.specs.declared.found.Found.TheVariants.{Nothing, One, Two}

-- nothing is given, or one state, or two different ones
abbrev pub IsFoundOf : (ℕ → Type 0) → Found → Type 0
IsFoundOf Given Nothing = (s : ℕ) → ¬ (Given s)
IsFoundOf Given (One a) = Given a × ((s : ℕ) → Given s → s ≡ a)
IsFoundOf Given Two = (s : ℕ) × (t : ℕ) × (s ≢ t) × Given s × Given t

-- new tells of what old tells of and the given states together
abbrev pub Adds : (ℕ → Type 0) → Found → Found → Type 0
Adds Given Nothing new = IsFoundOf Given new
Adds Given (One a) new = IsFoundOf (λ s. (s ≡ a) ⊎ Given s) new
Adds Given Two new = new ≡ Two

-- some choice makes these entries these states
pub record Consistent (vars : List Var) (parts : List Entry) (states : List ℕ) : Type 0 where
  pub choice : ℕ → ℕ
  pub is_choice : IsChoice vars choice
  pub values : map (state_of choice) parts ≡ states

-- one of these images, the centre first, gives s
pub record SomeGives (vars : List Var) (line : Transition) (images : List (List ℕ)) (s : ℕ) : Type 0 where
  pub image : List ℕ
  pub is_image : Contains images image
  pub gives : GivesAs vars line image s
