-- What the reader of a rule table keeps from line to line, and what its functions find in a line.
use Rattle.std.specs.Prelude.{◌≡◌, ℕ, ◌<◌, ◌≤◌, Bool, true, List, [], ◌∷◌, ◌++◌, Option, Some, None, IfSome, ◌==◌, ◌||◌, ◌≢◌, All, IsTrue, slice_get, map, option_map}
use Rattle.std.proofs.Common.{Bor}
use Rattle.std.specs.Global.{Vec}
use Rattle.std.specs.List.{list_any, slice_split}
use Rattle.std.specs.Str.{byte}
use Rattle.life_table.specs.Reading.{all_some, entry_of}
use Rattle.life_table.specs.Valid.{fits_zero, is_quiet, is_listed, neighbour_count, IsVariable, IsTransition}
use Rattle.life_table.specs.declared.directive.Parsed.{Parsed}
use Rattle.life_table.specs.declared.directive.Section.TheVariants.{Ahead, Open, Behind}
use Rattle.life_table.specs.declared.directive.Directive.{Directive}
use Rattle.life_table.specs.declared.directive.Directive.TheVariants.{Nothing, RuleName, TableOpens, TableEnds, States, Neighbors, Orders, Variable, Line}
use Rattle.life_table.specs.declared.table.Entry.{Entry}
use Rattle.life_table.specs.declared.table.Neighborhood.{Neighborhood}
use Rattle.life_table.specs.declared.table.Symmetry.{Symmetry}
use Rattle.life_table.specs.declared.table.Var.{Var}

-- the texts between commas that are left, none after the last
abbrev pub parts_left : Option (Bor (List ℕ)) → List (List ℕ)
parts_left None = []
parts_left (Some text) = slice_split (λ b. b == byte ",") text.now

-- the entries of these words were found: all of them, or none where one of the words is no entry
abbrev pub AreEntriesOf : ℕ → List Var → List (List ℕ) → Option (Vec Entry) → Type 0
AreEntriesOf n_states vars words found = option_map (λ entries. entries.items) found ≡ all_some (map (entry_of n_states vars) words)

-- what lines say together with one more
abbrev pub parsed_after : Parsed → Directive → Parsed
parsed_after parsed Nothing = parsed
parsed_after parsed (RuleName name) = record parsed { name = Some name }
parsed_after parsed TableOpens = record parsed { section = Open }
parsed_after parsed TableEnds = record parsed { section = Behind }
parsed_after parsed (States n_states) = record parsed { n_states = Some n_states }
parsed_after parsed (Neighbors neighborhood) = record parsed { neighborhood = Some neighborhood }
parsed_after parsed (Orders symmetry) = record parsed { symmetry = Some symmetry }
parsed_after parsed (Variable var) = record parsed { vars = parsed.vars ++ var ∷ [] }
parsed_after parsed (Line line) = record parsed { lines = parsed.lines ++ line ∷ [] }

-- nothing was said
abbrev pub nothing_parsed : Parsed
nothing_parsed = record { name = None; section = Ahead; n_states = None; neighborhood = None; symmetry = None; vars = []; lines = [] }

-- whether a transition fits the all-zero neighbourhood, one more line counted
abbrev pub fits_after : Bool → List Var → Directive → Bool
fits_after fits vars (Line line) = fits || fits_zero vars line
fits_after fits vars _ = fits

-- there are at most 256 states, the transitions so far are quiet, and it is known whether one fits the all-zero neighbourhood
pub record IsKeptParse (parsed : Parsed) (fit : Bool) : Type 0 where
  pub most : IfSome parsed.n_states (λ n. n ≤ 256)
  pub fits : fit ≡ list_any (fits_zero parsed.vars) parsed.lines
  pub quiet : is_quiet parsed.vars parsed.lines ≡ true

-- what is said so far are parts of a rule table
pub record IsGood (parsed : Parsed) : Type 0 where
  pub states : (n : ℕ) → parsed.n_states ≡ Some n → (2 ≤ n) × (n ≤ 256)
  pub listed : (n : Neighborhood) (s : Symmetry) → parsed.neighborhood ≡ Some n → parsed.symmetry ≡ Some s → IsTrue (is_listed n s)
  pub names : (i j : ℕ) (x y : Var) → i < j → slice_get parsed.vars i ≡ Some x → slice_get parsed.vars j ≡ Some y → x.name ≢ y.name
  pub variables : (n : ℕ) → parsed.n_states ≡ Some n → All (IsVariable n) parsed.vars
  pub no_variables : parsed.n_states ≡ None → parsed.vars ≡ []
  pub no_transitions : parsed.n_states ≡ None → parsed.lines ≡ []
  pub none_without : parsed.neighborhood ≡ None → parsed.lines ≡ []
  pub transitions : (n : ℕ) (h : Neighborhood) → parsed.n_states ≡ Some n → parsed.neighborhood ≡ Some h
      → All (IsTransition n (neighbour_count h) parsed.vars) parsed.lines
  pub quiet : is_quiet parsed.vars parsed.lines ≡ true
