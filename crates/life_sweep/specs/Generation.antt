-- The next state of every pair of whole numbers: under a B/S rule (Golly Help, QuickLife) and by a rule table (Golly Help, File Formats,
-- "@TABLE"). North is y - 1, east is x + 1. And the same by the states of a cell and its neighbours alone, which is what laws answer.
use Rattle.std.specs.Prelude.{◌≡◌, ◌↔◌, ℕ, ℤ, List, [], ◌∷◌, drop, slice_index}
use Rattle.life_base.specs.Sets.{OuterTotalistic}
use Rattle.life_base.specs.declared.rule.Near.{Near}
use Rattle.life_table.specs.Meaning.{Answer, Becomes, Decides, count_of}
use Rattle.life_table.specs.declared.table.Table.{Table}
use Rattle.life_table.specs.declared.table.Neighborhood.{Neighborhood}
use Rattle.life_table.specs.declared.table.Neighborhood.TheVariants.{VonNeumann, Moore}
use Rattle.life_next.specs.Generation.{eight_around, four_around, next_by_count, next_life}
use Rattle.life_base.specs.declared.rule.Near.TheVariants as near

-- the states of the neighbours that a neighbourhood names
abbrev pub neighbours_at : Neighborhood → (ℤ → ℤ → ℕ) → ℤ → ℤ → List ℕ
neighbours_at VonNeumann = four_around
neighbours_at Moore = eight_around

-- the neighbourhood in which a B/S rule counts
abbrev pub neighborhood_of_rule : Near → Neighborhood
neighborhood_of_rule near.VonNeumann = VonNeumann
neighborhood_of_rule near.Moore = Moore

-- what a table answers for the cell (x, y)
abbrev pub AnswersAt : Table → (ℤ → ℤ → ℕ) → ℤ → ℤ → Answer → Type 0
AnswersAt table cells x y answer =
    Decides table.symmetry table.vars (cells x y) (neighbours_at table.neighborhood cells x y) table.lines answer

-- the state of a cell and of its eight neighbours
abbrev pub states_at : (ℤ → ℤ → ℕ) → ℤ → ℤ → List ℕ
states_at cells x y = cells x y ∷ eight_around cells x y

-- nine cells of state 0
abbrev pub zeros : List ℕ
zeros = 0 ∷ 0 ∷ 0 ∷ 0 ∷ 0 ∷ 0 ∷ 0 ∷ 0 ∷ 0 ∷ []

-- those of eight neighbours, after the centre, that a neighbourhood names
abbrev pub neighbours_among : Neighborhood → List ℕ → List ℕ
neighbours_among VonNeumann v = slice_index v 1 ∷ slice_index v 3 ∷ slice_index v 5 ∷ slice_index v 7 ∷ []
neighbours_among Moore v = drop 1 v

-- the answer of a B/S rule, by a cell's state and the states of those neighbours that count
abbrev pub LifeAnswers : OuterTotalistic → List ℕ → Answer → Type 0
LifeAnswers rule states answer = answer ≡ Becomes
    (next_by_count rule.sets (slice_index states 0) (count_of 1 (neighbours_among (neighborhood_of_rule rule.near) states)))

-- the answer of a table
abbrev pub TableAnswers : Table → List ℕ → Answer → Type 0
TableAnswers table states answer = Decides table.symmetry table.vars (slice_index states 0) (neighbours_among table.neighborhood states) table.lines answer

-- the law of a B/S rule answers with the next state under the rule
abbrev pub LifeAnswersAt : Type 0
LifeAnswersAt =
    (rule : OuterTotalistic) (cells : ℤ → ℤ → ℕ) (x y : ℤ) (answer : Answer)
    → LifeAnswers rule (states_at cells x y) answer ↔ (answer ≡ Becomes (next_life rule cells x y))

-- the law of a table answers what the table answers for the cell
abbrev pub TableAnswersAt : Type 0
TableAnswersAt =
    (table : Table) (cells : ℤ → ℤ → ℕ) (x y : ℤ) (answer : Answer) → TableAnswers table (states_at cells x y) answer ↔ AnswersAt table cells x y answer
