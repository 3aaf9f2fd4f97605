-- Rows of cells of the states 0 and 1 as words of 64 columns, and the next state of a cell by those around it.
use Rattle.std.specs.Prelude.{◌≡◌, ℕ, zero, suc, ◌+◌, ◌-◌, ◌/◌, ◌%◌, ◌^◌, ◌<◌, ◌≤◌, ◌⊎◌, List, [], ◌∷◌, All, length, slice_index_or}
use Rattle.std.specs.Int.{bit_at}
use Rattle.life_base.specs.Sets.{OuterTotalistic}
use Rattle.life_base.specs.declared.cell.TheConstants.{MAX_LEVEL}
use Rattle.life_base.specs.declared.rule.Near.{Near}
use Rattle.life_base.specs.declared.rule.Near.TheVariants.{Moore, VonNeumann}
use Rattle.life_pieces.specs.declared.grid.Three.{Three}
use Rattle.life_rows.specs.declared.row_cells.RowPlace.{RowPlace}
use Rattle.life_strip.specs.RowWords.{AreRowWords, cell_in_words, cells_at_place}
use Rattle.life_strip.specs.declared.row_builder.RowWord.{RowWord}
use Rattle.life_next.specs.Generation.{next_by_count, live_in}

-- no cell of a word is in this column or east of it
abbrev pub IsWordBefore : ℕ → RowWord → Type 0
IsWordBefore column w = (w.place < column / 64) ⊎ ((w.place ≡ column / 64) × (w.cells % 2 ^ (64 - column % 64) ≡ 0))

abbrev pub AreWordsBefore : ℕ → List RowWord → Type 0
AreWordsBefore column words = All (IsWordBefore column) words

-- no word is west of a place
abbrev pub AreFrom : ℕ → List RowWord → Type 0
AreFrom place words = All (λ w. place ≤ w.place) words

-- The columns from the start to before the end get cells, and every other column keeps its state. No cell is east of the new ones, and no new word west of
-- them.
pub record PutsCells (old new : List RowWord) (start end : ℕ) : Type 0 where
  pub words : AreRowWords new
  pub before : AreWordsBefore end new
  pub inside : (c : ℕ) → start ≤ c → c < end → cell_in_words new c ≡ 1
  pub others : (c : ℕ) → ¬ ((start ≤ c) × (c < end)) → cell_in_words new c ≡ cell_in_words old c
  pub places : (n : ℕ) → n ≤ start / 64 → AreFrom n old → AreFrom n new

-- every word is west of a place
abbrev pub AreWestOf : ℕ → List RowWord → Type 0
AreWestOf place words = All (λ w. w.place < place) words

-- A place gets its cells, and those west of it keep theirs. No word is east of it.
pub record AddsWord (old new : List RowWord) (place cells : ℕ) : Type 0 where
  pub words : AreRowWords new
  pub before : AreWestOf (place + 1) new
  pub there : cells_at_place new place ≡ cells
  pub others : (n : ℕ) → n < place → cells_at_place new n ≡ cells_at_place old n

-- words from west to east, none of which is at the western or the eastern edge of the plane
pub record AreInner (words : List RowWord) : Type 0 where
  pub are : AreRowWords words
  pub inner : All (λ w. (0 < w.place) × (suc w.place < 2 ^ (MAX_LEVEL - 6))) words

-- the place of the word after so many, or one that no word has
abbrev pub place_ahead : List RowWord → ℕ → ℕ
place_ahead words passed = (slice_index_or words passed (record { place = 2 ^ 64 - 1; cells = 0 })).place

-- a row at a place: the cells of the place before it and of itself, and the number of words up to it
pub record IsRowAt (words : List RowWord) (place : ℕ) (at : RowPlace) : Type 0 where
  pub edge : place ≡ 0 → at.west ≡ 0
  pub west : (n : ℕ) → suc n ≡ place → at.west ≡ cells_at_place words n
  pub here : at.here ≡ cells_at_place words place
  pub passed : (k : ℕ) (d : RowWord) → k < at.passed → k < length words → (slice_index_or words k d).place ≤ place
  pub ahead : (k : ℕ) (d : RowWord) → at.passed ≤ k → k < length words → place < (slice_index_or words k d).place

-- the cells of a place of a row amid those of the columns one further west and one further east; none is west of the plane
pub record AreColumns (words : List RowWord) (place : ℕ) (three : Three ℕ) : Type 0 where
  pub edge : place ≡ 0 → bit_at three.before 63 ≡ 0
  pub west : (c : ℕ) → suc c / 64 ≡ place → bit_at three.before (63 - suc c % 64) ≡ cell_in_words words c
  pub here : (c : ℕ) → c / 64 ≡ place → bit_at three.here (63 - c % 64) ≡ cell_in_words words c
  pub east : (c : ℕ) → c / 64 ≡ place → bit_at three.after (63 - c % 64) ≡ cell_in_words words (suc c)

-- the cells of the neighbours that count, from north around, of a cell of the middle one of three rows; `west` is the column west of it
abbrev pub cells_around : Near → (north here south : ℕ → ℕ) → ℕ → List ℕ
cells_around Moore north here south west =
    north (suc west) ∷ north (west + 2) ∷ here (west + 2) ∷ south (west + 2) ∷ south (suc west) ∷ south west ∷ here west ∷ north west ∷ []
cells_around VonNeumann north here south west = north (suc west) ∷ here (west + 2) ∷ south (suc west) ∷ here west ∷ []

-- the next state of that cell under a B/S rule
abbrev pub next_in_row : OuterTotalistic → (north here south : ℕ → ℕ) → ℕ → ℕ
next_in_row rule north here south west = next_by_count rule.sets (here (suc west)) (live_in (cells_around rule.near north here south west))

-- the next state of the cell in a column; at the western edge of the plane there is none
abbrev pub next_cell : OuterTotalistic → (north here south : ℕ → ℕ) → ℕ → ℕ
next_cell rule north here south zero = 0
next_cell rule north here south (suc west) = next_in_row rule north here south west

-- three rows at a place, and whether they have a cell there or at the place before
abbrev pub AreAt : (north here south : List RowWord) → ℕ → Three RowPlace → Type 0
AreAt north here south place at = IsRowAt north place at.before × IsRowAt here place at.here × IsRowAt south place at.after

abbrev pub IsClear : RowPlace → Type 0
IsClear at = (at.west ≡ 0) × (at.here ≡ 0)

abbrev pub HasNoCells : Three RowPlace → Type 0
HasNoCells at = IsClear at.before × IsClear at.here × IsClear at.after

-- a row has no cell at a place and beside it
pub record IsBlankAt (words : List RowWord) (place : ℕ) : Type 0 where
  pub west : (n : ℕ) → suc n ≡ place → cells_at_place words n ≡ 0
  pub here : cells_at_place words place ≡ 0
  pub east : cells_at_place words (suc place) ≡ 0

module _ (north here south : List RowWord) where
  -- three rows have no cell at a place and beside it
  abbrev pub AreBlankAt : ℕ → Type 0
  AreBlankAt place = IsBlankAt north place × IsBlankAt here place × IsBlankAt south place

  abbrev pub IsBlankFrom : ℕ → Type 0
  IsBlankFrom place = (n : ℕ) → place ≤ n → AreBlankAt n

  -- the rows have no cell about the places from one to before a later one, where they are kept as they were
  pub record IsVisited (at : Three RowPlace) (from place : ℕ) : Type 0 where
    pub order : from ≤ place
    pub within : place < 2 ^ (MAX_LEVEL - 6)
    pub gap : (n : ℕ) → from ≤ n → n < place → AreBlankAt n
    pub at_place : AreAt north here south place at

  -- the row of the next generation as far as the places before one
  pub record IsNextTo (rule : OuterTotalistic) (next : List RowWord) (place : ℕ) : Type 0 where
    pub words : AreRowWords next
    pub before : AreWestOf place next
    pub cells : (c : ℕ) → c / 64 < place → cell_in_words next c ≡ next_cell rule (cell_in_words north) (cell_in_words here) (cell_in_words south) c

-- the word has the next states of the cells of a place, wherever in rows this is
abbrev pub IsNextWord : OuterTotalistic → (at next : Three RowPlace) → ℕ → Type 0
IsNextWord rule at next word =
    (north here south : List RowWord) (place : ℕ) → AreInner north → AreInner here → AreInner south
    → AreAt north here south place at → AreAt north here south (place + 1) next
    → (c : ℕ) → c / 64 ≡ place → bit_at word (63 - c % 64) ≡ next_cell rule (cell_in_words north) (cell_in_words here) (cell_in_words south) c
