-- Rows of cells of the states 0 and 1 as words of 64 columns each, and a plane that is filled by whole rows.
use Rattle.std.specs.Prelude.{◌≡◌, ℕ, ◌==◌, ◌-◌, ◌/◌, ◌%◌, ◌^◌, ◌<◌, ◌≤◌, if◌then◌else◌, List, [], ◌∷◌, All, AllPairs}
use Rattle.life_base.specs.Tree.{Tree}
use Rattle.life_base.specs.declared.cell.TheConstants.{MAX_LEVEL}
use Rattle.life_quad.specs.declared.id.Id.{Id}
use Rattle.life_strip.specs.declared.plane.Plane.{Plane}
use Rattle.life_strip.specs.declared.row_builder.RowWord.{RowWord}
use Rattle.life_strip.specs.Blocks.{cell_in_word}
use Rattle.life_strip.specs.Plane.{IsFilled, state_so_far}
use Rattle.life_strip.specs.Row.{IsRowBefore}

-- words from west to east, on the plane
pub record AreRowWords (words : List RowWord) : Type 0 where
  pub within : All (λ w. w.place < 2 ^ (MAX_LEVEL - 6)) words
  pub rise : AllPairs (λ a b. a.place < b.place) words

-- the cells of the 64 columns of a place: those of the word there, if there is one
abbrev pub cells_at_place : List RowWord → ℕ → ℕ
cells_at_place [] place = 0
cells_at_place (w ∷ rest) place = if w.place == place then w.cells else cells_at_place rest place

-- the cell in a column of a row
abbrev pub cell_in_words : List RowWord → ℕ → ℕ
cell_in_words words column = cell_in_word (cells_at_place words (column / 64)) (column % 64)

-- the store knows what is kept of a plane, and no cell is in this row or south of it
pub record IsFilledAbove (knows : Id → Type 0) (content : Id → Tree) (row : ℕ) (p : Plane) : Type 0 where
  pub filled : IsFilled knows content p
  pub blank : (i j : ℕ) → row ≤ j → state_so_far content p i j ≡ 0
  pub least : p.rows ≤ row
  pub free : p.rows ≡ row → IsRowBefore 0 p.row
