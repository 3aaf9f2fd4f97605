-- The cell at which the lines of a table are tried.
use Rattle.std.specs.Prelude.{◌≡◌, ℕ, ◌-◌, ◌/◌, ◌<◌, ◌≤◌, List, [], drop, length, slice_index, All, IsTrue, ◌≢◌}
use Rattle.std.specs.List.{list_any}
use Rattle.life_table.specs.Found.{Consistent}
use Rattle.life_table.specs.Orders.{images, family}
use Rattle.life_table.specs.Seen.{IsSeen}
use Rattle.life_table.specs.Valid.{IsEntry, is_variable}
use Rattle.life_table.specs.declared.site.Site.{Site}
use Rattle.life_table.specs.declared.table.Entry.TheVariants as entries
use Rattle.life_table.specs.declared.table.Symmetry.{Symmetry}
use Rattle.life_table.specs.declared.table.Symmetry.TheVariants.{Permute}
use Rattle.life_table.specs.declared.table.Transition.{Transition}

-- the states of the cell and of its neighbours
abbrev pub centre_of : Site → ℕ
centre_of site = slice_index site.cells.now 0

abbrev pub others_of : Site → List ℕ
others_of site = drop 1 site.cells.now

-- a cell with one to eight neighbours, of which it is known what they may be, where each variable has a state
pub record IsSite (site : Site) : Type 0 where
  pub some : 1 < length site.cells.now
  pub space : length site.cells.now ≤ 9
  pub choosable : Consistent site.vars.now [] []
  pub seen : IsSeen site.vars.now (others_of site) site.seen.now

-- the turns go once round the neighbours
pub record GoesRound (site : Site) : Type 0 where
  pub positive : 0 < site.ways.step
  pub turns : site.ways.count ≡ (length site.cells.now - 1) / site.ways.step

-- a line that can be tried there: it has an input for each cell, of entries that there are, and an output variable is an input
pub record IsLineAt (site : Site) (line : Transition) : Type 0 where
  pub count : length line.inputs ≡ length site.cells.now
  pub inputs : All (IsEntry 256 site.vars.now) line.inputs
  pub bound : (i : ℕ) → line.output ≡ entries.Var i → IsTrue (list_any (is_variable i) line.inputs)

-- but under `permute`, the images of the neighbours are their turns
abbrev pub TurnsAreImages : Symmetry → Site → Type 0
TurnsAreImages symmetry site = symmetry ≢ Permute → images symmetry (others_of site) ≡ family site.ways.reflect site.ways.step (others_of site)
