-- What a step by rows represents: a rule, and the runs that it was given, in a store.
use Rattle.std.specs.Prelude.{◌≡◌, ℕ, ◌+◌, ◌<◌, ◌^◌, ℤ, pos, ◌+ℤ◌, ◌<ℤ◌, ◌≤ℤ◌, List, [], ◌∷◌}
use Rattle.life_base.specs.Rules.{IsLifeRule}
use Rattle.life_base.specs.Sets.{OuterTotalistic}
use Rattle.life_base.specs.Tree.{Tree}
use Rattle.life_base.specs.declared.cell.Run.{Run}
use Rattle.life_base.specs.declared.cell.TheConstants.{MAX_LEVEL}
use Rattle.life_quad.specs.declared.id.Id.{Id}
use Rattle.life_rows.specs.RowCells.{AreInner, AreWordsBefore}
use Rattle.life_rows.specs.declared.three_rows.ThreeRows.{ThreeRows}
use Rattle.life_strip.specs.Given.{AreInOrder, IsNextRunStart, half_plane, state_by}
use Rattle.life_strip.specs.Plane.{cell_so_far}
use Rattle.life_strip.specs.RowWords.{AreRowWords, IsFilledAbove, cell_in_words}
use Rattle.life_strip.specs.declared.plane.Plane.{Plane}
use Rattle.life_strip.specs.declared.row_builder.RowWord.{RowWord}
use Rattle.life_next.specs.Generation.{next_life}

-- what contracts see of a step: its rule, the runs that it was given, and what it keeps of them, of which no public contract says more
pub record Stepping : Type 0 where
  pub rule : OuterTotalistic
  pub runs : List Run
  pub kept : ThreeRows

-- how many cells runs have together
abbrev pub run_cells : List Run → ℕ
run_cells [] = 0
run_cells (run ∷ runs) = run.len + run_cells runs

-- the words have the states of a row, which is counted from the northern edge of the plane
pub record HasRow (state : ℤ → ℤ → ℕ) (row : ℕ) (words : List RowWord) : Type 0 where
  pub cells : (x y : ℤ) (column : ℕ) → x +ℤ pos half_plane ≡ pos column → y +ℤ pos half_plane ≡ pos row → state x y ≡ cell_in_words words column

-- every cell is on the plane, and none is in a row south of this one
pub record AreCellsTo (row : ℕ) (state : ℤ → ℤ → ℕ) : Type 0 where
  pub west : (x y : ℤ) → (x +ℤ pos half_plane) <ℤ pos 0 → state x y ≡ 0
  pub east : (x y : ℤ) → pos half_plane ≤ℤ x → state x y ≡ 0
  pub north : (x y : ℤ) → (y +ℤ pos half_plane) <ℤ pos 0 → state x y ≡ 0
  pub south : (x y : ℤ) → pos row <ℤ (y +ℤ pos half_plane) → state x y ≡ 0

-- Three rows, of which the northern one is counted from the northern edge of the plane, have the cells of the runs in these rows, and no cell is south of
-- them. The builder, whose Ids the store knows, has the next generation of the rows to the northern one, and nothing in the others.
pub record KeepsThreeRows (knows : Id → Type 0) (content : Id → Tree) (rule : OuterTotalistic) (builder : Plane) (north here south : List RowWord)
    (row left : ℕ) (runs : List Run) :
    Type 0 where
  pub is_rule : IsLifeRule rule
  pub filled : IsFilledAbove knows content (row + 1) builder
  pub done : (x y : ℤ) → (y +ℤ pos half_plane) ≤ℤ pos row → cell_so_far content builder x y ≡ next_life rule (state_by runs) x y
  pub cells : AreCellsTo (row + 2) (state_by runs)
  pub north_inner : AreInner north
  pub here_inner : AreInner here
  pub south_words : AreRowWords south
  pub has_north : HasRow (state_by runs) row north
  pub has_here : HasRow (state_by runs) (row + 1) here
  pub has_south : HasRow (state_by runs) (row + 2) south
  pub order : AreInOrder runs
  pub next : (x y : ℤ) (column : ℕ) → IsNextRunStart runs x y → x +ℤ pos half_plane ≡ pos column → y +ℤ pos half_plane ≡ pos (row + 2)
      → AreWordsBefore column south
  pub count : run_cells runs + left ≡ 2 ^ 20

abbrev pub IsThreeRows : (Id → Type 0) → (Id → Tree) → ThreeRows → Type 0
IsThreeRows knows content s =
    KeepsThreeRows knows content s.rule s.builder s.north.items s.here.items s.south.items s.north_row s.left s.log.runs

-- the southern one of the three rows isn't the southernmost of the plane
abbrev pub IsBetweenRows : ThreeRows → Type 0
IsBetweenRows s = s.north_row + 3 < 2 ^ MAX_LEVEL

-- The store knows each Id that the step keeps, and what is kept has the next states of the cells of the runs, as far as these are known.
pub record IsStepping (knows : Id → Type 0) (content : Id → Tree) (s : Stepping) : Type 0 where
  pub rows : IsThreeRows knows content s.kept
  pub between : IsBetweenRows s.kept
  pub rule : s.kept.rule ≡ s.rule
  pub runs : s.kept.log.runs ≡ s.runs
