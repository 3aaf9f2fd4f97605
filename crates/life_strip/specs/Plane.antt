-- The plane as far as it is filled. The contracts of `RowBuilder` speak of it, and those of `Builder` only by `IsFilling`.
use Rattle.std.specs.Prelude.{◌≡◌, ℕ, ◌^◌, ◌<◌, ◌&&◌, if◌then◌else◌, ℤ, pos, neg_ℤ, ◌+ℤ◌, ◌≤ℤ◌, unsigned_abs, int_lt, int_le, []}
use Rattle.life_base.specs.declared.cell.TheConstants.{MAX_LEVEL}
use Rattle.life_base.specs.declared.cell.Run.{Run}
use Rattle.life_base.specs.Tree.{Tree}
use Rattle.life_quad.specs.declared.id.Id.{Id}
use Rattle.life_quad.specs.Cells.{IsInRun}
use Rattle.life_strip.specs.declared.plane.Plane.{Plane}
use Rattle.life_strip.specs.Given.{half_plane}
use Rattle.life_strip.specs.Pile.{IsPile, pile_height, pile_state_with}
use Rattle.life_strip.specs.Row.{IsRow, IsRowBefore}

-- the store knows every Id that is kept, and the strips of the whole bands have falling levels; the row that was begun is on the plane
pub record IsFilled (knows : Id → Type 0) (content : Id → Tree) (p : Plane) : Type 0 where
  pub pile : IsPile knows content p.pile
  pub row : IsRow knows content p.row
  pub rows : pile_height p.pile ≡ p.rows
  pub most : p.rows < 2 ^ MAX_LEVEL

-- no cell was filled yet
pub record IsUnfilled (p : Plane) : Type 0 where
  pub strips : p.pile.strips.items ≡ []
  pub band : p.pile.band.items ≡ []
  pub rows : p.rows ≡ 0
  pub blocks : p.row.blocks.items ≡ []
  pub spans : p.row.spans.items ≡ []

-- the state of a pair of whole numbers, by the column and the row of the plane; 0 outside it
abbrev pub on_plane : (ℕ → ℕ → ℕ) → ℤ → ℤ → ℕ
on_plane state x y =
    let half = pos half_plane in
    if int_le (neg_ℤ half) x && int_lt x half && int_le (neg_ℤ half) y && int_lt y half
    then state (unsigned_abs (x +ℤ half)) (unsigned_abs (y +ℤ half))
    else 0

-- the state in a column and a row, counted from the edges of the plane: the strips, below them the rows of a band, and below those the row that was begun
abbrev pub state_so_far : (Id → Tree) → Plane → ℕ → ℕ → ℕ
state_so_far content p = pile_state_with content p.pile p.row

-- the same by the coordinates of the plane
abbrev pub cell_so_far : (Id → Tree) → Plane → ℤ → ℤ → ℕ
cell_so_far content p = on_plane (state_so_far content p)

-- The row is the one that was begun: newly, and without cells, or before, and then none of its cells is further east than before. No cell changed.
pub record BeginsRow (knows : Id → Type 0) (before after : Id → Tree) (old new : Plane) (row : ℕ) : Type 0 where
  pub filled : IsFilled knows after new
  pub rows : new.rows ≡ row
  pub ends : (n : ℕ) → (old.rows ≡ row → IsRowBefore n old.row) → IsRowBefore n new.row
  pub picture : (i j : ℕ) → state_so_far after new i j ≡ state_so_far before old i j

-- (left, top) is in no row that is over, and in the row that was begun it is east of what was filled
pub record IsFree (p : Plane) (left top : ℤ) : Type 0 where
  pub row : pos p.rows ≤ℤ (top +ℤ pos half_plane)
  pub column : top +ℤ pos half_plane ≡ pos p.rows → (n : ℕ) → pos n ≡ left +ℤ pos half_plane → IsRowBefore n p.row

-- the cells of the run have its state, and every other cell what it had
pub record AddsRun (before after : ℤ → ℤ → ℕ) (run : Run) : Type 0 where
  pub inside : (x y : ℤ) → IsInRun run.x run.y run.len x y → after x y ≡ run.state
  pub others : (x y : ℤ) → ¬ IsInRun run.x run.y run.len x y → after x y ≡ before x y
