-- What the writer has still to write.
use Rattle.std.specs.Prelude.{◌≡◌, ℕ, ◌+◌, ◌≤◌, ◌<◌, ◌⊎◌, List, [], ◌∷◌, ◌++◌, length, map, Bool, ◌&&◌, true, ℤ, pos, neg_ℤ, ◌+ℤ◌, ◌≤ℤ◌, ◌<ℤ◌, if◌then◌else◌, ◌==◌, nat_le, codes}
use Rattle.std.specs.Ordering.{int_eq}
use Rattle.life_base.specs.declared.cell.Cell.{Cell}
use Rattle.life_base.specs.declared.cell.Run.{Run}
use Rattle.life_base.specs.declared.cell.TheConstants.{MAX_LEVEL}
use Rattle.life_base.specs.declared.rule.Rule.{Rule}
use Rattle.life_rle.specs.declared.item.Item.{Item}
use Rattle.life_rle.specs.declared.item.Item.TheVariants.{Cells, RowEnds}
use Rattle.life_base.specs.declared.bounds.Bounds.{Bounds}
use Rattle.life_rle.specs.declared.pen.Pen.{Pen}
use Rattle.life_rle.specs.declared.wrapping.ItemLines.{ItemLines}
use Rattle.life_rle.specs.Plane.{rle_plane_end}
use Rattle.life_rle.specs.States.{is_state_of, state_text}
use Rattle.life_rle.specs.Written.{with_cells, item_text, items_from}

-- the text of an item without its count
abbrev pub tag_text : Rule → Item → List ℕ
tag_text rule (Cells count state) = state_text rule state
tag_text rule (RowEnds count) = codes "$"

-- the line feed at the beginning of a text of this length that doesn't fit on the line
abbrev pub feed : ℕ → ℕ → List ℕ
feed used len = if nat_le (used + len) 70 then [] else codes "\n"

-- how many bytes the line has after such a text
abbrev pub used_after : ℕ → ℕ → ℕ
used_after used len = if nat_le (used + len) 70 then used + len else len

-- texts and the last line feed, from a line on that has some bytes
abbrev pub text_from : ℕ → List (List ℕ) → List ℕ
text_from used [] = codes "\n"
text_from used (text ∷ texts) = feed used (length text) ++ (text ++ text_from (used_after used (length text)) texts)

-- items and `!`, from such a line on
abbrev pub items_text : Rule → ℕ → List Item → List ℕ
items_text rule used items = text_from used (map (item_text rule) items ++ codes "!" ∷ [])

-- the whole text of lines after which these items and `!` follow
abbrev pub text_with : Rule → ItemLines → List Item → List ℕ
text_with rule lines items = lines.text.items ++ items_text rule lines.used items

-- these items were written, whatever items follow
pub record PutsItems (rule : Rule) (old : ItemLines) (items : List Item) (new : ItemLines) : Type 0 where
  pub short : new.used ≤ 70
  pub text : (more : List Item) → text_with rule new more ≡ text_with rule old (items ++ more)

-- the run of one cell
abbrev pub run_of : Cell → Run
run_of c = record { x = c.x; y = c.y; len = 1; state = c.state }

-- a run with one cell more
abbrev pub longer_run : Run → Run
longer_run run = record { x = run.x; y = run.y; len = run.len + 1; state = run.state }

-- the column after a run
abbrev pub column_after_run : Run → ℤ
column_after_run run = run.x +ℤ pos run.len

-- whether a cell goes on with a run
abbrev pub continues_run : Run → Cell → Bool
continues_run run c = (int_eq c.y run.y && int_eq c.x (column_after_run run)) && c.state == run.state

-- the item of a run
abbrev pub item_of : Run → Item
item_of run = Cells run.len run.state

-- the whole text of a pen after which these cells follow
abbrev pub pen_text : Rule → Pen → List Cell → List ℕ
pen_text rule pen cells = text_with rule pen.lines (with_cells pen.run.len pen.run.state (items_from pen.left (column_after_run pen.run) pen.run.y cells))

-- live cells in the plane
pub record IsLiveRun (run : Run) : Type 0 where
  pub left : neg_ℤ (rle_plane_end MAX_LEVEL) ≤ℤ run.x
  pub right : column_after_run run ≤ℤ rle_plane_end MAX_LEVEL
  pub top : neg_ℤ (rle_plane_end MAX_LEVEL) ≤ℤ run.y
  pub bottom : run.y <ℤ rle_plane_end MAX_LEVEL
  pub live : 0 < run.state

-- the pen's line has space, rows begin in the plane, and its run lies there
pub record IsPen (pen : Pen) : Type 0 where
  pub short : pen.lines.used ≤ 70
  pub left : neg_ℤ (rle_plane_end MAX_LEVEL) ≤ℤ pen.left
  pub run : IsLiveRun pen.run

-- a live cell in the plane
pub record IsGoodCell (rule : Rule) (c : Cell) : Type 0 where
  pub left : neg_ℤ (rle_plane_end MAX_LEVEL) ≤ℤ c.x
  pub right : c.x <ℤ rle_plane_end MAX_LEVEL
  pub top : neg_ℤ (rle_plane_end MAX_LEVEL) ≤ℤ c.y
  pub bottom : c.y <ℤ rle_plane_end MAX_LEVEL
  pub state : is_state_of rule c.state ≡ true
  pub live : 0 < c.state

-- the place is in the cell's row and not after it, or in an earlier row
abbrev pub IsAhead : ℤ → ℤ → ℤ → Cell → Type 0
IsAhead left x y c = ((c.y ≡ y) × (x ≤ℤ c.x)) ⊎ ((y <ℤ c.y) × (left ≤ℤ c.x))

-- live cells that rise from a place on
abbrev pub Follow : Rule → ℤ → ℤ → ℤ → List Cell → Type 0
Follow rule left x y [] = Unit {0}
Follow rule left x y (c ∷ cells) = IsGoodCell rule c × IsAhead left x y c × Follow rule left (c.x +ℤ pos 1) c.y cells

-- a box of the plane
pub record IsInPlane (box : Bounds) : Type 0 where
  pub left : neg_ℤ (rle_plane_end MAX_LEVEL) ≤ℤ box.left
  pub wide : box.left ≤ℤ box.right
  pub right : box.right <ℤ rle_plane_end MAX_LEVEL
  pub top : neg_ℤ (rle_plane_end MAX_LEVEL) ≤ℤ box.top
  pub high : box.top ≤ℤ box.bottom
  pub bottom : box.bottom <ℤ rle_plane_end MAX_LEVEL

-- the next cell was taken, whatever cells follow
pub record WritesCell (rule : Rule) (pen : Pen) (cell : Cell) (next : Pen) : Type 0 where
  pub sound : IsPen next
  pub place : (next.left ≡ pen.left) × (column_after_run next.run ≡ cell.x +ℤ pos 1) × (next.run.y ≡ cell.y)
  pub text : (cells : List Cell) → pen_text rule next cells ≡ pen_text rule pen (cell ∷ cells)
