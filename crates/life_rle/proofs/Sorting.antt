-- Sorted cells follow each other from the corner of their box, and items in the plane are sound.
use Rattle.std.proofs.Common.{◌≡◌, ℕ, ◌<◌, ◌⊎◌, inl, inr, true, false, not, cond, ◌&&◌, ◌||◌, List, [], ◌∷◌, refl, sym, ap, ◌∙◌, Some, None, ℤ, pos, neg_ℤ, ◌+ℤ◌, ◌≤ℤ◌, ◌<ℤ◌, arith, ltb, int_lt, int_le}
use Rattle.std.specs.Ordering.{int_eq}
use Rattle.std.specs.Int.{int_min, int_max}
use Rattle.std.proofs.lemmas.Int.{ints}
use Rattle.std.proofs.lemmas.Bool.Decides.{nat_tests}
use Rattle.std.proofs.lemmas.Bool.{and_parts}
use Rattle.life_base.specs.declared.kind.Kind.TheVariants.{StateRange, OutOfPlane}
use Rattle.life_base.specs.declared.cell.Cell.{Cell}
use Rattle.life_base.specs.declared.rule.Rule.{Rule}
use Rattle.life_rle.specs.declared.item.Item.{Item}
use Rattle.life_base.specs.declared.bounds.Bounds.{Bounds}
use Rattle.life_rle.specs.declared.item.Item.TheVariants.{Cells, RowEnds}
use Rattle.life_rle.specs.Plane.{rle_plane_end, is_coordinate}
use Rattle.std.specs.Option.{option_or}
use Rattle.life_rle.specs.Pattern.{item_fault, first_fault}
use Rattle.life_rle.specs.States.{is_state_of}
use Rattle.life_rle.specs.Written.{box_of, box_around, box_of_cell}
use Rattle.life_rle.specs.Sorted.{is_live_cell, rises, are_sorted_cells}
use Rattle.life_rle.proofs.Places.{placed_from}
use Rattle.life_rle.proofs.FileLines.{AreWritten}
use Rattle.life_rle.specs.Writer.{IsGoodCell, Follow, IsInPlane}
use Rattle.life_rle.proofs.CellsLaw.{AreGood}
use Rattle.life_base.specs.declared.cell.TheConstants.{MAX_LEVEL}

-- good items can be written
pub AreGood-AreWritten : (rule : Rule) (left column row : ℤ) (items : List Item) → AreGood rule left column row items → AreWritten rule items
AreGood-AreWritten rule left column row [] g = tt
AreGood-AreWritten rule left column row (Cells n s ∷ items) g = ((g.0, g.1, g.2), AreGood-AreWritten rule left (column +ℤ pos n) row items g.5)
AreGood-AreWritten rule left column row (RowEnds n ∷ items) g = ((g.0, g.1), AreGood-AreWritten rule left left (row +ℤ pos n) items g.3)

cells-sound : (rule : Rule) (row column : ℤ) (n s : ℕ) → is_state_of rule s ≡ true → row <ℤ rle_plane_end MAX_LEVEL
    → (column +ℤ pos n) ≤ℤ rle_plane_end MAX_LEVEL
    → item_fault MAX_LEVEL rule row column (Cells n s) ≡ None
cells-sound rule row column n s state inside high =
    let test : (int_lt row (rle_plane_end MAX_LEVEL) && int_le (column +ℤ pos n) (rle_plane_end MAX_LEVEL)) ≡ true = grind (arith, ints) in
    ap (λ t. cond (not t) (Some StateRange) (cond (int_lt row (rle_plane_end MAX_LEVEL) && int_le (column +ℤ pos n) (rle_plane_end MAX_LEVEL)) None
    (Some OutOfPlane))) state
    ∙ ap (λ t. cond t None (Some OutOfPlane)) test

row_ends-sound : (rule : Rule) (row column : ℤ) (n : ℕ) → (row +ℤ pos n) ≤ℤ rle_plane_end MAX_LEVEL → item_fault MAX_LEVEL rule row column (RowEnds n) ≡ None
row_ends-sound rule row column n high =
    let test : int_le (row +ℤ pos n) (rle_plane_end MAX_LEVEL) ≡ true = grind (arith, ints) in
    ap (λ t. cond t None (Some OutOfPlane)) test

-- good items break no rule
pub AreGood-sound : (rule : Rule) (left column row : ℤ) (items : List Item) → AreGood rule left column row items
    → first_fault MAX_LEVEL rule (placed_from left column row items) ≡ None
AreGood-sound rule left column row [] g = refl
AreGood-sound rule left column row (Cells n s ∷ items) g =
    ap (λ k. option_or k (first_fault MAX_LEVEL rule (placed_from left (column +ℤ pos n) row items))) (cells-sound rule row column n s g.2 g.3 g.4)
    ∙ AreGood-sound rule left (column +ℤ pos n) row items g.5
AreGood-sound rule left column row (RowEnds n ∷ items) g =
    ap (λ k. option_or k (first_fault MAX_LEVEL rule (placed_from left left (row +ℤ pos n) items))) (row_ends-sound rule row column n g.2)
    ∙ AreGood-sound rule left left (row +ℤ pos n) items g.3

coordinate-range : (z : ℤ) → is_coordinate MAX_LEVEL z ≡ true → (neg_ℤ (rle_plane_end MAX_LEVEL) ≤ℤ z) × (z <ℤ rle_plane_end MAX_LEVEL)
coordinate-range z h =
    let parts = and_parts (int_le (neg_ℤ (rle_plane_end MAX_LEVEL)) z) (int_lt z (rle_plane_end MAX_LEVEL)) h in
    let low = parts.0 in let high = parts.1 in
    (grind (arith, ints), grind (arith, ints))

live-good : (rule : Rule) (c : Cell) → is_live_cell MAX_LEVEL rule c ≡ true → IsGoodCell rule c
live-good rule c h =
    let parts = and_parts (is_coordinate MAX_LEVEL c.x && is_coordinate MAX_LEVEL c.y) (ltb 0 c.state && is_state_of rule c.state) h in
    let place = and_parts (is_coordinate MAX_LEVEL c.x) (is_coordinate MAX_LEVEL c.y) parts.0 in
    let state = and_parts (ltb 0 c.state) (is_state_of rule c.state) parts.1 in
    let x = coordinate-range c.x place.0 in
    let y = coordinate-range c.y place.1 in
    let some = state.0 in
    let live : 0 < c.state = grind (arith, nat_tests) in
    record { left = x.0; right = x.1; top = y.0; bottom = y.1; state = state.1; live = live }

-- each cell's column is no less
abbrev pub AllRight : ℤ → List Cell → Type 0
AllRight left [] = Unit {0}
AllRight left (c ∷ cells) = (left ≤ℤ c.x) × AllRight left cells

AllRight-less : (low left : ℤ) (cells : List Cell) → low ≤ℤ left → AllRight left cells → AllRight low cells
AllRight-less low left [] h a = tt
AllRight-less low left (c ∷ cells) h a = (omega (arith, ints, h, a.0), AllRight-less low left cells h a.1)

min-left : (a b : ℤ) → int_min a b ≤ℤ a
min-left a b = grind (arith, ints)

min-right : (a b : ℤ) → int_min a b ≤ℤ b
min-right a b = grind (arith, ints)

-- the box's left
pub box-left : (c : Cell) (cells : List Cell) → AllRight (box_of c cells).left (c ∷ cells)
box-left c [] = (grind (arith, ints), tt)
box-left c (d ∷ cells) =
    let rest = (box_of d cells).left in
    (min-left c.x rest, AllRight-less (int_min c.x rest) rest (d ∷ cells) (min-right c.x rest) (box-left d cells))

rises-cases : (a b : Cell) → rises a b ≡ true → (a.y <ℤ b.y) ⊎ ((a.y ≡ b.y) × (a.x <ℤ b.x))
rises-cases a b h =
    elim (int_lt a.y b.y) as (λ t. int_lt a.y b.y ≡ t → (t || (int_eq a.y b.y && int_lt a.x b.x)) ≡ true → (a.y <ℤ b.y) ⊎ ((a.y ≡ b.y) × (a.x <ℤ b.x))) [
      | true ↦ λ e k. inl (grind (arith, ints))
      | false ↦ λ e k. let parts = and_parts (int_eq a.y b.y) (int_lt a.x b.x) k in let same = parts.0 in let less = parts.1 in
          inr (grind (arith, ints), grind (arith, ints))
    ] refl h

min-first : (a b : ℤ) → a ≤ℤ b → int_min a b ≡ a
min-first a b h = grind (arith, ints)

-- the box's top
pub box-top : (rule : Rule) (c : Cell) (cells : List Cell) → are_sorted_cells MAX_LEVEL rule (c ∷ cells) ≡ true → (box_of c cells).top ≡ c.y
box-top rule c [] h = refl
box-top rule c (d ∷ cells) h =
    let parts = and_parts (is_live_cell MAX_LEVEL rule c && rises c d) (are_sorted_cells MAX_LEVEL rule (d ∷ cells)) h in
    let up = rises-cases c d (and_parts (is_live_cell MAX_LEVEL rule c) (rises c d) parts.0).1 in
    let less : c.y ≤ℤ d.y = elim up as (λ _. c.y ≤ℤ d.y) [ inl h ↦ omega (arith, ints, h) | inr h ↦ omega (arith, ints, h.0) ] in
    ap (int_min c.y) (box-top rule d cells parts.1) ∙ min-first c.y d.y less

first-live : (rule : Rule) (c : Cell) (cells : List Cell) → are_sorted_cells MAX_LEVEL rule (c ∷ cells) ≡ true → is_live_cell MAX_LEVEL rule c ≡ true
first-live rule c [] h = h
first-live rule c (d ∷ cells) h
    = (and_parts (is_live_cell MAX_LEVEL rule c) (rises c d)
    (and_parts (is_live_cell MAX_LEVEL rule c && rises c d) (are_sorted_cells MAX_LEVEL rule (d ∷ cells)) h).0).0

-- sorted cells follow their first
Follow-rest : (rule : Rule) (left : ℤ) (c : Cell) (cells : List Cell) → are_sorted_cells MAX_LEVEL rule (c ∷ cells) ≡ true → AllRight left (c ∷ cells)
    → Follow rule left (c.x +ℤ pos 1) c.y cells
Follow-rest rule left c [] h a = tt
Follow-rest rule left c (d ∷ cells) h a =
    let parts = and_parts (is_live_cell MAX_LEVEL rule c && rises c d) (are_sorted_cells MAX_LEVEL rule (d ∷ cells)) h in
    let up = rises-cases c d (and_parts (is_live_cell MAX_LEVEL rule c) (rises c d) parts.0).1 in (
      live-good rule d (first-live rule d cells parts.1),
      elim up as (λ _. ((d.y ≡ c.y) × ((c.x +ℤ pos 1) ≤ℤ d.x)) ⊎ ((c.y <ℤ d.y) × (left ≤ℤ d.x)))
          [ inl u ↦ inr (u, a.1.0) | inr u ↦ inl (sym u.0, omega (arith, ints, u.1)) ],
      Follow-rest rule left d cells parts.1 a.1,
    )

-- sorted cells follow the corner of their box
pub sorted-Follow : (rule : Rule) (c : Cell) (cells : List Cell) → are_sorted_cells MAX_LEVEL rule (c ∷ cells) ≡ true
    → Follow rule (box_of c cells).left (box_of c cells).left (box_of c cells).top (c ∷ cells)
sorted-Follow rule c cells h =
    let right = box-left c cells in
    (live-good rule c (first-live rule c cells h), inl (sym (box-top rule c cells h), right.0), Follow-rest rule (box_of c cells).left c cells h right)

-- a cell and a box of the plane lie in a box of the plane
IsInPlane-joined : (rule : Rule) (c : Cell) (box : Bounds) → IsGoodCell rule c → IsInPlane box → IsInPlane (box_around (box_of_cell c) box)
IsInPlane-joined rule c box g b =
    let gl = g.left in let gr = g.right in let gt = g.top in let gb = g.bottom in
    let bl = b.left in let br = b.right in let bt = b.top in let bb = b.bottom in
    record {
      left = grind (arith, ints);
      wide = least-most c.x box.left box.right b.wide;
      right = grind (arith, ints);
      top = grind (arith, ints);
      high = least-most c.y box.top box.bottom b.high;
      bottom = grind (arith, ints);
    }
  where
    least-most : (z low high : ℤ) → low ≤ℤ high → int_min z low ≤ℤ int_max z high
    least-most z low high h = grind (arith, ints)

IsInPlane-cell : (rule : Rule) (c : Cell) → IsGoodCell rule c → IsInPlane (box_of_cell c)
IsInPlane-cell rule c g = record { left = g.left; wide = grind (arith, ints); right = g.right; top = g.top; high = grind (arith, ints); bottom = g.bottom }

-- the box of sorted cells
pub sorted-IsInPlane : (rule : Rule) (c : Cell) (cells : List Cell) → are_sorted_cells MAX_LEVEL rule (c ∷ cells) ≡ true → IsInPlane (box_of c cells)
sorted-IsInPlane rule c [] h = IsInPlane-cell rule c (live-good rule c h)
sorted-IsInPlane rule c (d ∷ cells) h =
    let parts = and_parts (is_live_cell MAX_LEVEL rule c && rises c d) (are_sorted_cells MAX_LEVEL rule (d ∷ cells)) h in
    IsInPlane-joined rule c (box_of d cells) (live-good rule c (first-live rule c (d ∷ cells) h)) (sorted-IsInPlane rule d cells parts.1)
