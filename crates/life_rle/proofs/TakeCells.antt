-- A cell joins the run before it, or ends it.
use Rattle.std.proofs.Common.{◌≡◌, ℕ, zero, suc, ◌+◌, ◌<◌, ◌⊎◌, inl, inr, Bool, true, false, cond, ◌&&◌, List, [], ◌∷◌, ◌++◌, refl, sym, ap, ◌∙◌, subst, arith, eqb, ℤ, pos, ◌+ℤ◌, ◌-ℤ◌, ◌≤ℤ◌, ◌<ℤ◌, FitsSigned, w64, nat_abs, to_z, of_z}
use Rattle.std.specs.Ordering.{int_eq}
use Rattle.std.proofs.lemmas.Int.{ints, to_z-of_z}
use Rattle.std.proofs.lemmas.Bool.Decides.{nat_tests}
use Rattle.life_base.specs.declared.cell.Cell.{Cell}
use Rattle.life_rle.specs.declared.item.Item.{Item}
use Rattle.life_rle.specs.declared.item.Item.TheVariants.{Cells, RowEnds}
use Rattle.life_rle.specs.Written.{with_gap, with_cells, way_to, items_from}
use Rattle.life_base.specs.declared.rule.Rule.{Rule}
use Rattle.life_base.specs.declared.bounds.Bounds.{Bounds}
use Rattle.life_rle.specs.declared.pen.Pen.{Pen}
use Rattle.life_rle.specs.declared.wrapping.ItemLines.{ItemLines}
use Rattle.life_rle.specs.Writer.{run_of, longer_run, column_after_run, item_of, continues_run, items_text, text_with, pen_text, PutsItems, IsLiveRun, IsPen, IsGoodCell, IsAhead, Follow, WritesCell}
use Rattle.life_rle.proofs.PutItems.{Puts-then}
use Rattle.life_base.proofs.Basics.{eq-int_eq}

-- how far apart two coordinates are that were passed as words of the machine
pub distance_is : (n : ℕ) (from to : ℤ) → FitsSigned w64 from → FitsSigned w64 to
    → n ≡ nat_abs (to_z w64 (of_z w64 to) -ℤ to_z w64 (of_z w64 from)) → n ≡ nat_abs (to -ℤ from)
distance_is n from to f t e = simp to_z-of_z at e

eqb-same : (n : ℕ) → eqb n n ≡ true
eqb-same n = grind (arith, nat_tests)

more-cells : (n m : ℕ) → n + (1 + m) ≡ (n + 1) + m
more-cells n m = omega arith

-- a cell of the run's state after it
with_cells-same : (n s : ℕ) (items : List Item) → with_cells n s (with_cells 1 s items) ≡ with_cells (n + 1) s items
with_cells-same n s [] = ap (λ t. cond t (Cells (n + 1) s ∷ []) (Cells n s ∷ Cells 1 s ∷ [])) (eqb-same s)
with_cells-same n s (RowEnds k ∷ items) = ap (λ t. cond t (Cells (n + 1) s ∷ RowEnds k ∷ items) (Cells n s ∷ Cells 1 s ∷ RowEnds k ∷ items)) (eqb-same s)
with_cells-same n s (Cells m t ∷ items) =
    elim (eqb s t) as (λ same. with_cells n s (cond same (Cells (1 + m) s ∷ items) (Cells 1 s ∷ Cells m t ∷ items)) ≡ cond same (Cells ((n + 1) + m) s ∷ items)
    (Cells (n + 1) s ∷ Cells m t ∷ items)) [
      | true ↦ ap (λ c. cond c (Cells (n + (1 + m)) s ∷ items) (Cells n s ∷ Cells (1 + m) s ∷ items)) (eqb-same s)
          ∙ ap (λ k. Cells k s ∷ items) (more-cells n m)
      | false ↦ ap (λ c. cond c (Cells (n + 1) s ∷ Cells m t ∷ items) (Cells n s ∷ Cells 1 s ∷ Cells m t ∷ items)) (eqb-same s)
    ]

-- a cell of another state after it
with_cells-other : (n s t : ℕ) (items : List Item) → eqb s t ≡ false → with_cells n s (with_cells 1 t items) ≡ Cells n s ∷ with_cells 1 t items
with_cells-other n s t [] e = ap (λ c. cond c (Cells (n + 1) s ∷ []) (Cells n s ∷ Cells 1 t ∷ [])) e
with_cells-other n s t (RowEnds k ∷ items) e = ap (λ c. cond c (Cells (n + 1) s ∷ RowEnds k ∷ items) (Cells n s ∷ Cells 1 t ∷ RowEnds k ∷ items)) e
with_cells-other n s t (Cells m u ∷ items) e =
    elim (eqb t u) as (λ same. with_cells n s (cond same (Cells (1 + m) t ∷ items) (Cells 1 t ∷ Cells m u ∷ items))
    ≡ Cells n s ∷ cond same (Cells (1 + m) t ∷ items) (Cells 1 t ∷ Cells m u ∷ items)) [
      | true ↦ ap (λ c. cond c (Cells (n + (1 + m)) s ∷ items) (Cells n s ∷ Cells (1 + m) t ∷ items)) e
      | false ↦ ap (λ c. cond c (Cells (n + 1) s ∷ Cells m u ∷ items) (Cells n s ∷ Cells 1 t ∷ Cells m u ∷ items)) e
    ]

-- dead cells after a run of live ones
with_cells-gap : (n s k : ℕ) (items : List Item) → 0 < s → 0 < k → with_cells n s (with_gap k items) ≡ Cells n s ∷ with_gap k items
with_cells-gap n s zero items live some = absurd (omega arith)
with_cells-gap n s (suc k) items live some = let e : eqb s 0 ≡ false = grind (arith, nat_tests) in
    ap (λ c. cond c (Cells (n + suc k) s ∷ items) (Cells n s ∷ Cells (suc k) 0 ∷ items)) e

pub with_gap-append : (n : ℕ) (items : List Item) → with_gap n items ≡ with_gap n [] ++ items
with_gap-append zero items = refl
with_gap-append (suc n) items = refl

-- the items from a place on, by whether the next cell stands in its row
abbrev stepped : Bool → ℤ → ℤ → ℤ → Cell → List Item → List Item
stepped same left x y c items = cond same (with_gap (nat_abs (c.x -ℤ x)) items) (RowEnds (nat_abs (c.y -ℤ y)) ∷ with_gap (nat_abs (c.x -ℤ left)) items)

no_gap : (a b : ℤ) → a ≡ b → nat_abs (a -ℤ b) ≡ 0
no_gap a b e = grind (arith, ints)

three : (a b c : Bool) → ((a && b) && c) ≡ true → (a ≡ true) × (b ≡ true) × (c ≡ true)
three true true c h = (refl, refl, h)
three true false c h = cc
three false b c h = cc

-- the next cell goes on with the run
pub cell-joins : (n s : ℕ) (left x y : ℤ) (c : Cell) (cells : List Cell) → ((int_eq c.y y && int_eq c.x x) && eqb c.state s) ≡ true
    → with_cells n s (items_from left x y (c ∷ cells)) ≡ with_cells (n + 1) s (items_from left (x +ℤ pos 1) y cells)
cell-joins n s left x y c cells h =
    let parts = three (int_eq c.y y) (int_eq c.x x) (eqb c.state s) h in
    let h1 = parts.1 in let h2 = parts.2 in let h0 = parts.0 in
    let column : c.x ≡ x = grind (arith, ints) in
    let row : c.y ≡ y = grind (arith, ints) in
    let state : c.state ≡ s = grind (arith, nat_tests) in
    ap (λ t. with_cells n s (stepped t left x y c (with_cells 1 c.state (items_from left (c.x +ℤ pos 1) c.y cells)))) parts.0
    ∙ ap (λ k. with_cells n s (with_gap k (with_cells 1 c.state (items_from left (c.x +ℤ pos 1) c.y cells)))) (no_gap c.x x column)
    ∙ ap (λ t. with_cells n s (with_cells 1 t (items_from left (c.x +ℤ pos 1) c.y cells))) state
    ∙ with_cells-same n s (items_from left (c.x +ℤ pos 1) c.y cells)
    ∙ ap (λ z. with_cells (n + 1) s (items_from left (z +ℤ pos 1) c.y cells)) column
    ∙ ap (λ z. with_cells (n + 1) s (items_from left (x +ℤ pos 1) z cells)) row

-- in the run's row
in_row : (n s : ℕ) (left x y : ℤ) (c : Cell) (items : List Item) → 0 < s → int_eq c.y y ≡ true → x ≤ℤ c.x → (int_eq c.x x && eqb c.state s) ≡ false
    → with_cells n s (with_gap (nat_abs (c.x -ℤ x)) (with_cells 1 c.state items)) ≡ Cells n s ∷ with_gap (nat_abs (c.x -ℤ x)) (with_cells 1 c.state items)
in_row n s left x y c items live row near apart =
    elim (int_eq c.x x) as (λ t. int_eq c.x x ≡ t → (t && eqb c.state s) ≡ false → with_cells n s (with_gap (nat_abs (c.x -ℤ x)) (with_cells 1 c.state items))
    ≡ Cells n s ∷ with_gap (nat_abs (c.x -ℤ x)) (with_cells 1 c.state items)) [
      | true ↦ λ e f.
          let column : c.x ≡ x = grind (arith, ints) in
          let other : eqb s c.state ≡ false = grind (arith, nat_tests) in
          ap (λ k. with_cells n s (with_gap k (with_cells 1 c.state items))) (no_gap c.x x column)
          ∙ with_cells-other n s c.state items other
          ∙ ap (λ k. Cells n s ∷ with_gap k (with_cells 1 c.state items)) (sym (no_gap c.x x column))
      | false ↦ λ e f.
          let some : 0 < nat_abs (c.x -ℤ x) = grind (arith, ints) in
          with_cells-gap n s (nat_abs (c.x -ℤ x)) (with_cells 1 c.state items) live some
    ] refl apart

-- the next cell ends the run
pub cell-ends : (n s : ℕ) (left x y : ℤ) (c : Cell) (cells : List Cell) → 0 < s → ((c.y ≡ y) × (x ≤ℤ c.x)) ⊎ ((y <ℤ c.y) × (left ≤ℤ c.x))
    → ((int_eq c.y y && int_eq c.x x) && eqb c.state s) ≡ false
    → with_cells n s (items_from left x y (c ∷ cells)) ≡ Cells n s ∷ (way_to left x y c [] ++ with_cells 1 c.state (items_from left (c.x +ℤ pos 1) c.y cells))
cell-ends n s left x y c cells live ahead apart =
    let items = items_from left (c.x +ℤ pos 1) c.y cells in
    elim ahead as (λ _. with_cells n s (items_from left x y (c ∷ cells)) ≡ Cells n s ∷ (way_to left x y c [] ++ with_cells 1 c.state items)) [
      | inl h ↦
          let on = eq-int_eq c.y y h.0 in
          let rest : (int_eq c.x x && eqb c.state s) ≡ false = sym (ap (λ t. (t && int_eq c.x x) && eqb c.state s) on) ∙ apart in
          ap (λ t. with_cells n s (stepped t left x y c (with_cells 1 c.state items))) on
          ∙ in_row n s left x y c items live on h.1 rest
          ∙ ap (λ is. Cells n s ∷ is) (with_gap-append (nat_abs (c.x -ℤ x)) (with_cells 1 c.state items))
          ∙ ap (λ t. Cells n s ∷ (stepped t left x y c [] ++ with_cells 1 c.state items)) (sym on)
      | inr h ↦
          let off : int_eq c.y y ≡ false = let below = h.0 in grind (arith, ints) in
          ap (λ t. with_cells n s (stepped t left x y c (with_cells 1 c.state items))) off
          ∙ ap (λ is. Cells n s ∷ RowEnds (nat_abs (c.y -ℤ y)) ∷ is)
          (with_gap-append (nat_abs (c.x -ℤ left)) (with_cells 1 c.state items))
          ∙ ap (λ t. Cells n s ∷ (stepped t left x y c [] ++ with_cells 1 c.state items)) (sym off)
    ]

-- ---- the steps of the writer

-- the column after a longer run
column-longer : (x : ℤ) (n : ℕ) → (x +ℤ pos (n + 1)) ≡ ((x +ℤ pos n) +ℤ pos 1)
column-longer x n = omega (arith, ints)

pub take-longer : (rule : Rule) (pen : Pen) (cell : Cell) → IsPen pen → IsGoodCell rule cell → continues_run pen.run cell ≡ true
    → WritesCell rule pen cell (record { lines = pen.lines; left = pen.left; run = longer_run pen.run })
take-longer rule pen cell p good h =
    let run = pen.run in
    let parts = three (int_eq cell.y run.y) (int_eq cell.x (column_after_run run)) (eqb cell.state run.state) h in
    let h0 = parts.0 in let h1 = parts.1 in
    let column : cell.x ≡ column_after_run run = grind (arith, ints) in
    let row : run.y ≡ cell.y = grind (arith, ints) in
    let behind : column_after_run (longer_run run) ≡ (column_after_run run +ℤ pos 1) = column-longer run.x run.len in
    let inside = good.right in
    record {
      sound = record {
        short = p.short;
        left = p.left;
        run = record { left = p.run.left; right = omega (arith, ints, column, inside); top = p.run.top; bottom = p.run.bottom; live = p.run.live };
      };
      place = (refl, behind ∙ ap (λ z. z +ℤ pos 1) (sym column), row);
      text = λ cells.
          ap (λ x. text_with rule pen.lines (with_cells (run.len + 1) run.state (items_from pen.left x run.y cells))) behind
          ∙ ap (λ items. text_with rule pen.lines items) (sym (cell-joins run.len run.state pen.left (column_after_run run) run.y cell cells h));
    }

-- one cell
live-cell : (rule : Rule) (cell : Cell) → IsGoodCell rule cell → IsLiveRun (run_of cell)
live-cell rule cell good =
    let right = good.right in
    record { left = good.left; right = omega (arith, ints, right); top = good.top; bottom = good.bottom; live = good.live }

pub take-ended : (rule : Rule) (pen : Pen) (cell : Cell) (new : ItemLines) → IsPen pen → IsGoodCell rule cell
    → IsAhead pen.left (column_after_run pen.run) pen.run.y cell → continues_run pen.run cell ≡ false
    → PutsItems rule pen.lines (item_of pen.run ∷ way_to pen.left (column_after_run pen.run) pen.run.y cell []) new
    → WritesCell rule pen cell (record { lines = new; left = pen.left; run = run_of cell })
take-ended rule pen cell new p good ahead h both =
    let run = pen.run in
    let x = column_after_run run in
    record {
      sound = record { short = both.short; left = p.left; run = live-cell rule cell good };
      place = (refl, refl, refl);
      text = λ cells.
          both.text (with_cells 1 cell.state (items_from pen.left (cell.x +ℤ pos 1) cell.y cells))
          ∙ ap (λ items. text_with rule pen.lines items) (sym (cell-ends run.len run.state pen.left x run.y cell cells p.run.live ahead h));
    }

-- the way along a row
pub way-along : (left x y : ℤ) (cell : Cell) (rows gap : ℕ) → rows ≡ nat_abs (cell.y -ℤ y) → rows ≡ 0 → gap ≡ nat_abs (cell.x -ℤ x)
    → with_gap gap [] ≡ way_to left x y cell []
way-along left x y cell rows gap e none g =
    let on : int_eq cell.y y ≡ true = grind (arith, ints) in
    ap (λ n. with_gap n []) g ∙ sym (ap (λ t. stepped t left x y cell []) on)

-- the way to a later row
pub way-down : (rule : Rule) (left x y : ℤ) (cell : Cell) (rows gap : ℕ) (old middle new : ItemLines) → rows ≡ nat_abs (cell.y -ℤ y) → (rows ≡ 0 → ⊥)
    → gap ≡ nat_abs (cell.x -ℤ left) → PutsItems rule old (RowEnds rows ∷ []) middle → PutsItems rule middle (with_gap gap []) new
    → PutsItems rule old (way_to left x y cell []) new
way-down rule left x y cell rows gap old middle new e some g p q =
    let off : int_eq cell.y y ≡ false = grind (arith, ints) in
    let items : RowEnds rows ∷ with_gap gap [] ≡ way_to left x y cell [] =
    ap (λ n. RowEnds n ∷ with_gap gap []) e ∙ ap (λ n. RowEnds (nat_abs (cell.y -ℤ y)) ∷ with_gap n []) g ∙ sym (ap (λ t. stepped t left x y cell []) off) in
    subst (λ is. PutsItems rule old is new) items (Puts-then rule (RowEnds rows ∷ []) (with_gap gap []) old middle new p q)

-- what was written is the text of the cells but for these
pub record WritesUpTo (rule : Rule) (whole : List ℕ) (pen : Pen) (cells : List Cell) : Type 0 where
  pub sound : IsPen pen
  pub follow : Follow rule pen.left (column_after_run pen.run) pen.run.y cells
  pub text : pen_text rule pen cells ≡ whole

-- the first cell, and all after it
pub from-first : (rule : Rule) (bounds : Bounds) (first : Cell) (cells : List Cell) (text : List ℕ) (gap : ℕ) (old new : ItemLines) → bounds.top ≡ first.y
    → gap ≡ nat_abs (first.x -ℤ bounds.left) → old.text.items ≡ text → old.used ≡ 0 → PutsItems rule old (with_gap gap []) new
    → pen_text rule (record { lines = new; left = bounds.left; run = run_of first }) cells
    ≡ text ++ items_text rule 0 (items_from bounds.left bounds.left bounds.top (first ∷ cells))
from-first rule bounds first cells text gap old new top g t u p =
    let left = bounds.left in
    let items = items_from left (first.x +ℤ pos 1) first.y cells in
    let on : int_eq first.y bounds.top ≡ true = eq-int_eq first.y bounds.top (sym top) in
    p.text (with_cells 1 first.state items)
    ∙ ap (λ bytes. bytes ++ items_text rule old.used (with_gap gap [] ++ with_cells 1 first.state items)) t
    ∙ ap (λ used. text ++ items_text rule used (with_gap gap [] ++ with_cells 1 first.state items)) u
    ∙ ap (λ is. text ++ items_text rule 0 is)
    (sym (ap (λ t. stepped t left left bounds.top first (with_cells 1 first.state items)) on
    ∙ ap (λ n. with_gap n (with_cells 1 first.state items)) (sym g)
    ∙ with_gap-append gap (with_cells 1 first.state items)))
