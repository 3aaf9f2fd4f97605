-- The items of live cells are the longest runs.
use Rattle.std.proofs.Common.{◌≡◌, ℕ, zero, suc, ◌+◌, ◌≤◌, Bool, true, false, cond, ◌&&◌, List, [], ◌∷◌, ◌++◌, refl, subst, arith, eqb, ltb, ℤ, pos, ◌+ℤ◌, ◌-ℤ◌, nat_abs}
use Rattle.std.specs.Ordering.{int_eq}
use Rattle.std.proofs.lemmas.Int.{ints}
use Rattle.std.proofs.lemmas.Bool.Decides.{nat_tests}
use Rattle.std.proofs.lemmas.Bool.{and_parts, eqb-false}
use Rattle.life_base.specs.declared.cell.Cell.{Cell}
use Rattle.life_base.specs.declared.rule.Rule.{Rule}
use Rattle.life_rle.specs.declared.item.Item.{Item}
use Rattle.life_rle.specs.declared.item.Item.TheVariants.{Cells, RowEnds}
use Rattle.life_rle.specs.Cursor.{item_count}
use Rattle.life_rle.specs.Plane.{is_coordinate}
use Rattle.life_rle.specs.States.{is_state_of}
use Rattle.life_rle.specs.Written.{with_gap, with_cells, items_from, items_of, box_of}
use Rattle.life_rle.specs.Sorted.{is_live_cell, rises, are_sorted_cells}
use Rattle.life_rle.specs.LongestRuns.{IsLive, MayFollow, AreLongest, RunsAreLongest}

-- ---- item by item

abbrev Chain : List Item → Type 0
Chain [] = Unit {0}
Chain (item ∷ []) = (1 ≤ item_count item) × IsLive item
Chain (item ∷ next ∷ items) = (1 ≤ item_count item) × MayFollow item next × Chain (next ∷ items)

chain-some : (before behind : List Item) (item : Item) → Chain (before ++ item ∷ behind) → 1 ≤ item_count item
chain-some [] [] item c = c.0
chain-some [] (next ∷ behind) item c = c.0
chain-some (a ∷ []) behind item c = chain-some [] behind item c.2
chain-some (a ∷ b ∷ before) behind item c = chain-some (b ∷ before) behind item c.2

chain-apart : (before behind : List Item) (item next : Item) → Chain (before ++ item ∷ next ∷ behind) → MayFollow item next
chain-apart [] behind item next c = c.1
chain-apart (a ∷ []) behind item next c = chain-apart [] behind item next c.2
chain-apart (a ∷ b ∷ before) behind item next c = chain-apart (b ∷ before) behind item next c.2

chain-ended : (before : List Item) (last : Item) → Chain (before ++ last ∷ []) → IsLive last
chain-ended [] last c = c.1
chain-ended (a ∷ []) last c = chain-ended [] last c.2
chain-ended (a ∷ b ∷ before) last c = chain-ended (b ∷ before) last c.2

chain-longest : (items : List Item) → Chain items → AreLongest items
chain-longest items c = record {
  some = λ before behind item e. chain-some before behind item (subst Chain e c);
  apart = λ before behind item next e. chain-apart before behind item next (subst Chain e c);
  ended = λ before last e. chain-ended before last (subst Chain e c);
}

-- ---- the items of cells

-- cells of this state at the beginning
abbrev Begins : ℕ → List Item → Type 0
Begins state [] = ⊥
Begins state (Cells count other ∷ items) = other ≡ state
Begins state (RowEnds count ∷ items) = ⊥

abbrev BeginsAs : ℕ → List Item → Type 0
BeginsAs state items = Chain items × Begins state items

-- more cells in a run
longer : (count more state : ℕ) (items : List Item) → 1 ≤ more → Chain (Cells count state ∷ items) → Chain (Cells more state ∷ items)
longer count more state [] h c = (h, c.1)
longer count more state (Cells n other ∷ items) h c = (h, c.1, c.2)
longer count more state (RowEnds n ∷ items) h c = (h, c.1, c.2)

same-state : (a b : ℕ) → eqb a b ≡ true → b ≡ a
same-state a b e = grind (arith, nat_tests)

with_cell-begins : (state : ℕ) (items : List Item) → 1 ≤ state → Chain items → BeginsAs state (with_cells 1 state items)
with_cell-begins state [] live c = ((omega arith, live), refl)
with_cell-begins state (RowEnds n ∷ items) live c = ((omega arith, live, c), refl)
with_cell-begins state (Cells n other ∷ items) live c = by (eqb state other) refl
  where
    by : (b : Bool) → eqb state other ≡ b → BeginsAs state (cond b (Cells (1 + n) state ∷ items) (Cells 1 state ∷ Cells n other ∷ items))
    by true e =
        let P : ℕ → Type 0 = λ s. Chain (Cells n s ∷ items) in
        (longer n (1 + n) state items (omega arith) (subst P (same-state state other e) c), refl)
    by false e = ((omega arith, eqb-false state other e, c), refl)

-- dead cells before live ones
gap-chain : (gap state : ℕ) (items : List Item) → 1 ≤ state → BeginsAs state items → Chain (with_gap gap items)
gap-chain zero state items live b = b.0
gap-chain (suc n) state [] live b = absurd b.1
gap-chain (suc n) state (RowEnds count ∷ items) live b = absurd b.1
gap-chain (suc n) state (Cells count other ∷ items) live b = (omega arith, λ e. omega (arith, b.1, e), b.0)

-- and ends of rows before both
row-chain : (rows gap state : ℕ) (items : List Item) → 1 ≤ rows → 1 ≤ state → BeginsAs state items → Chain (RowEnds rows ∷ with_gap gap items)
row-chain rows zero state [] some live b = absurd b.1
row-chain rows zero state (RowEnds count ∷ items) some live b = absurd b.1
row-chain rows zero state (Cells count other ∷ items) some live b = (some, tt, b.0)
row-chain rows (suc n) state items some live b = (some, tt, gap-chain (suc n) state items live b)

rows-apart : (a b : ℤ) → int_eq a b ≡ false → 1 ≤ nat_abs (a -ℤ b)
rows-apart a b e = grind (arith, ints)

-- each cell is of a nonzero state
abbrev AreLive : List Cell → Type 0
AreLive [] = Unit {0}
AreLive (c ∷ cells) = (1 ≤ c.state) × AreLive cells

items-step : (left x y : ℤ) (c : Cell) (rest : List Item) → 1 ≤ c.state → BeginsAs c.state rest → (b : Bool) → int_eq c.y y ≡ b
    → Chain (cond b (with_gap (nat_abs (c.x -ℤ x)) rest) (RowEnds (nat_abs (c.y -ℤ y)) ∷ with_gap (nat_abs (c.x -ℤ left)) rest))
items-step left x y c rest live begins true e = gap-chain (nat_abs (c.x -ℤ x)) c.state rest live begins
items-step left x y c rest live begins false e = row-chain (nat_abs (c.y -ℤ y)) (nat_abs (c.x -ℤ left)) c.state rest (rows-apart c.y y e) live begins

items-chain : (left x y : ℤ) (cells : List Cell) → AreLive cells → Chain (items_from left x y cells)
items-chain left x y [] l = tt
items-chain left x y (c ∷ cells) l =
    let items : List Item = items_from left (c.x +ℤ pos 1) c.y cells in
    let begins = with_cell-begins c.state items l.0 (items-chain left (c.x +ℤ pos 1) c.y cells l.1) in
    items-step left x y c (with_cells 1 c.state items) l.0 begins (int_eq c.y y) refl

-- ---- sorted cells are live

live-state : (level : ℕ) (rule : Rule) (c : Cell) → is_live_cell level rule c ≡ true → 1 ≤ c.state
live-state level rule c h =
    let parts = and_parts (is_coordinate level c.x && is_coordinate level c.y) (ltb 0 c.state && is_state_of rule c.state) h in
    let some = (and_parts (ltb 0 c.state) (is_state_of rule c.state) parts.1).0 in
    grind (arith, nat_tests)

sorted-live : (level : ℕ) (rule : Rule) (cells : List Cell) → are_sorted_cells level rule cells ≡ true → AreLive cells
sorted-live level rule [] h = tt
sorted-live level rule (c ∷ []) h = (live-state level rule c h, tt)
sorted-live level rule (c ∷ d ∷ cells) h =
    let parts = and_parts (is_live_cell level rule c && rises c d) (are_sorted_cells level rule (d ∷ cells)) h in
    let first = and_parts (is_live_cell level rule c) (rises c d) parts.0 in
    (live-state level rule c first.0, sorted-live level rule (d ∷ cells) parts.1)

pub runs_are_longest : RunsAreLongest
runs_are_longest level rule [] h = chain-longest [] tt
runs_are_longest level rule (c ∷ cells) h =
    let box = box_of c cells in
    chain-longest (items_of (c ∷ cells)) (items-chain box.left box.left box.top (c ∷ cells) (sorted-live level rule (c ∷ cells) h))
