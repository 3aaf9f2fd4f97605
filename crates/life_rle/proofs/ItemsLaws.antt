-- No two items of a file cover one pair, each covers pairs of the plane alone, and the cells of the file are what they say.
use Rattle.std.proofs.Common.{◌≡◌, ℕ, zero, suc, ◌≤◌, ◌⊎◌, inl, inr, Bool, true, false, cond, ◌&&◌, List, [], ◌∷◌, refl, sym, ap, ◌∙◌, subst, Some, ℤ, pos, neg_ℤ, ◌+ℤ◌, ◌≤ℤ◌, ◌<ℤ◌, arith, int_lt, int_le}
use Rattle.std.specs.Ordering.{int_eq}
use Rattle.std.specs.List.{slice_get}
use Rattle.std.proofs.lemmas.Int.{ints}
use Rattle.life_base.specs.declared.rule.Rule.{Rule}
use Rattle.life_rle.specs.declared.item.Item.{Item}
use Rattle.life_rle.specs.declared.item.Item.TheVariants.{Cells, RowEnds}
use Rattle.life_rle.specs.Plane.{rle_plane_end, is_coordinate}
use Rattle.life_rle.specs.Pattern.{PlacedItem, placed_items, item_covers, item_state, cell_among}
use Rattle.life_rle.specs.ItemsLaw.{ItemsAreCells}
use Rattle.life_rle.proofs.Places.{placed_from}
use Rattle.life_rle.proofs.RunsLaws.{Good, file-Good, placed-from, IsRle-plane, low-side}
use Rattle.life_rle.proofs.RowLimits.{further}

-- the pair doesn't stand before a place
abbrev NotBefore : ℤ → ℤ → ℤ → ℤ → Type 0
NotBefore column row x y = (row <ℤ y) ⊎ ((row ≡ y) × (column ≤ℤ x))

-- a pair among these columns of a row
abbrev among : ℤ → ℤ → ℕ → ℤ → ℤ → Bool
among row column n x y = int_eq y row && (int_le column x && int_lt x (column +ℤ pos n))

among-place : (row column x y : ℤ) (n : ℕ) → among row column n x y ≡ true → (row ≡ y) × (column ≤ℤ x) × (x <ℤ (column +ℤ pos n))
among-place row column x y n e = (grind (arith, ints), grind (arith, ints), grind (arith, ints))

same : {p q : PlacedItem} → Some p ≡ Some q → p ≡ q
same e = cc

-- what the first of some items covers, if it is this one
first-covers : (r p : PlacedItem) (x y : ℤ) → Some r ≡ Some p → item_covers p x y ≡ true → item_covers r x y ≡ true
first-covers r p x y e h = subst (λ (q : PlacedItem). item_covers q x y ≡ true) (sym (same e)) h

later : (column row x y : ℤ) (n : ℕ) → NotBefore (column +ℤ pos n) row x y → NotBefore column row x y
later column row x y n (inl h) = inl h
later column row x y n (inr h) = inr (h.0, omega (arith, ints, h.1))

lower : (left row x y : ℤ) (n : ℕ) → 1 ≤ n → NotBefore left (row +ℤ pos n) x y → row <ℤ y
lower left row x y n s (inl h) = omega (arith, ints, h, s)
lower left row x y n s (inr h) = omega (arith, ints, h.0, s)

no : {X : Type 0} → false ≡ true → X
no e = cc

-- what an item from a place on covers doesn't stand before the place
covers-place : (level : ℕ) (rule : Rule) (left column row : ℤ) (items : List Item) (i : ℕ) (p : PlacedItem) (x y : ℤ) → Good level rule left column row items
    → slice_get (placed_from left column row items) i ≡ Some p → item_covers p x y ≡ true → NotBefore column row x y
covers-place level rule left column row [] i p x y g e h = cc
covers-place level rule left column row (Cells n s ∷ items) zero p x y g e h =
    let k = among-place row column x y n (first-covers (record { row = row; column = column; item = Cells n s }) p x y e h) in inr (k.0, k.1)
covers-place level rule left column row (Cells n s ∷ items) (suc i) p x y g e h =
    later column row x y n (covers-place level rule left (column +ℤ pos n) row items i p x y g.4 e h)
covers-place level rule left column row (RowEnds n ∷ items) zero p x y g e h =
    no (first-covers (record { row = row; column = column; item = RowEnds n }) p x y e h)
covers-place level rule left column row (RowEnds n ∷ items) (suc i) p x y g e h =
    inl (lower left row x y n g.0 (covers-place level rule left left (row +ℤ pos n) items i p x y g.1 e h))

-- so no pair of an item is one of an item after it
not_twice : (row column x y : ℤ) (n : ℕ) → among row column n x y ≡ true → NotBefore (column +ℤ pos n) row x y → ⊥
not_twice row column x y n h (inl k) = let a = among-place row column x y n h in omega (arith, ints, a.0, k)
not_twice row column x y n h (inr k) = let a = among-place row column x y n h in omega (arith, ints, a.2, k.1)

first-alone : (level : ℕ) (rule : Rule) (left column row : ℤ) (item : Item) (items : List Item) (j : ℕ) (p q : PlacedItem) (x y : ℤ)
    → Good level rule left column row (item ∷ items)
    → slice_get (placed_from left column row (item ∷ items)) zero ≡ Some p → slice_get (placed_from left column row (item ∷ items)) (suc j) ≡ Some q
    → item_covers p x y ≡ true → item_covers q x y ≡ true → ⊥
first-alone level rule left column row (Cells n s) items j p q x y g e f h k =
    not_twice row column x y n (first-covers (record { row = row; column = column; item = Cells n s }) p x y e h)
    (covers-place level rule left (column +ℤ pos n) row items j q x y g.4 f k)
first-alone level rule left column row (RowEnds n) items j p q x y g e f h k = no
    (first-covers (record { row = row; column = column; item = RowEnds n }) p x y e h)

apart-from : (level : ℕ) (rule : Rule) (left column row : ℤ) (items : List Item) (i j : ℕ) (p q : PlacedItem) (x y : ℤ) → Good level rule left column row items
    → slice_get (placed_from left column row items) i ≡ Some p → slice_get (placed_from left column row items) j ≡ Some q
    → item_covers p x y ≡ true → item_covers q x y ≡ true → i ≡ j
apart-from level rule left column row [] i j p q x y g e f h k = cc
apart-from level rule left column row (item ∷ items) zero zero p q x y g e f h k = refl
apart-from level rule left column row (item ∷ items) zero (suc j) p q x y g e f h k = absurd
    (first-alone level rule left column row item items j p q x y g e f h k)
apart-from level rule left column row (item ∷ items) (suc i) zero p q x y g e f h k = absurd
    (first-alone level rule left column row item items i q p x y g f e k h)
apart-from level rule left column row (Cells n s ∷ items) (suc i) (suc j) p q x y g e f h k = ap suc
    (apart-from level rule left (column +ℤ pos n) row items i j p q x y g.4 e f h k)
apart-from level rule left column row (RowEnds n ∷ items) (suc i) (suc j) p q x y g e f h k = ap suc
    (apart-from level rule left left (row +ℤ pos n) items i j p q x y g.1 e f h k)

coordinate : (e z : ℤ) → neg_ℤ e ≤ℤ z → z <ℤ e → (int_le (neg_ℤ e) z && int_lt z e) ≡ true
coordinate e z h k = grind (arith, ints)

-- the pairs of an item lie in the plane
inside-from : (level : ℕ) (rule : Rule) (left column row : ℤ) (items : List Item) (i : ℕ) (p : PlacedItem) (x y : ℤ)
    → neg_ℤ (rle_plane_end level) ≤ℤ left → neg_ℤ (rle_plane_end level) ≤ℤ column → neg_ℤ (rle_plane_end level) ≤ℤ row → Good level rule left column row items
    → slice_get (placed_from left column row items) i ≡ Some p → item_covers p x y ≡ true → (is_coordinate level x ≡ true) × (is_coordinate level y ≡ true)
inside-from level rule left column row [] i p x y a b c g e h = cc
inside-from level rule left column row (Cells n s ∷ items) zero p x y a b c g e h =
    let k = among-place row column x y n (first-covers (record { row = row; column = column; item = Cells n s }) p x y e h) in
    let low : neg_ℤ (rle_plane_end level) ≤ℤ x = omega (arith, ints, b, k.1) in
    let high : x <ℤ rle_plane_end level = omega (arith, ints, k.2, g.3) in
    (coordinate (rle_plane_end level) x low high, subst (λ z. is_coordinate level z ≡ true) k.0 (coordinate (rle_plane_end level) row c g.2))
inside-from level rule left column row (Cells n s ∷ items) (suc i) p x y a b c g e h =
    inside-from level rule left (column +ℤ pos n) row items i p x y a (further (neg_ℤ (rle_plane_end level)) column n b) c g.4 e h
inside-from level rule left column row (RowEnds n ∷ items) zero p x y a b c g e h =
    no (first-covers (record { row = row; column = column; item = RowEnds n }) p x y e h)
inside-from level rule left column row (RowEnds n ∷ items) (suc i) p x y a b c g e h =
    inside-from level rule left left (row +ℤ pos n) items i p x y a a (further (neg_ℤ (rle_plane_end level)) row n c) g.1 e h

-- a pair has the state of its item
covered-from : (level : ℕ) (rule : Rule) (left column row : ℤ) (items : List Item) (i : ℕ) (p : PlacedItem) (x y : ℤ) → Good level rule left column row items
    → slice_get (placed_from left column row items) i ≡ Some p → item_covers p x y ≡ true → cell_among (placed_from left column row items) x y
    ≡ item_state p.item
covered-from level rule left column row [] i p x y g e h = cc
covered-from level rule left column row (Cells n s ∷ items) zero p x y g e h =
    let here : PlacedItem = record { row = row; column = column; item = Cells n s } in
    ap (λ t. cond t s (cell_among (placed_from left (column +ℤ pos n) row items) x y)) (first-covers here p x y e h)
    ∙ ap (λ (q : PlacedItem). item_state q.item) (same e)
covered-from level rule left column row (Cells n s ∷ items) (suc i) p x y g e h =
    let rest = cell_among (placed_from left (column +ℤ pos n) row items) x y in
    elim (among row column n x y) as (λ t. among row column n x y ≡ t → cond t s rest ≡ item_state p.item) [
      | true ↦ λ k. absurd (not_twice row column x y n k (covers-place level rule left (column +ℤ pos n) row items i p x y g.4 e h))
      | false ↦ λ _. covered-from level rule left (column +ℤ pos n) row items i p x y g.4 e h
    ] refl
covered-from level rule left column row (RowEnds n ∷ items) zero p x y g e h =
    no (first-covers (record { row = row; column = column; item = RowEnds n }) p x y e h)
covered-from level rule left column row (RowEnds n ∷ items) (suc i) p x y g e h = covered-from level rule left left (row +ℤ pos n) items i p x y g.1 e h

-- and 0 without one
bare-among : (ps : List PlacedItem) (x y : ℤ) → ((i : ℕ) (p : PlacedItem) → slice_get ps i ≡ Some p → item_covers p x y ≡ false) → cell_among ps x y ≡ 0
bare-among [] x y h = refl
bare-among (p ∷ ps) x y h =
    ap (λ t. cond t (item_state p.item) (cell_among ps x y)) (h zero p refl) ∙ bare-among ps x y (λ i q e. h (suc i) q e)

pub items_are_cells : ItemsAreCells
items_are_cells level lines file r =
    let o = file.position in
    let good = file-Good level lines file r in
    let plane = IsRle-plane level lines file r in
    let left = low-side (rle_plane_end level) o.x plane.0 in
    let top = low-side (rle_plane_end level) o.y plane.1 in
    let from : placed_items file ≡ placed_from o.x o.x o.y file.items = placed-from file in
    let at : (i : ℕ) (p : PlacedItem) → slice_get (placed_items file) i ≡ Some p → slice_get (placed_from o.x o.x o.y file.items) i ≡ Some p =
    λ i p e. ap (λ (ps : List PlacedItem). slice_get ps i) (sym from) ∙ e in
    record {
      apart = λ i j p q x y e f. apart-from level file.rule o.x o.x o.y file.items i j p q x y good (at i p e) (at j q f);
      inside = λ i p x y e. inside-from level file.rule o.x o.x o.y file.items i p x y left left top good (at i p e);
      covered = λ i p x y e h. ap (λ (ps : List PlacedItem). cell_among ps x y) from
          ∙ covered-from level file.rule o.x o.x o.y file.items i p x y good (at i p e)
          h;
      bare = λ x y h. bare-among (placed_items file) x y h;
    }
