-- The items of sorted cells stand for these cells, and 0 elsewhere.
use Rattle.std.proofs.Common.{◌≡◌, ℕ, zero, suc, ◌+◌, ◌<◌, ◌≤◌, ◌⊎◌, inl, inr, Bool, true, false, cond, ◌&&◌, ◌||◌, List, [], ◌∷◌, refl, sym, ap, ◌∙◌, subst, ℤ, pos, neg_ℤ, ◌+ℤ◌, ◌-ℤ◌, ◌≤ℤ◌, ◌<ℤ◌, arith, eqb, int_lt, int_le, nat_abs}
use Rattle.std.specs.Ordering.{int_eq}
use Rattle.std.proofs.lemmas.Int.{ints}
use Rattle.std.proofs.lemmas.Bool.Decides.{nat_tests}
use Rattle.life_base.specs.declared.cell.Cell.{Cell}
use Rattle.life_base.specs.declared.rule.Rule.{Rule}
use Rattle.life_base.specs.declared.rule.Rule.TheVariants.{Life, Named}
use Rattle.life_rle.specs.declared.item.Item.{Item}
use Rattle.life_rle.specs.declared.item.Item.TheVariants.{Cells, RowEnds}
use Rattle.life_rle.specs.Plane.{rle_plane_end, most_count}
use Rattle.life_rle.specs.Pattern.{cell_among}
use Rattle.life_rle.specs.States.{is_state_of}
use Rattle.life_rle.specs.Written.{with_gap, with_cells, items_from}
use Rattle.life_rle.specs.Sorted.{state_in_cells}
use Rattle.life_rle.specs.Writer.{IsGoodCell, Follow}
use Rattle.life_rle.proofs.Places.{placed_from, cond_zero}
use Rattle.life_base.specs.declared.cell.TheConstants.{MAX_LEVEL}
use Rattle.life_base.proofs.Basics.{eq-int_eq}

-- the state of a pair from items from a place on
abbrev pub state_from : ℤ → ℤ → ℤ → List Item → ℤ → ℤ → ℕ
state_from left column row items x y = cell_among (placed_from left column row items) x y

one_column : (column x : ℤ) → (int_le column x && int_lt x (column +ℤ pos 1)) ≡ int_eq x column
one_column column x = grind (arith, ints)

more_columns : (column x : ℤ) (m : ℕ) → (int_le column x && int_lt x (column +ℤ pos (1 + m)))
    ≡ (int_eq x column || (int_le (column +ℤ pos 1) x && int_lt x ((column +ℤ pos 1) +ℤ pos m)))
more_columns column x m = grind (arith, ints)

-- two runs of one state are one
merged : (row here near far : Bool) (s n : ℕ) → cond (row && (here || (near && far))) s n ≡ cond (row && here) s (cond (row && (near && far)) s n)
merged true true near far s n = refl
merged true false near far s n = refl
merged false here near far s n = refl

-- a cell before items
with_cell-state : (left column row : ℤ) (s : ℕ) (items : List Item) (x y : ℤ) → state_from left column row (with_cells 1 s items) x y
    ≡ cond (int_eq y row && int_eq x column) s (state_from left (column +ℤ pos 1) row items x y)
with_cell-state left column row s [] x y = ap (λ t. cond (int_eq y row && t) s 0) (one_column column x)
with_cell-state left column row s (RowEnds n ∷ items) x y = ap (λ t. cond (int_eq y row && t) s (state_from left left (row +ℤ pos n) items x y))
    (one_column column x)
with_cell-state left column row s (Cells m t ∷ items) x y =
    elim (eqb s t) as (λ same. eqb s t ≡ same → state_from left column row (cond same (Cells (1 + m) s ∷ items) (Cells 1 s ∷ Cells m t ∷ items)) x y
    ≡ cond (int_eq y row && int_eq x column) s (state_from left (column +ℤ pos 1) row (Cells m t ∷ items) x y)) [
      | true ↦ λ e.
          let same : s ≡ t = grind (arith, nat_tests) in
          let far : column +ℤ pos (1 + m) ≡ (column +ℤ pos 1) +ℤ pos m = omega (arith, ints) in
          ap (λ q. cond (int_eq y row && q) s (state_from left (column +ℤ pos (1 + m)) row items x y)) (more_columns column x m)
          ∙ ap (λ c. cond (int_eq y row && (int_eq x column || (int_le (column +ℤ pos 1) x && int_lt x ((column +ℤ pos 1) +ℤ pos m)))) s
          (state_from left c row items x y)) far
          ∙ merged (int_eq y row) (int_eq x column) (int_le (column +ℤ pos 1) x) (int_lt x ((column +ℤ pos 1) +ℤ pos m)) s
          (state_from left ((column +ℤ pos 1) +ℤ pos m) row items x y)
          ∙ ap (λ u. cond (int_eq y row && int_eq x column) s
          (cond (int_eq y row && (int_le (column +ℤ pos 1) x && int_lt x ((column +ℤ pos 1) +ℤ pos m))) u
          (state_from left ((column +ℤ pos 1) +ℤ pos m) row items x y))) same
      | false ↦ λ e. ap (λ q. cond (int_eq y row && q) s (state_from left (column +ℤ pos 1) row (Cells m t ∷ items) x y)) (one_column column x)
    ] refl

-- items that lie in the plane from a place on, each with a count that can be written
abbrev pub AreGood : Rule → ℤ → ℤ → ℤ → List Item → Type 0
AreGood rule left column row [] = Unit {0}
AreGood rule left column row (Cells n s ∷ items) =
    (0 < n) × (n ≤ most_count MAX_LEVEL) × (is_state_of rule s ≡ true) × (row <ℤ rle_plane_end MAX_LEVEL) × ((column +ℤ pos n) ≤ℤ rle_plane_end MAX_LEVEL)
    × AreGood rule left (column +ℤ pos n) row items
AreGood rule left column row (RowEnds n ∷ items) = (0 < n) × (n ≤ most_count MAX_LEVEL) × ((row +ℤ pos n) ≤ℤ rle_plane_end MAX_LEVEL)
    × AreGood rule left left (row +ℤ pos n) items

-- they lie after their place
AreGood-behind : (rule : Rule) (left column row : ℤ) (items : List Item) (x y : ℤ) → AreGood rule left column row items → (y <ℤ row)
    ⊎ ((y ≡ row) × (x <ℤ column)) → state_from left column row items x y ≡ 0
AreGood-behind rule left column row [] x y g h = refl
AreGood-behind rule left column row (Cells n s ∷ items) x y g (inl h) =
    let off : int_eq y row ≡ false = grind (arith, ints) in
    ap (λ t. cond (t && (int_le column x && int_lt x (column +ℤ pos n))) s (state_from left (column +ℤ pos n) row items x y)) off
    ∙ AreGood-behind rule left (column +ℤ pos n) row items x y g.5 (inl h)
AreGood-behind rule left column row (Cells n s ∷ items) x y g (inr h) =
    let off : (int_eq y row && (int_le column x && int_lt x (column +ℤ pos n))) ≡ false = grind (arith, ints) in
    let less : x <ℤ (column +ℤ pos n) = omega (arith, ints) in
    ap (λ t. cond t s (state_from left (column +ℤ pos n) row items x y)) off
    ∙ AreGood-behind rule left (column +ℤ pos n) row items x y g.5 (inr (h.0, less))
AreGood-behind rule left column row (RowEnds n ∷ items) x y g (inl h) = AreGood-behind rule left left (row +ℤ pos n) items x y g.3 (inl (omega (arith, ints)))
AreGood-behind rule left column row (RowEnds n ∷ items) x y g (inr h) = AreGood-behind rule left left (row +ℤ pos n) items x y g.3 (inl (omega (arith, ints)))

-- dead cells before items change no state
with_gap-state : (rule : Rule) (left column row : ℤ) (n : ℕ) (items : List Item) (x y : ℤ) → AreGood rule left (column +ℤ pos n) row items
    → state_from left column row (with_gap n items) x y ≡ state_from left (column +ℤ pos n) row items x y
with_gap-state rule left column row zero items x y g = ap (λ c. state_from left c row items x y) (omega (arith, ints))
with_gap-state rule left column row (suc n) items x y g =
    cond_zero (int_eq y row && (int_le column x && int_lt x (column +ℤ pos (suc n)))) (state_from left (column +ℤ pos (suc n)) row items x y)
    (λ e. AreGood-behind rule left (column +ℤ pos (suc n)) row items x y g (inr (grind (arith, ints), grind (arith, ints))))

AreGood-with_cell : (rule : Rule) (left column row : ℤ) (s : ℕ) (items : List Item) → neg_ℤ (rle_plane_end MAX_LEVEL) ≤ℤ column
    → (column +ℤ pos 1) ≤ℤ rle_plane_end MAX_LEVEL
    → row <ℤ rle_plane_end MAX_LEVEL → is_state_of rule s ≡ true → AreGood rule left (column +ℤ pos 1) row items
    → AreGood rule left column row (with_cells 1 s items)
AreGood-with_cell rule left column row s [] low high inside state g = (omega arith, omega arith, state, inside, high, tt)
AreGood-with_cell rule left column row s (RowEnds n ∷ items) low high inside state g = (omega arith, omega arith, state, inside, high, g)
AreGood-with_cell rule left column row s (Cells m t ∷ items) low high inside state g =
    elim (eqb s t) as (λ same. AreGood rule left column row (cond same (Cells (1 + m) s ∷ items) (Cells 1 s ∷ Cells m t ∷ items))) [
      | true ↦
          let far : (column +ℤ pos 1) +ℤ pos m ≡ column +ℤ pos (1 + m) = omega (arith, ints) in
          let wide : (column +ℤ pos (1 + m)) ≤ℤ rle_plane_end MAX_LEVEL = subst (λ c. c ≤ℤ rle_plane_end MAX_LEVEL) far g.4 in
          (omega arith, omega (arith, ints, wide, low), state, inside, wide, subst (λ c. AreGood rule left c row items) far g.5)
      | false ↦ (omega arith, omega arith, state, inside, high, g)
    ]

state_of_zero : (rule : Rule) → is_state_of rule 0 ≡ true
state_of_zero (Life sets) = refl
state_of_zero (Named name) = refl

AreGood-with_gap : (rule : Rule) (left column row : ℤ) (n : ℕ) (items : List Item) → neg_ℤ (rle_plane_end MAX_LEVEL) ≤ℤ column
    → (column +ℤ pos n) ≤ℤ rle_plane_end MAX_LEVEL
    → row <ℤ rle_plane_end MAX_LEVEL → AreGood rule left (column +ℤ pos n) row items → AreGood rule left column row (with_gap n items)
AreGood-with_gap rule left column row zero items low high inside g = subst (λ c. AreGood rule left c row items) (omega (arith, ints)) g
AreGood-with_gap rule left column row (suc n) items low high inside g = (omega arith, omega (arith, ints, low, high), state_of_zero rule, inside, high, g)

distance : (low high : ℤ) → low ≤ℤ high → low +ℤ pos (nat_abs (high -ℤ low)) ≡ high
distance low high h = grind (arith, ints)

-- the items of a cell and of those after it, from the cell on
abbrev behind : ℤ → Cell → List Cell → List Item
behind left c cells = with_cells 1 c.state (items_from left (c.x +ℤ pos 1) c.y cells)

-- the items from a place on, in one row and over more rows
abbrev stepped : Bool → ℤ → ℤ → ℤ → Cell → List Cell → List Item
stepped same left column row c cells = cond same (with_gap (nat_abs (c.x -ℤ column)) (behind left c cells))
    (RowEnds (nat_abs (c.y -ℤ row)) ∷ with_gap (nat_abs (c.x -ℤ left)) (behind left c cells))

gap-good : (rule : Rule) (left column row : ℤ) (c : Cell) (items : List Item) → neg_ℤ (rle_plane_end MAX_LEVEL) ≤ℤ column → IsGoodCell rule c → c.y ≡ row
    → column ≤ℤ c.x
    → AreGood rule left c.x c.y items → AreGood rule left column row (with_gap (nat_abs (c.x -ℤ column)) items)
gap-good rule left column row c items low good same near g =
    let way = distance column c.x near in
    AreGood-with_gap rule left column row (nat_abs (c.x -ℤ column)) items low
    (subst (λ z. z ≤ℤ rle_plane_end MAX_LEVEL) (sym way) (omega (arith, ints, good.right)))
    (subst (λ z. z <ℤ rle_plane_end MAX_LEVEL) same good.bottom)
    (subst (λ z. AreGood rule left z row items) (sym way) (subst (λ r. AreGood rule left c.x r items) same g))

-- the items lie in the plane
pub items_from-good : (rule : Rule) (left column row : ℤ) (cells : List Cell) → neg_ℤ (rle_plane_end MAX_LEVEL) ≤ℤ left
    → neg_ℤ (rle_plane_end MAX_LEVEL) ≤ℤ column
    → neg_ℤ (rle_plane_end MAX_LEVEL) ≤ℤ row → Follow rule left column row cells → AreGood rule left column row (items_from left column row cells)
items_from-good rule left column row [] l x y f = tt
items_from-good rule left column row (c ∷ cells) l x y f =
    let good = f.0 in
    let next : neg_ℤ (rle_plane_end MAX_LEVEL) ≤ℤ (c.x +ℤ pos 1) = omega (arith, ints, good.left) in
    let more = items_from-good rule left (c.x +ℤ pos 1) c.y cells l next good.top f.2 in
    let rest = AreGood-with_cell rule left c.x c.y c.state (items_from left (c.x +ℤ pos 1) c.y cells) good.left (omega (arith, ints, good.right)) good.bottom
    good.state more in
    elim f.1 as (λ _. AreGood rule left column row (items_from left column row (c ∷ cells))) [
      | inl h ↦
          let on : int_eq c.y row ≡ true = eq-int_eq c.y row h.0 in
          subst (λ t. AreGood rule left column row (stepped t left column row c cells)) (sym on)
          (gap-good rule left column row c (behind left c cells) x good h.0 h.1 rest)
      | inr h ↦
          let off : int_eq c.y row ≡ false = grind (arith, ints) in
          let below : row ≤ℤ c.y = omega (arith, ints, h.0) in
          let down = distance row c.y below in
          let some : 0 < nat_abs (c.y -ℤ row) = omega (arith, ints, down, h.0) in
          let few : nat_abs (c.y -ℤ row) ≤ most_count MAX_LEVEL = omega (arith, ints, down, good.bottom, y) in
          let inside : (row +ℤ pos (nat_abs (c.y -ℤ row))) ≤ℤ rle_plane_end MAX_LEVEL = subst (λ z. z ≤ℤ rle_plane_end MAX_LEVEL) (sym down)
          (omega (arith, ints, good.bottom)) in
          subst (λ t. AreGood rule left column row (stepped t left column row c cells)) (sym off) (
            some,
            few,
            inside,
            subst (λ r. AreGood rule left left r (with_gap (nat_abs (c.x -ℤ left)) (behind left c cells))) (sym down)
                (gap-good rule left left c.y c (behind left c cells) l good refl h.1 rest),
          )
    ]

gap-state : (rule : Rule) (left column row : ℤ) (c : Cell) (items : List Item) (x y : ℤ) → c.y ≡ row → column ≤ℤ c.x → AreGood rule left c.x c.y items
    → state_from left column row (with_gap (nat_abs (c.x -ℤ column)) items) x y ≡ state_from left c.x c.y items x y
gap-state rule left column row c items x y same near g =
    let way = distance column c.x near in
    with_gap-state rule left column row (nat_abs (c.x -ℤ column)) items x y
    (subst (λ z. AreGood rule left z row items) (sym way) (subst (λ r. AreGood rule left c.x r items) same g))
    ∙ ap (λ z. state_from left z row items x y) way
    ∙ ap (λ r. state_from left c.x r items x y) (sym same)

-- the items stand for the cells
pub items_from-state : (rule : Rule) (left column row : ℤ) (cells : List Cell) (x y : ℤ) → neg_ℤ (rle_plane_end MAX_LEVEL) ≤ℤ left
    → neg_ℤ (rle_plane_end MAX_LEVEL) ≤ℤ column
    → neg_ℤ (rle_plane_end MAX_LEVEL) ≤ℤ row → Follow rule left column row cells → state_from left column row (items_from left column row cells) x y
    ≡ state_in_cells cells x y
items_from-state rule left column row [] x y lo1 lo2 lo3 f = refl
items_from-state rule left column row (c ∷ cells) x y lo1 lo2 lo3 f =
    let good = f.0 in
    let next : neg_ℤ (rle_plane_end MAX_LEVEL) ≤ℤ (c.x +ℤ pos 1) = omega (arith, ints, good.left) in
    let more = items_from-good rule left (c.x +ℤ pos 1) c.y cells lo1 next good.top f.2 in
    let rest = AreGood-with_cell rule left c.x c.y c.state (items_from left (c.x +ℤ pos 1) c.y cells) good.left (omega (arith, ints, good.right)) good.bottom
    good.state more in
    let here : state_from left c.x c.y (behind left c cells) x y ≡ state_in_cells (c ∷ cells) x y =
    with_cell-state left c.x c.y c.state (items_from left (c.x +ℤ pos 1) c.y cells) x y
    ∙ ap (cond (int_eq y c.y && int_eq x c.x) c.state) (items_from-state rule left (c.x +ℤ pos 1) c.y cells x y lo1 next good.top f.2) in
    elim f.1 as (λ _. state_from left column row (items_from left column row (c ∷ cells)) x y ≡ state_in_cells (c ∷ cells) x y) [
      | inl h ↦
          let on : int_eq c.y row ≡ true = eq-int_eq c.y row h.0 in
          ap (λ t. state_from left column row (stepped t left column row c cells) x y) on
          ∙ gap-state rule left column row c (behind left c cells) x y h.0 h.1 rest ∙ here
      | inr h ↦
          let off : int_eq c.y row ≡ false = grind (arith, ints) in
          let below : row ≤ℤ c.y = omega (arith, ints, h.0) in
          ap (λ t. state_from left column row (stepped t left column row c cells) x y) off
          ∙ ap (λ r. state_from left left r (with_gap (nat_abs (c.x -ℤ left)) (behind left c cells)) x y) (distance row c.y below)
          ∙ gap-state rule left left c.y c (behind left c cells) x y refl h.1 rest ∙ here
    ]
