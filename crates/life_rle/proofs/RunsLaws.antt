-- The runs of a file, and its cells.
use Rattle.std.proofs.Common.{◌≡◌, ℕ, zero, suc, ◌^◌, ◌≤◌, ◌⊎◌, inl, inr, Bool, true, false, not, cond, ◌&&◌, List, [], ◌∷◌, ◌++◌, refl, sym, ap, ◌∙◌, subst, Some, None, Option, ℤ, pos, neg_ℤ, ◌+ℤ◌, ◌≤ℤ◌, ◌<ℤ◌, arith, eqb, ltb, int_lt, int_le}
use Rattle.std.specs.Ordering.{int_eq}
use Rattle.std.proofs.lemmas.Int.{ints}
use Rattle.std.proofs.lemmas.Bool.Decides.{nat_tests}
use Rattle.life_base.specs.declared.kind.Kind.TheVariants.{StateRange, OutOfPlane, ZeroCount, TooLarge}
use Rattle.life_base.specs.declared.rule.Rule.{Rule}
use Rattle.life_base.specs.Text.{trim_start, value_of, is_too_long}
use Rattle.life_rle.specs.declared.item.Item.{Item}
use Rattle.life_rle.specs.declared.item.Item.TheVariants.{Cells, RowEnds}
use Rattle.life_base.specs.declared.cell.Run.{Run}
use Rattle.life_rle.specs.declared.position.Position.{Position}
use Rattle.life_rle.specs.Plane.{rle_plane_end}
use Rattle.life_rle.specs.States.{is_state_of, leading_state}
use Rattle.life_rle.specs.Items.{leading_digits, after_digits_of, Next, End, Mark, Spelled, Broken, next_of_cells, item_after, item_with_digits, item_in, Spells}
use Rattle.life_rle.specs.Position.{default_position}
use Rattle.life_rle.specs.Pattern.{Rle, PlacedItem, placed_items, item_fault, first_fault, cell_among, rle_cell}
use Rattle.life_rle.specs.Runs.{runs_of}
use Rattle.life_rle.specs.Cursor.{item_count}
use Rattle.life_rle.specs.Grammar.{IsPreamble, LineSpells, BodySpells, IsRle}
use Rattle.life_rle.specs.RunsLaw.{AreGoodRuns, StandsBeforeAll, AreRunsInOrder, has_cell, rle_state_by, IsOutsideRlePlane}
use Rattle.life_rle.proofs.Places.{placed_from, placed_behind-from, cond_zero}
use Rattle.life_rle.proofs.Advance.{IsInPlane}
use Rattle.life_rle.proofs.LineKinds.{IsTameOpening, opening-tame}
use Rattle.life_rle.proofs.PlaneLemmas.{zero-coordinate}
use Rattle.life_rle.proofs.Progress.{option_or-both}
use Rattle.life_rle.proofs.RowLimits.{further}
use Rattle.life_base.proofs.Basics.{plus_zero}

-- ---- an item counts at least one

abbrev HasCount : Next → Type 0
HasCount End = Unit {0}
HasCount Mark = Unit {0}
HasCount (Spelled item rest) = 1 ≤ item_count item
HasCount (Broken kind) = Unit {0}

cells_of-count : (n : ℕ) (o : Option (ℕ × List ℕ)) → 1 ≤ n → HasCount (next_of_cells n o)
cells_of-count n None h = tt
cells_of-count n (Some found) h = h

item_behind-count : (n : ℕ) (bytes : List ℕ) → 1 ≤ n → HasCount (item_after n bytes)
item_behind-count n [] h = tt
item_behind-count n (b ∷ bytes) h =
    elim (eqb b 36) as (λ t. HasCount (cond t (Spelled (RowEnds n) bytes) (next_of_cells n (leading_state (b ∷ bytes)))))
    [ true ↦ h | false ↦ cells_of-count n (leading_state (b ∷ bytes)) h ]

some_count : (n : ℕ) → eqb n 0 ≡ false → 1 ≤ n
some_count n e = grind (arith, nat_tests)

counted-count : (level : ℕ) (digits bytes : List ℕ) → HasCount (item_with_digits level digits bytes)
counted-count level [] bytes = item_behind-count 1 bytes (omega arith)
counted-count level (d ∷ digits) bytes =
    elim (eqb (value_of (d ∷ digits)) 0)
    as (λ t. eqb (value_of (d ∷ digits)) 0 ≡ t
    → HasCount (cond t (Broken ZeroCount) (cond (ltb (2 ^ level) (value_of (d ∷ digits))) (Broken TooLarge) (item_after (value_of (d ∷ digits)) bytes)))) [
      | true ↦ λ e. tt
      | false ↦ λ e. elim (ltb (2 ^ level) (value_of (d ∷ digits))) as (λ t. HasCount (cond t (Broken TooLarge) (item_after (value_of (d ∷ digits)) bytes)))
          [ true ↦ tt | false ↦ item_behind-count (value_of (d ∷ digits)) bytes (some_count (value_of (d ∷ digits)) e) ]
    ] refl

item_in-count : (level : ℕ) (bytes : List ℕ) → HasCount (item_in level bytes)
item_in-count level [] = tt
item_in-count level (b ∷ bytes) =
    elim (eqb b 33) as (λ t. HasCount (cond t Mark (item_with_digits level (leading_digits (b ∷ bytes)) (after_digits_of (b ∷ bytes)))))
    [ true ↦ tt | false ↦ counted-count level (leading_digits (b ∷ bytes)) (after_digits_of (b ∷ bytes)) ]

pub AllCount : List Item → Type 0
AllCount [] = Unit {0}
AllCount (item ∷ items) = (1 ≤ item_count item) × AllCount items

AllCount-append : (xs ys : List Item) → AllCount xs → AllCount ys → AllCount (xs ++ ys)
unfolding AllCount
AllCount-append [] ys h k = k
AllCount-append (x ∷ xs) ys h k = (h.0, AllCount-append xs ys h.1 k)

Spells-count : (level : ℕ) (items : List Item) (bytes : List ℕ) (last : Next) → Spells level bytes items last → AllCount items
unfolding AllCount
Spells-count level [] bytes last h = tt
Spells-count level (item ∷ items) bytes last h = (subst HasCount h.1 (item_in-count level (trim_start bytes)), Spells-count level items h.0 last h.2)

no_items : (items : List Item) → items ≡ [] → AllCount items
unfolding AllCount
no_items items e = subst AllCount (sym e) tt

LineSpells-count : (level : ℕ) (line : List ℕ) (items : List Item) (last : Next) → LineSpells level line items last → AllCount items
LineSpells-count level line items last (inl h) = no_items items h.1
LineSpells-count level line items last (inr h) = Spells-count level items line last h.1

BodySpells-count : (level : ℕ) (lines : List (List ℕ)) (items : List Item) → BodySpells level lines items → AllCount items
BodySpells-count level [] items h = no_items items h
BodySpells-count level (line ∷ lines) items h =
    subst AllCount (sym h.2) (AllCount-append h.0 h.1 (LineSpells-count level line h.0 End h.3) (BodySpells-count level lines h.1 h.4))

IsRle-count : (level : ℕ) (lines : List (List ℕ)) (file : Rle) → IsRle level lines file → AllCount file.items
IsRle-count level lines file (inl b) = BodySpells-count level b.body file.items b.items
IsRle-count level lines file (inr b) =
    subst AllCount (sym b.items) (AllCount-append b.earlier b.final (BodySpells-count level b.begun.body b.earlier b.begun.items)
    (LineSpells-count level b.last b.final Mark b.marked))

-- ---- the corner is in the plane

preamble-plane : (level : ℕ) (given position : Position) (lines : List (List ℕ)) → IsInPlane level given → IsPreamble level given lines position
    → IsInPlane level position
preamble-plane level given position [] h e = subst (IsInPlane level) (sym e) h
preamble-plane level given position (line ∷ lines) h (inl e) = preamble-plane level given position lines h e.1
preamble-plane level given position (line ∷ lines) h (inr e) = preamble-plane level e.0 position lines
    (subst (IsTameOpening level (is_too_long line)) e.1 (opening-tame level line)) e.2

pub IsRle-plane : (level : ℕ) (lines : List (List ℕ)) (file : Rle) → IsRle level lines file → IsInPlane level file.position
IsRle-plane level lines file (inl b) = preamble-plane level default_position file.position b.before (zero-coordinate level, zero-coordinate level) b.preamble
IsRle-plane level lines file (inr b) = preamble-plane level default_position file.position b.begun.before (zero-coordinate level, zero-coordinate level)
    b.begun.preamble

-- ---- items that stand in the plane, from a place on

abbrev pub Good : ℕ → Rule → ℤ → ℤ → ℤ → List Item → Type 0
Good level rule left column row [] = Unit {0}
Good level rule left column row (Cells n s ∷ items) =
    (1 ≤ n) × (is_state_of rule s ≡ true) × (row <ℤ rle_plane_end level) × ((column +ℤ pos n) ≤ℤ rle_plane_end level)
    × Good level rule left (column +ℤ pos n) row items
Good level rule left column row (RowEnds n ∷ items) = (1 ≤ n) × Good level rule left left (row +ℤ pos n) items

cells-none : (state inside : Bool) → cond (not state) (Some StateRange) (cond inside None (Some OutOfPlane)) ≡ None → (state ≡ true) × (inside ≡ true)
cells-none true true e = (refl, refl)
cells-none true false e = cc
cells-none false inside e = cc

inside-plane : (row far e : ℤ) → (int_lt row e && int_le far e) ≡ true → (row <ℤ e) × (far ≤ℤ e)
inside-plane row far e h = (grind (arith, ints), grind (arith, ints))

sound-Good : (level : ℕ) (rule : Rule) (left column row : ℤ) (items : List Item) → AllCount items → first_fault level rule (placed_from left column row items)
    ≡ None → Good level rule left column row items
unfolding AllCount
sound-Good level rule left column row [] c e = tt
sound-Good level rule left column row (Cells n s ∷ items) c e =
    let parts = option_or-both (item_fault level rule row column (Cells n s)) (first_fault level rule (placed_from left (column +ℤ pos n) row items)) e in
    let here = cells-none (is_state_of rule s) (int_lt row (rle_plane_end level) && int_le (column +ℤ pos n) (rle_plane_end level)) parts.0 in
    let place = inside-plane row (column +ℤ pos n) (rle_plane_end level) here.1 in
    (c.0, here.0, place.0, place.1, sound-Good level rule left (column +ℤ pos n) row items c.1 parts.1)
sound-Good level rule left column row (RowEnds n ∷ items) c e =
    let parts = option_or-both (item_fault level rule row column (RowEnds n)) (first_fault level rule (placed_from left left (row +ℤ pos n) items)) e in
    (c.0, sound-Good level rule left left (row +ℤ pos n) items c.1 parts.1)

-- ---- their runs

runs-good : (level : ℕ) (rule : Rule) (left column row : ℤ) (items : List Item) → neg_ℤ (rle_plane_end level) ≤ℤ left → neg_ℤ (rle_plane_end level) ≤ℤ column
    → neg_ℤ (rle_plane_end level) ≤ℤ row
    → Good level rule left column row items → AreGoodRuns level rule (runs_of (placed_from left column row items))
runs-good level rule left column row [] l x y g = tt
runs-good level rule left column row (Cells n zero ∷ items) l x y g = runs-good level rule left (column +ℤ pos n) row items l
    (further (neg_ℤ (rle_plane_end level)) column n x) y g.4
runs-good level rule left column row (Cells n (suc s) ∷ items) l x y g = (
  record { some = g.0; left = x; right = g.3; top = y; bottom = g.2; state = g.1; live = omega arith },
  runs-good level rule left (column +ℤ pos n) row items l (further (neg_ℤ (rle_plane_end level)) column n x) y g.4,
)
runs-good level rule left column row (RowEnds n ∷ items) l x y g = runs-good level rule left left (row +ℤ pos n) items l l
    (further (neg_ℤ (rle_plane_end level)) row n y) g.1

-- runs comes after a place
abbrev Behind : ℤ → ℤ → List Run → Type 0
Behind column row [] = Unit {0}
Behind column row (run ∷ runs) = ((row <ℤ run.y) ⊎ ((row ≡ run.y) × (column ≤ℤ run.x))) × Behind column row runs

-- a place that is further on
abbrev Later : ℤ → ℤ → ℤ → ℤ → Type 0
Later column row column' row' = (row <ℤ row') ⊎ ((row ≡ row') × (column ≤ℤ column'))

Behind-later : (column row column' row' : ℤ) (runs : List Run) → Later column row column' row' → Behind column' row' runs → Behind column row runs
Behind-later column row column' row' [] h b = tt
Behind-later column row column' row' (run ∷ runs) h b = (
  elim h as (λ _. (row <ℤ run.y) ⊎ ((row ≡ run.y) × (column ≤ℤ run.x))) [
    | inl less ↦ elim b.0 [ inl u ↦ inl (omega (arith, ints, less, u)) | inr u ↦ inl (omega (arith, ints, less, u.0)) ]
    | inr same ↦ elim b.0 [ inl u ↦ inl (omega (arith, ints, same.0, u)) | inr u ↦ inr (same.0 ∙ u.0, omega (arith, ints, same.1, u.1)) ]
  ],
  Behind-later column row column' row' runs h b.1,
)

same-place : (z : ℤ) → z ≤ℤ z
same-place z = omega (arith, ints)

onward : (z : ℤ) (n : ℕ) → z ≤ℤ (z +ℤ pos n)
onward z n = omega (arith, ints)

down : (row : ℤ) (n : ℕ) → 1 ≤ n → row <ℤ (row +ℤ pos n)
down row n h = omega (arith, ints)

runs-Behind : (level : ℕ) (rule : Rule) (left column row : ℤ) (items : List Item) → Good level rule left column row items
    → Behind column row (runs_of (placed_from left column row items))
runs-Behind level rule left column row [] g = tt
runs-Behind level rule left column row (Cells n zero ∷ items) g =
    Behind-later column row (column +ℤ pos n) row (runs_of (placed_from left (column +ℤ pos n) row items)) (inr (refl, onward column n))
    (runs-Behind level rule left (column +ℤ pos n) row items g.4)
runs-Behind level rule left column row (Cells n (suc s) ∷ items) g = (
  inr (refl, same-place column),
  Behind-later column row (column +ℤ pos n) row (runs_of (placed_from left (column +ℤ pos n) row items))
      (inr (refl, onward column n)) (runs-Behind level rule left (column +ℤ pos n) row items g.4),
)
runs-Behind level rule left column row (RowEnds n ∷ items) g =
    Behind-later column row left (row +ℤ pos n) (runs_of (placed_from left left (row +ℤ pos n) items)) (inl (down row n g.0))
    (runs-Behind level rule left left (row +ℤ pos n) items g.1)

before-all : (run : Run) (runs : List Run) → Behind (run.x +ℤ pos run.len) run.y runs → StandsBeforeAll run runs
before-all run [] b = tt
before-all run (next ∷ runs) b = (b.0, before-all run runs b.1)

runs-order : (level : ℕ) (rule : Rule) (left column row : ℤ) (items : List Item) → Good level rule left column row items
    → AreRunsInOrder (runs_of (placed_from left column row items))
runs-order level rule left column row [] g = tt
runs-order level rule left column row (Cells n zero ∷ items) g = runs-order level rule left (column +ℤ pos n) row items g.4
runs-order level rule left column row (Cells n (suc s) ∷ items) g = (
  before-all (record { x = column; y = row; len = n; state = suc s }) (runs_of (placed_from left (column +ℤ pos n) row items))
      (runs-Behind level rule left (column +ℤ pos n) row items g.4),
  runs-order level rule left (column +ℤ pos n) row items g.4,
)
runs-order level rule left column row (RowEnds n ∷ items) g = runs-order level rule left left (row +ℤ pos n) items g.1

-- ---- their cells

-- what comes after a place says nothing of the pairs before it
before-zero : (column row : ℤ) (runs : List Run) (x y : ℤ) → Behind column row runs → (y <ℤ row) ⊎ ((y ≡ row) × (x <ℤ column)) → rle_state_by runs x y ≡ 0
before-zero column row [] x y b h = refl
before-zero column row (run ∷ runs) x y b h =
    let off : has_cell run x y ≡ false = elim b.0 as (λ _. has_cell run x y ≡ false) [
      | inl u ↦ elim h [ inl v ↦ grind (arith, ints) | inr v ↦ grind (arith, ints) ]
      | inr u ↦ elim h [ inl v ↦ grind (arith, ints) | inr v ↦ grind (arith, ints) ]
    ] in
    ap (λ t. cond t run.state (rle_state_by runs x y)) off ∙ before-zero column row runs x y b.1 h

covered : (column row x y : ℤ) (n : ℕ) → (int_eq y row && (int_le column x && int_lt x (column +ℤ pos n))) ≡ true → (y ≡ row) × (x <ℤ (column +ℤ pos n))
covered column row x y n e = (grind (arith, ints), grind (arith, ints))

cells-runs : (level : ℕ) (rule : Rule) (left column row : ℤ) (items : List Item) (x y : ℤ) → Good level rule left column row items
    → cell_among (placed_from left column row items) x y ≡ rle_state_by (runs_of (placed_from left column row items)) x y
cells-runs level rule left column row [] x y g = refl
cells-runs level rule left column row (Cells n zero ∷ items) x y g =
    let rest = runs_of (placed_from left (column +ℤ pos n) row items) in
    let covers = int_eq y row && (int_le column x && int_lt x (column +ℤ pos n)) in
    ap (cond covers 0) (cells-runs level rule left (column +ℤ pos n) row items x y g.4)
    ∙ cond_zero covers (rle_state_by rest x y)
    (λ e. before-zero (column +ℤ pos n) row rest x y (runs-Behind level rule left (column +ℤ pos n) row items g.4) (inr (covered column row x y n e)))
cells-runs level rule left column row (Cells n (suc s) ∷ items) x y g =
    ap (cond (int_eq y row && (int_le column x && int_lt x (column +ℤ pos n))) (suc s)) (cells-runs level rule left (column +ℤ pos n) row items x y g.4)
cells-runs level rule left column row (RowEnds n ∷ items) x y g = cells-runs level rule left left (row +ℤ pos n) items x y g.1

-- ---- of a file

pub placed-from : (file : Rle) → placed_items file ≡ placed_from file.position.x file.position.x file.position.y file.items
placed-from file =
    placed_behind-from file.position [] file.items
    ∙ ap (λ z. placed_from file.position.x z (file.position.y +ℤ pos 0) file.items) (plus_zero file.position.x)
    ∙ ap (λ z. placed_from file.position.x file.position.x z file.items) (plus_zero file.position.y)

sound-of : (level : ℕ) (lines : List (List ℕ)) (file : Rle) → IsRle level lines file → first_fault level file.rule (placed_items file) ≡ None
sound-of level lines file (inl b) = b.sound
sound-of level lines file (inr b) = b.sound

pub file-Good : (level : ℕ) (lines : List (List ℕ)) (file : Rle) → IsRle level lines file → Good level file.rule file.position.x file.position.x file.position.y
    file.items
file-Good level lines file r =
    sound-Good level file.rule file.position.x file.position.x file.position.y file.items (IsRle-count level lines file r)
    (ap (first_fault level file.rule) (sym (placed-from file)) ∙ sound-of level lines file r)

pub low-side : (e z : ℤ) → (int_le (neg_ℤ e) z && int_lt z e) ≡ true → neg_ℤ e ≤ℤ z
low-side e z h = grind (arith, ints)

pub runs_are_cells : (level : ℕ) (lines : List (List ℕ)) (file : Rle) → IsRle level lines file
    → AreGoodRuns level file.rule (runs_of (placed_items file)) × AreRunsInOrder (runs_of (placed_items file))
    × ((x y : ℤ) → rle_cell file x y ≡ rle_state_by (runs_of (placed_items file)) x y)
runs_are_cells level lines file r =
    let good = file-Good level lines file r in
    let plane = IsRle-plane level lines file r in
    let x = low-side (rle_plane_end level) file.position.x plane.0 in
    let y = low-side (rle_plane_end level) file.position.y plane.1 in
    let e = sym (placed-from file) in (
      subst (λ (ps : List PlacedItem). AreGoodRuns level file.rule (runs_of ps)) e
          (runs-good level file.rule file.position.x file.position.x file.position.y file.items x x y good),
      subst (λ (ps : List PlacedItem). AreRunsInOrder (runs_of ps)) e
          (runs-order level file.rule file.position.x file.position.x file.position.y file.items good),
      λ x y. subst (λ (ps : List PlacedItem). cell_among ps x y ≡ rle_state_by (runs_of ps) x y) e
          (cells-runs level file.rule file.position.x file.position.x file.position.y file.items x y good),
    )

outside-zero : (level : ℕ) (rule : Rule) (runs : List Run) (x y : ℤ) → AreGoodRuns level rule runs → IsOutsideRlePlane level x y → rle_state_by runs x y ≡ 0
outside-zero level rule [] x y g h = refl
outside-zero level rule (run ∷ runs) x y g h =
    ap (λ t. cond t run.state (rle_state_by runs x y)) (misses (rle_plane_end level) run.x run.y x y run.len g.0.left g.0.right g.0.top g.0.bottom h)
    ∙ outside-zero level rule runs x y g.1 h
  where
    misses : (e a b x y : ℤ) (n : ℕ) → neg_ℤ e ≤ℤ a → (a +ℤ pos n) ≤ℤ e → neg_ℤ e ≤ℤ b → b <ℤ e
        → (x <ℤ neg_ℤ e) ⊎ (e ≤ℤ x) ⊎ (y <ℤ neg_ℤ e) ⊎ (e ≤ℤ y) → (int_eq y b && (int_le a x && int_lt x (a +ℤ pos n))) ≡ false
    misses e a b x y n l r t u (inl h) = grind (arith, ints)
    misses e a b x y n l r t u (inr (inl h)) = grind (arith, ints)
    misses e a b x y n l r t u (inr (inr (inl h))) = grind (arith, ints)
    misses e a b x y n l r t u (inr (inr (inr h))) = grind (arith, ints)

pub blank_outside : (level : ℕ) (lines : List (List ℕ)) (file : Rle) (x y : ℤ) → IsRle level lines file → IsOutsideRlePlane level x y → rle_cell file x y ≡ 0
blank_outside level lines file x y r h =
    let all = runs_are_cells level lines file r in all.2 x y ∙ outside-zero level file.rule (runs_of (placed_items file)) x y all.0 h
