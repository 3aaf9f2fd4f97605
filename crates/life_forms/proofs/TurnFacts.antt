-- The eight turns: their table, and what they do to shifts and to the plane.
use Rattle.std.proofs.Common.{◌≡◌, ℕ, zero, suc, ◌≤◌, Bool, true, false, refl, ap₂, ◌∙◌, ℤ, pos, negsuc, neg_ℤ, ◌+ℤ◌, arith, Contains, lit<}
use Rattle.std.proofs.lemmas.Int.{ints}
use Rattle.life_pattern.specs.Universe.{Universe, IsBlankOutside, IsWithin, corner}
use Rattle.life_forms.specs.Turns.{Turn, turn_of, every_turn, upright, opposite_coordinate, counted_coordinate, turned_column, turned_row, image, exactly_one, turn_after, inverse_turn}
use Rattle.life_forms.specs.Forms.{IsShift, plane_end}
use Rattle.life_forms.specs.Laws.{TurnsAreEight, TurnsAreClosed, TurnsHaveInverses, ImagesStayOnPlane, ImagesKeepShifts}
use Rattle.life_base.proofs.Basics.{double}

pub backwards-twice : (x : ℤ) → opposite_coordinate (opposite_coordinate x) ≡ x
backwards-twice (pos n) = refl
backwards-twice (negsuc n) = refl

pub backwards-is : (x : ℤ) → opposite_coordinate x +ℤ x ≡ negsuc 0
backwards-is (pos n) = omega (arith, ints)
backwards-is (negsuc n) = omega (arith, ints)

-- ---- the eight

eight : (a b c : Bool) → Contains every_turn (turn_of a b c)
eight false false false = (0, lit< tt, refl)
eight false true false = (1, lit< tt, refl)
eight true true false = (2, lit< tt, refl)
eight true true true = (3, lit< tt, refl)
eight false true true = (4, lit< tt, refl)
eight false false true = (5, lit< tt, refl)
eight true false true = (6, lit< tt, refl)
eight true false false = (7, lit< tt, refl)

pub turns-are-eight : TurnsAreEight
turns-are-eight turn = eight turn.exchange turn.columns turn.rows

-- ---- one after the other

pub counted-twice : (a b : Bool) (x : ℤ) → counted_coordinate a (counted_coordinate b x) ≡ counted_coordinate (exactly_one a b) x
counted-twice false b x = refl
counted-twice true false x = refl
counted-twice true true x = backwards-twice x

-- the turn t takes the place (v, w) to the place that the turn q takes (x, y) to
abbrev pub IsConsumed : Turn → ℤ → ℤ → Turn → ℤ → ℤ → Type 0
IsConsumed t v w q x y = (turned_column t v w ≡ turned_column q x y) × (turned_row t v w ≡ turned_row q x y)

placed-after : (fe fc fr se sc sr : Bool) (x y : ℤ)
    → IsConsumed (turn_of fe fc fr) (turned_column (turn_of se sc sr) x y) (turned_row (turn_of se sc sr) x y)
    (turn_after (turn_of fe fc fr) (turn_of se sc sr)) x
    y
placed-after false fc fr se sc sr x y = (counted-twice fc sc _, counted-twice fr sr _)
placed-after true fc fr true sc sr x y = (counted-twice fc sr x, counted-twice fr sc y)
placed-after true fc fr false sc sr x y = (counted-twice fc sr y, counted-twice fr sc x)

pub turns-are-closed : TurnsAreClosed
turns-are-closed f s u = record {
  rule = refl;
  generation = refl;
  cells = λ x y. let p = placed-after f.exchange f.columns f.rows s.exchange s.columns s.rows x y in ap₂ u.cell p.0 p.1;
}

-- ---- taken back

counted-back : (a : Bool) (x : ℤ) → counted_coordinate a (counted_coordinate a x) ≡ x
counted-back false x = refl
counted-back true x = backwards-twice x

pub placed-back : (e c r : Bool) (x y : ℤ)
    → IsConsumed (turn_of e c r) (turned_column (inverse_turn (turn_of e c r)) x y) (turned_row (inverse_turn (turn_of e c r)) x y) upright x y
placed-back false c r x y = (counted-back c x, counted-back r y)
placed-back true c r x y = (counted-back c x, counted-back r y)

pub turns-have-inverses : TurnsHaveInverses
turns-have-inverses t u = record {
  rule = refl;
  generation = refl;
  cells = λ x y. let p = placed-back t.exchange t.columns t.rows x y in ap₂ u.cell p.0 p.1;
}

-- ---- shifts

-- so far the image moves along a line
abbrev signed : Bool → ℤ → ℤ
signed false d = d
signed true d = neg_ℤ d

counted-shifted : (b : Bool) (x d : ℤ) → counted_coordinate b (x +ℤ signed b d) ≡ counted_coordinate b x +ℤ d
counted-shifted false x d = refl
counted-shifted true x d =
    let there = backwards-is (x +ℤ neg_ℤ d) in
    let here = backwards-is x in
    omega (arith, ints)

-- what takes the cells of the one image to those of the other is a shift
shift-as : (t : Turn) (u v : Universe) → IsShift u v → (columns rows : ℤ)
    → ((x y : ℤ) → (image t v).cell (x +ℤ columns) (y +ℤ rows) ≡ (image t u).cell x y) → IsShift (image t u) (image t v)
shift-as t u v s columns rows cells = record { rule = s.rule; generation = s.generation; columns = columns; rows = rows; cells = cells }

shifts-kept : (e c r : Bool) (u v : Universe) → IsShift u v → IsShift (image (turn_of e c r) u) (image (turn_of e c r) v)
shifts-kept false c r u v s =
    shift-as (turn_of false c r) u v s (signed c s.columns) (signed r s.rows)
    (λ x y. ap₂ v.cell (counted-shifted c x s.columns) (counted-shifted r y s.rows) ∙ s.cells (counted_coordinate c x) (counted_coordinate r y))
shifts-kept true c r u v s =
    shift-as (turn_of true c r) u v s (signed r s.rows) (signed c s.columns)
    (λ x y. ap₂ v.cell (counted-shifted c y s.columns) (counted-shifted r x s.rows) ∙ s.cells (counted_coordinate c y) (counted_coordinate r x))

pub images-keep-shifts : ImagesKeepShifts
images-keep-shifts t u v s = shifts-kept t.exchange t.columns t.rows u v s

-- ---- the plane

-- the middle of the plane lies between -1 and 0
pub middle : (top : ℕ) → 1 ≤ top → corner top +ℤ plane_end top ≡ pos 0
unfolding corner
middle zero h = absurd (omega arith)
middle (suc k) h = let p = double k in omega (arith, ints)

within-backwards : (top : ℕ) → 1 ≤ top → (x : ℤ) → IsWithin top (opposite_coordinate x) → IsWithin top x
within-backwards top h x w =
    let m = middle top h in
    let b = backwards-is x in
    (omega (arith, ints), omega (arith, ints))

within-counted : (top : ℕ) → 1 ≤ top → (b : Bool) (x : ℤ) → IsWithin top (counted_coordinate b x) → IsWithin top x
within-counted top h false x w = w
within-counted top h true x w = within-backwards top h x w

-- the cells of an image
abbrev pub image_cells : Turn → (ℤ → ℤ → ℕ) → ℤ → ℤ → ℕ
image_cells turn cell x y = cell (turned_column turn x y) (turned_row turn x y)

blank-outside : (top : ℕ) → 1 ≤ top → (e c r : Bool) (cell : ℤ → ℤ → ℕ) → IsBlankOutside top cell → IsBlankOutside top (image_cells (turn_of e c r) cell)
blank-outside top h false c r cell outside x y out =
    outside _ _ (λ w. out (within-counted top h c x w.0, within-counted top h r y w.1))
blank-outside top h true c r cell outside x y out =
    outside _ _ (λ w. out (within-counted top h r x w.1, within-counted top h c y w.0))

pub image-outside : (top : ℕ) → 1 ≤ top → (turn : Turn) (cell : ℤ → ℤ → ℕ) → IsBlankOutside top cell → IsBlankOutside top (image_cells turn cell)
image-outside top h turn cell outside = blank-outside top h turn.exchange turn.columns turn.rows cell outside

pub images-stay-on-plane : (top : ℕ) → ImagesStayOnPlane top
images-stay-on-plane top h t u plane = record {
  rule = plane.rule;
  generation = plane.generation;
  states = λ x y. plane.states _ _;
  outside = image-outside top h t u.cell plane.outside;
}
