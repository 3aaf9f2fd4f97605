-- Rows of cells, and what is left of them.
use Rattle.std.proofs.Common.{◌≡◌, ℕ, ◌==◌, Bool, true, false, ◌&&◌, ◌⊎◌, inl, inr, ℤ, pos, negsuc, ◌≤ℤ◌, ◌<ℤ◌, List, [], ◌∷◌, length, refl, sym, arith, true≢false, All, eqb-true}
use Rattle.std.proofs.lemmas.Int.{ints}
use Rattle.std.proofs.lemmas.Bool.{cases_lt}
use Rattle.std.proofs.lemmas.List.Elements.{All-head}
use Rattle.life_base.specs.declared.cell.Cell.{Cell}
use Rattle.life_sweep.specs.Rows.{Rows, IsRest, StartsFrom, StartsAt, SomeStartsAt, InRows, AreRows, IsInside, far, column_at, no_column, is_blank_column}
use Rattle.life_sweep.specs.declared.column.Column.{Column}

-- what is left from a column on is what is left from a later one that isn't after the first cell
pub IsRest-later : (states : ℤ → ℕ) (x m : ℤ) (row : List Cell) → x ≤ℤ m → StartsFrom m row → IsRest states x row → IsRest states m row
IsRest-later states x m [] le s h = λ c l. h c (omega (arith, ints, le, l))
IsRest-later states x m (cell ∷ rest) le s h = (s, (λ c l u. h.1 c (omega (arith, ints, le, l)) u), h.2, h.3)

-- and there is no cell between
pub IsRest-gap : (states : ℤ → ℕ) (x m : ℤ) (row : List Cell) → StartsFrom m row → IsRest states x row → (c : ℤ) → x ≤ℤ c → c <ℤ m → states c ≡ 0
IsRest-gap states x m [] s h c l u = h c l
IsRest-gap states x m (cell ∷ rest) s h c l u = h.1 c l (omega (arith, ints, s, u))

pub IsRest-none : (states : ℤ → ℕ) (x : ℤ) (row : List Cell) → length row ≡ 0 → IsRest states x row → (c : ℤ) → x ≤ℤ c → states c ≡ 0
IsRest-none states x [] e h = h
IsRest-none states x (cell ∷ rest) e h = absurd (omega (arith, e))

-- the first cell is in the first column or east of it
pub IsRest-first : (states : ℤ → ℕ) (x m : ℤ) (row : List Cell) → StartsAt m row → IsRest states x row → x ≤ℤ m
IsRest-first states x m [] s h = absurd s
IsRest-first states x m (cell ∷ rest) s h = omega (arith, ints, s, h.0)

pub StartsFrom-less : (x m : ℤ) (row : List Cell) → x ≤ℤ m → StartsFrom m row → StartsFrom x row
StartsFrom-less x m [] le s = tt
StartsFrom-less x m (cell ∷ rest) le s = omega (arith, ints, le, s)

-- a whole number is below another or not
pub less-or-not : (a b : ℤ) → (a <ℤ b) ⊎ (b ≤ℤ a)
less-or-not (pos m) (pos n) = elim (cases_lt m n) [ inl l ↦ inl (omega (arith, ints, l)) | inr l ↦ inr (omega (arith, ints, l)) ]
less-or-not (pos m) (negsuc n) = inr (omega (arith, ints))
less-or-not (negsuc m) (pos n) = inl (omega (arith, ints))
less-or-not (negsuc m) (negsuc n) = elim (cases_lt n m) [ inl l ↦ inl (omega (arith, ints, l)) | inr l ↦ inr (omega (arith, ints, l)) ]

abbrev column : ℕ → ℕ → ℕ → Column ℕ
column n h s = record { north = n; here = h; south = s }

-- the same of three rows
pub AreRows-later : (cells : ℤ → ℤ → ℕ) (y x m : ℤ) (rows : Rows) → x ≤ℤ m → InRows (StartsFrom m) rows → AreRows cells y x rows → AreRows cells y m rows
AreRows-later cells y x m rows le s h = record {
  north = IsRest-later _ x m _ le s.north h.north;
  here = IsRest-later _ x m _ le s.here h.here;
  south = IsRest-later _ x m _ le s.south h.south;
}

pub column-is : (n h s n' h' s' : ℕ) → n ≡ n' → h ≡ h' → s ≡ s' → column n h s ≡ column n' h' s'
column-is n h s n' h' s' en eh es = cc

pub AreRows-gap : (cells : ℤ → ℤ → ℕ) (y x m : ℤ) (rows : Rows) → InRows (StartsFrom m) rows → AreRows cells y x rows → (c : ℤ) → x ≤ℤ c → c <ℤ m
    → column_at cells y c ≡ no_column
AreRows-gap cells y x m rows s h c l u =
    let n = IsRest-gap _ x m _ s.north h.north c l u in
    let e = IsRest-gap _ x m _ s.here h.here c l u in
    let w = IsRest-gap _ x m _ s.south h.south c l u in
    column-is _ _ _ 0 0 0 n e w

pub AreRows-first : (cells : ℤ → ℤ → ℕ) (y x m : ℤ) (rows : Rows) → SomeStartsAt m rows → AreRows cells y x rows → x ≤ℤ m
AreRows-first cells y x m rows (inl s) h = IsRest-first _ x m _ s h.north
AreRows-first cells y x m rows (inr (inl s)) h = IsRest-first _ x m _ s h.here
AreRows-first cells y x m rows (inr (inr s)) h = IsRest-first _ x m _ s h.south

-- a column without cells
three-true : (a b c : Bool) → (a && b && c) ≡ true → (a ≡ true) × (b ≡ true) × (c ≡ true)
three-true true true true e = (refl, refl, refl)
three-true true true false e = absurd (true≢false (sym e))
three-true true false c e = absurd (true≢false (sym e))
three-true false b c e = absurd (true≢false (sym e))

pub blank-is : (c : Column ℕ) → is_blank_column c ≡ true → c ≡ no_column
blank-is c e =
    let t = three-true (c.north == 0) (c.here == 0) (c.south == 0) e in
    column-is c.north c.here c.south 0 0 0 (eqb-true c.north 0 t.0) (eqb-true c.here 0 t.1) (eqb-true c.south 0 t.2)

-- a row whose first cell is east of every cell is empty
pub empty-row : (m : ℤ) (row : List Cell) → All IsInside row → StartsAt m row ⊎ ((m ≡ far) × (length row ≡ 0)) → far ≤ℤ m → length row ≡ 0
empty-row m row inside (inr e) l = e.1
empty-row m [] inside (inl s) l = refl
empty-row m (cell ∷ rest) inside (inl s) l = absurd (omega (arith, ints, s, l, (All-head IsInside cell rest inside).east))
