-- Bands: what a step to the next row keeps.
use Rattle.std.proofs.Common.{◌≡◌, ℕ, ◌+◌, ◌*◌, ◌<◌, ◌==◌, Bool, ◌⊎◌, inl, inr, ℤ, pos, ◌+ℤ◌, ◌≤ℤ◌, ◌<ℤ◌, List, [], ◌∷◌, ◌++◌, length, length-append, refl, sym, ◌∙◌, ap, subst, arith, All, Some, slice_get, if◌then◌else◌}
use Rattle.std.proofs.lemmas.Int.{ints}
use Rattle.std.proofs.lemmas.Bool.Decides.{eqb_tells}
use Rattle.std.proofs.lemmas.List.Elements.{All-head, All-tail}
use Rattle.life_base.specs.declared.cell.Cell.{Cell}
use Rattle.life_next.specs.Generation.{one_before, one_after}
use Rattle.life_sweep.specs.Rows.{Rows, IsRest, IsRestOf, IsFrom, BeginsAt, IsInside, IsBlankBefore, AreRows, IsBandOfRows, IsNextRow, IsFarRow, GoesSouth, rows_left, first_coordinate, far}
use Rattle.life_sweep.specs.declared.band.Band.{Band}
use Rattle.life_sweep.proofs.RowLemmas.{less-or-not, column-is, IsRest-none}

-- a row of the plane, and what is left south of it
pub split-row : (cells : ℤ → ℤ → ℕ) (x y : ℤ) (row rest : List Cell) → All (λ (cell : Cell). cell.y ≡ y) row → ¬ BeginsAt y rest → All IsInside rest
    → IsRestOf cells x y (row ++ rest) → IsRest (λ c. cells c y) x row × IsRestOf cells first_coordinate (one_after y) rest
split-row cells x y [] [] all none inside h =
    ((λ c l. h c y (inr (refl, l))), (λ c r f. h c r (inl (elim f [ inl a ↦ omega (arith, ints, a) | inr a ↦ omega (arith, ints, a.0) ]))))
split-row cells x y [] (d ∷ rest) all none inside h = (
  (λ c l. h.1 c y (inr (refl, l)) (inl south)),
  (from, (λ c r f p. h.1 c r (inl (elim f [ inl a ↦ omega (arith, ints, a) | inr a ↦ omega (arith, ints, a.0) ])) p), h.2, h.3),
)
  where
    south : y <ℤ d.y
    south = elim h.0 [ inl l ↦ l | inr e ↦ absurd (none (sym e.0)) ]

    from : IsFrom first_coordinate (one_after y) d.x d.y
    from = elim (less-or-not (one_after y) d.y) [ inl l ↦ inl l | inr l ↦ inr (omega (arith, ints, south, l), (All-head IsInside d rest inside).west) ]
split-row cells x y (cell ∷ row) rest all none inside h =
    let e : cell.y ≡ y = All-head (λ (cell : Cell). cell.y ≡ y) cell row all in
    let more = split-row cells (one_after cell.x) y row rest (All-tail (λ (cell : Cell). cell.y ≡ y) cell row all) none inside
    (subst (λ z. IsRestOf cells (one_after cell.x) z (row ++ rest)) e h.3) in
    let le : x ≤ℤ cell.x = elim h.0 [ inl l ↦ absurd (omega (arith, ints, l, e)) | inr p ↦ p.1 ] in
    ((le, (λ c l u. h.1 c y (inr (refl, l)) (inr (sym e, u))), subst (λ z. cells cell.x z ≡ cell.state) e h.2, more.0), more.1)

-- what is left from a row on is what is left from a later one that the first cell is in
pub later-row : (cells : ℤ → ℤ → ℕ) (y m : ℤ) (rest : List Cell) → BeginsAt m rest → All IsInside rest → IsRestOf cells first_coordinate y rest
    → IsRestOf cells first_coordinate m rest
later-row cells y m [] b inside h = absurd b
later-row cells y m (cell ∷ rest) b inside h =
    let le : y ≤ℤ m = elim h.0 [ inl l ↦ omega (arith, ints, l, b) | inr p ↦ omega (arith, ints, p.0, b) ] in
    (inr (sym b, (All-head IsInside cell rest inside).west), (λ c r f p. h.1 c r (earlier c r le f) p), h.2, h.3)
  where
    earlier : (c r : ℤ) → y ≤ℤ m → IsFrom first_coordinate m c r → IsFrom first_coordinate y c r
    earlier c r le (inl l) = inl (omega (arith, ints, le, l))
    earlier c r le (inr p) = elim (less-or-not y r) [ inl l ↦ inl l | inr l ↦ inr (omega (arith, ints, le, p.0, l), p.1) ]

pub first-row : (cells : ℤ → ℤ → ℕ) (y m : ℤ) (rest : List Cell) → BeginsAt m rest → IsRestOf cells first_coordinate y rest → y ≤ℤ m
first-row cells y m [] b h = absurd b
first-row cells y m (cell ∷ rest) b h = elim h.0 [ inl l ↦ omega (arith, ints, l, b) | inr p ↦ omega (arith, ints, p.0, b) ]

-- between there is no cell
row-gap : (cells : ℤ → ℤ → ℕ) (y m : ℤ) (rest : List Cell) → BeginsAt m rest → IsRestOf cells first_coordinate y rest → (c r : ℤ) → first_coordinate ≤ℤ c
    → y ≤ℤ r → r <ℤ m → cells c r ≡ 0
row-gap cells y m [] b h c r w l u = absurd b
row-gap cells y m (cell ∷ rest) b h c r w l u = h.1 c r (elim (less-or-not y r) [ inl s ↦ inl s | inr s ↦ inr (omega (arith, ints, l, s), w) ])
    (inl (omega (arith, ints, u, b)))

row-none : (cells : ℤ → ℤ → ℕ) (y : ℤ) (rest : List Cell) → length rest ≡ 0 → IsRestOf cells first_coordinate y rest → (c r : ℤ) → first_coordinate ≤ℤ c
    → y ≤ℤ r → cells c r ≡ 0
row-none cells y [] e h c r w l = h c r (elim (less-or-not y r) [ inl s ↦ inl s | inr s ↦ inr (omega (arith, ints, l, s), w) ])
row-none cells y (cell ∷ rest) e h c r w l = absurd (omega (arith, e))

-- a row without cells
IsRest-empty : (states : ℤ → ℕ) (x : ℤ) (row : List Cell) → length row ≡ 0 → ((c : ℤ) → x ≤ℤ c → states c ≡ 0) → IsRest states x row
IsRest-empty states x [] e h = h
IsRest-empty states x (cell ∷ row) e h = absurd (omega (arith, e))

-- a property of every column, from the columns of the plane
on-all : (cells : ℤ → ℤ → ℕ) (r : ℤ) → IsBlankBefore cells → ((c : ℤ) → first_coordinate ≤ℤ c → cells c r ≡ 0) → (c : ℤ) → cells c r ≡ 0
on-all cells r blank h c = elim (less-or-not c first_coordinate) [ inl l ↦ blank.west c r l | inr l ↦ h c l ]

-- three rows without cells
far-row : (cells : ℤ → ℤ → ℕ) (r : ℤ) → ((s c : ℤ) → one_before r ≤ℤ s → s ≤ℤ one_after r → cells c s ≡ 0) → IsFarRow cells r
far-row cells r h x = column-is _ _ _ 0 0 0 (h (one_before r) x (omega (arith, ints)) (omega (arith, ints))) (h r x (omega (arith, ints)) (omega (arith, ints)))
    (h (one_after r) x (omega (arith, ints)) (omega (arith, ints)))

-- from the middle row on there is no cell before a row after which the others are blank
blank-rows : (cells : ℤ → ℤ → ℕ) (b : Band) → IsBlankBefore cells → IsBandOfRows cells b → length b.rows.here.now ≡ 0 → length b.rows.south.now ≡ 0
    → (m : ℤ) → ((c r : ℤ) → first_coordinate ≤ℤ c → (b.y +ℤ pos 2) ≤ℤ r → r <ℤ m → cells c r ≡ 0) → (r c : ℤ) → b.y ≤ℤ r → r <ℤ m → cells c r ≡ 0
blank-rows cells b blank h here south m beyond r c l u = elim (less-or-not r (one_after b.y)) [
  | inl s ↦ subst (λ z. cells c z ≡ 0) (omega (arith, ints, l, s))
      (on-all cells b.y blank (IsRest-none (λ c. cells c b.y) first_coordinate b.rows.here.now here h.rows.here) c)
  | inr s ↦ elim (less-or-not r (b.y +ℤ pos 2)) [
    | inl t ↦ subst (λ z. cells c z ≡ 0) (omega (arith, ints, s, t))
        (on-all cells (one_after b.y) blank (IsRest-none (λ c. cells c (one_after b.y)) first_coordinate b.rows.south.now south h.rows.south) c)
    | inr t ↦ on-all cells r blank (λ c w. beyond c r w t u) c
  ]
]

-- a list divided at a row: the cells in the row, and those after them
pub record IsSplitAtRow (y : ℤ) (cells prefix back : List Cell) : Type 0 where
  pub both : cells ≡ prefix ++ back
  pub row : All (λ cell. cell.y ≡ y) prefix
  pub rest : ¬ BeginsAt y back

pub lengths : (y : ℤ) (cells prefix back : List Cell) → IsSplitAtRow y cells prefix back → length cells ≡ length prefix + length back
lengths y cells prefix back s = ap length s.both ∙ length-append prefix back

-- where the first cell is in the row, some are
some-consumed : (y : ℤ) (cells prefix back : List Cell) → IsSplitAtRow y cells prefix back → BeginsAt y cells → 0 < length prefix
some-consumed y cells [] back s b = absurd (s.rest (subst (BeginsAt y) s.both b))
some-consumed y cells (cell ∷ prefix) back s b = omega arith

-- the next row's three rows: the two that were there, and the new southern one
next-rows : (cells : ℤ → ℤ → ℕ) (y : ℤ) (b : Band) (rows : Rows) → rows.north.now ≡ b.rows.here.now → rows.here.now ≡ b.rows.south.now
    → IsRest (λ c. cells c (one_before y)) first_coordinate b.rows.here.now → IsRest (λ c. cells c y) first_coordinate b.rows.south.now
    → IsRest (λ c. cells c (one_after y)) first_coordinate rows.south.now
    → AreRows cells y first_coordinate rows
next-rows cells y b rows en eh north here south = record {
  north = subst (λ z. IsRest (λ c. cells c (one_before y)) first_coordinate z) (sym en) north;
  here = subst (λ z. IsRest (λ c. cells c y) first_coordinate z) (sym eh) here;
  south = south;
}

pub goes-south : (cells : ℤ → ℤ → ℕ) (b new : Band) → IsBlankBefore cells → IsBandOfRows cells b → All IsInside b.rest.now → IsNextRow b new.y
    → new.rows.north.now ≡ b.rows.here.now → new.rows.here.now ≡ b.rows.south.now → IsSplitAtRow (one_after new.y) b.rest.now new.rows.south.now new.rest.now
    → All IsInside new.rest.now
    → GoesSouth cells b new
goes-south cells b new blank h inside (inl p) en eh s inside' =
    let y = new.y in
    let split = split-row cells first_coordinate (one_after y) new.rows.south.now new.rest.now s.row s.rest inside'
    (subst (λ z. IsRestOf cells first_coordinate (one_after y) z) s.both
    (subst (λ z. IsRestOf cells first_coordinate z b.rest.now) (omega (arith, ints, p.0)) h.rest)) in
    record {
      south = omega (arith, ints, p.0);
      here = record {
        rows = next-rows cells y b new.rows en eh
            (subst (λ z. IsRest (λ c. cells c z) first_coordinate b.rows.here.now) (omega (arith, ints, p.0)) h.rows.here)
            (subst (λ z. IsRest (λ c. cells c z) first_coordinate b.rows.south.now) (omega (arith, ints, p.0)) h.rows.south)
            split.0;
        rest = subst (λ z. IsRestOf cells first_coordinate z new.rest.now) (omega (arith, ints)) split.1;
      };
      passed = λ r l u. absurd (omega (arith, ints, p.0, l, u));
    }
goes-south cells b new blank h inside (inr p) en eh s inside' =
    let split = split-row cells first_coordinate (one_after new.y) new.rows.south.now new.rest.now s.row s.rest inside'
    (subst (λ z. IsRestOf cells first_coordinate (one_after new.y) z) s.both (later-row cells (b.y +ℤ pos 2) (one_after new.y) b.rest.now p.2 inside h.rest)) in
    record {
      south = omega (arith, ints, first);
      here = record {
        rows = next-rows cells new.y b new.rows en eh
            (IsRest-empty (λ c. cells c (one_before new.y)) first_coordinate b.rows.here.now p.0
            (λ c l. none (one_before new.y) c (omega (arith, ints, first)) (omega (arith, ints))))
            (IsRest-empty (λ c. cells c new.y) first_coordinate b.rows.south.now p.1 (λ c l. none new.y c (omega (arith, ints, first)) (omega (arith, ints))))
            split.0;
        rest = subst (λ z. IsRestOf cells first_coordinate z new.rest.now) (omega (arith, ints)) split.1;
      };
      passed = λ r l u. far-row cells r (λ t c w v. none t c (omega (arith, ints, l, w)) (omega (arith, ints, u, v)));
    }
  where
    first : (b.y +ℤ pos 2) ≤ℤ one_after new.y
    first = first-row cells (b.y +ℤ pos 2) (one_after new.y) b.rest.now p.2 h.rest

    none : (r c : ℤ) → b.y ≤ℤ r → r <ℤ one_after new.y → cells c r ≡ 0
    none = blank-rows cells b blank h p.0 p.1 (one_after new.y) (row-gap cells (b.y +ℤ pos 2) (one_after new.y) b.rest.now p.2 h.rest)

-- south of the last band there is no cell
pub last-band : (cells : ℤ → ℤ → ℕ) (b : Band) → IsBlankBefore cells → IsBandOfRows cells b
    → (length b.rows.here.now ≡ 0) × (length b.rows.south.now ≡ 0) × (length b.rest.now ≡ 0) → (r : ℤ) → b.y <ℤ r → IsFarRow cells r
last-band cells b blank h o r l = far-row cells r (λ t c w v.
    blank-rows cells b blank h o.0 o.1 (one_after t) (λ c' r' west low high. row-none cells (b.y +ℤ pos 2) b.rest.now o.2 h.rest c' r' west low) t c
    (omega (arith, ints, l, w)) (omega (arith, ints)))

-- what an if on a number gives
abbrev Case : ℕ → ℕ → Type 0
Case n w = ((n ≡ 0) × ((if n == 0 then 0 else w) ≡ 0)) ⊎ ((0 < n) × ((if n == 0 then 0 else w) ≡ w))

zero-or-more : (n w : ℕ) → Case n w
zero-or-more n w = elim (eqb_tells n 0) [
  | inl t ↦ inl (t.1, ap (λ (b : Bool). if b then 0 else w) t.0)
  | inr f ↦ inr ((let e = f.1 in omega (arith, e)), ap (λ (b : Bool). if b then 0 else w) f.0)
]

-- a step leaves fewer rows before it
band-count : (h s n : ℕ) (rest new : ℕ) → rest ≡ n + new → (0 < n) ⊎ ((0 < h) ⊎ (0 < s))
    → 3 * new + (if n == 0 then 0 else 2) + (if s == 0 then 0 else 1) < 3 * rest + (if s == 0 then 0 else 2) + (if h == 0 then 0 else 1)
band-count h s n rest new e g = sum (zero-or-more n 2) (zero-or-more s 2) (zero-or-more s 1) (zero-or-more h 1)
  where
    sum : Case n 2 → Case s 2 → Case s 1 → Case h 1 → 3 * new + (if n == 0 then 0 else 2) + (if s == 0 then 0 else 1) < 3 * rest + (if s == 0 then 0 else 2)
        + (if h == 0 then 0 else 1)
    sum (inl a) (inl b) (inl c) (inl d) = elim g
        [ inl u ↦ absurd (omega (arith, u, a.0)) | inr v ↦ elim v [ inl u ↦ absurd (omega (arith, u, d.0)) | inr u ↦ absurd (omega (arith, u, b.0)) ] ]
    sum (inl a) (inl b) (inl c) (inr d) = omega (arith, e, a.1, b.1, c.1, d.1, a.0)
    sum (inl a) (inr b) (inr c) (inl d) = omega (arith, e, a.1, b.1, c.1, d.1, a.0)
    sum (inl a) (inr b) (inr c) (inr d) = omega (arith, e, a.1, b.1, c.1, d.1, a.0)
    sum (inr a) (inl b) (inl c) (inl d) = omega (arith, e, a.1, b.1, c.1, d.1, a.0)
    sum (inr a) (inl b) (inl c) (inr d) = omega (arith, e, a.1, b.1, c.1, d.1, a.0)
    sum (inr a) (inr b) (inr c) (inl d) = omega (arith, e, a.1, b.1, c.1, d.1, a.0)
    sum (inr a) (inr b) (inr c) (inr d) = omega (arith, e, a.1, b.1, c.1, d.1, a.0)
    sum a (inl b) (inr c) d = absurd (omega (arith, b.0, c.0))
    sum a (inr b) (inl c) d = absurd (omega (arith, b.0, c.0))

pub fewer-rows : (b new : Band) → IsNextRow b new.y → new.rows.here.now ≡ b.rows.south.now
    → IsSplitAtRow (one_after new.y) b.rest.now new.rows.south.now new.rest.now → rows_left new < rows_left b
fewer-rows b new p eh s =
    subst (λ z. 3 * length new.rest.now + (if length new.rows.south.now == 0 then 0 else 2) + (if length z == 0 then 0 else 1) < rows_left b) (sym eh)
    (band-count (length b.rows.here.now) (length b.rows.south.now) (length new.rows.south.now) (length b.rest.now) (length new.rest.now)
    (lengths (one_after new.y) b.rest.now new.rows.south.now new.rest.now s) (goes p))
  where
    goes : IsNextRow b new.y → (0 < length new.rows.south.now) ⊎ ((0 < length b.rows.here.now) ⊎ (0 < length b.rows.south.now))
    goes (inl q) = inr q.1
    goes (inr q) = inl (some-consumed (one_after new.y) b.rest.now new.rows.south.now new.rest.now s q.2)

pub here-end : (y : ℤ) (b : Band) → IsNextRow b y → (length b.rows.south.now ≡ 0) ⊎ (one_after b.y <ℤ far) → (length b.rows.south.now ≡ 0) ⊎ (y <ℤ far)
here-end y b p (inl e) = inl e
here-end y b (inl p) (inr l) = inr (omega (arith, ints, p.0, l))
here-end y b (inr p) (inr l) = inl p.1

pub south-end : (y : ℤ) (row : List Cell) → All IsInside row → All (λ (cell : Cell). cell.y ≡ y) row → (length row ≡ 0) ⊎ (y <ℤ far)
south-end y [] inside all = inl refl
south-end y (cell ∷ row) inside all = inr (omega (arith, ints, (All-head IsInside cell row inside).south, All-head (λ (cell : Cell). cell.y ≡ y) cell row all))

-- the first cell of a list
pub first-is : (P : Cell → Type 0) (cells : List Cell) (cell : Cell) → Some cell ≡ slice_get cells 0 → All P cells → P cell
first-is P [] cell e all = absurd cc
first-is P (d ∷ rest) cell e all = let same : d ≡ cell = cc in subst P same (All-head P d rest all)

pub begins : (y : ℤ) (cells : List Cell) (cell : Cell) → Some cell ≡ slice_get cells 0 → cell.y ≡ y → BeginsAt y cells
begins y [] cell e at = absurd cc
begins y (d ∷ rest) cell e at = let same : d ≡ cell = cc in ap (λ (c : Cell). c.y) same ∙ at

-- where a cell stands in the middle row or the southern one, the next row is one of the plane, or the first after it
pub next-within : (here south : ℕ) (y : ℤ) → (here ≡ 0) ⊎ (y <ℤ far) → (south ≡ 0) ⊎ (one_after y <ℤ far) → (0 < here) ⊎ (0 < south) → one_after y ≤ℤ far
next-within here south y (inr h) s some = omega (arith, ints, h)
next-within here south y (inl h) (inr s) some = omega (arith, ints, s)
next-within here south y (inl h) (inl s) (inl l) = absurd (omega (arith, h, l))
next-within here south y (inl h) (inl s) (inr l) = absurd (omega (arith, s, l))
