-- Sweeps: what a step to the next place keeps.
use Rattle.std.proofs.Common.{◌≡◌, ℕ, ◌-◌, Bool, false, ◌⊎◌, inl, inr, ℤ, ◌≤ℤ◌, ◌<ℤ◌, List, [], ◌∷◌, length, slice_get, refl, sym, ◌∙◌, ap, subst, arith, true≢false}
use Rattle.std.proofs.lemmas.Int.{ints}
use Rattle.life_table.specs.Meaning.{Answer, Becomes, Ambiguous}
use Rattle.life_base.specs.declared.cell.Run.{Run}
use Rattle.life_strip.specs.Given.{IsNextRunStart, state_by}
use Rattle.life_next.specs.Generation.{one_before, one_after}
use Rattle.life_sweep.specs.Generation.{states_at, zeros}
use Rattle.life_sweep.specs.Rows.{IsFrom, Precedes, IsFar, IsFarRow, IsBlankBefore, column_at, no_column, first_coordinate, IsWindow, GoesOn, states_of_window}
use Rattle.life_sweep.specs.Sweep.{IsDrawnAt, IsFirstAmbiguous, IsSwept, IsSweptRows, IsPut, IsReadyFrom, IsReadyRow}
use Rattle.life_sweep.specs.declared.column.Column.{Column}
use Rattle.life_sweep.specs.declared.window.Window.{Window}
use Rattle.life_sweep.proofs.RowLemmas.{less-or-not, column-is}

list-nine : (a b c d e f g h i : ℕ) → a ≡ 0 → b ≡ 0 → c ≡ 0 → d ≡ 0 → e ≡ 0 → f ≡ 0 → g ≡ 0 → h ≡ 0 → i ≡ 0 → a ∷ b ∷ c ∷ d ∷ e ∷ f ∷ g ∷ h ∷ i ∷ [] ≡ zeros
list-nine a b c d e f g h i ea eb ec ed ee ef eg eh ei = cc

-- far from every cell all states are 0
far-states : (cells : ℤ → ℤ → ℕ) (x y : ℤ) → IsFar cells y x → states_at cells x y ≡ zeros
far-states cells x y far =
    let north = λ (c : Column ℕ). c.north in
    let here = λ (c : Column ℕ). c.here in
    let south = λ (c : Column ℕ). c.south in
    list-nine _ _ _ _ _ _ _ _ _ (ap here far.1) (ap north far.1) (ap north far.2) (ap here far.2) (ap south far.2) (ap south far.1) (ap south far.0)
    (ap here far.0) (ap north far.0)

far-in-row : (cells : ℤ → ℤ → ℕ) (y : ℤ) → IsFarRow cells y → (x : ℤ) → IsFar cells y x
far-in-row cells y h x = (h (one_before x), h x, h (one_after x))

-- west of the plane there is no cell
far-west : (cells : ℤ → ℤ → ℕ) (x y : ℤ) → IsBlankBefore cells → one_after x <ℤ first_coordinate → IsFar cells y x
far-west cells x y blank l = (column (one_before x) (omega (arith, ints, l)), column x (omega (arith, ints, l)), column (one_after x) l)
  where
    column : (c : ℤ) → c <ℤ first_coordinate → column_at cells y c ≡ no_column
    column c l = column-is _ _ _ 0 0 0 (blank.west c (one_before y) l) (blank.west c y l) (blank.west c (one_after y) l)

pub west-column : (cells : ℤ → ℤ → ℕ) (y c : ℤ) → IsBlankBefore cells → c <ℤ first_coordinate → column_at cells y c ≡ no_column
west-column cells y c blank l = column-is _ _ _ 0 0 0 (blank.west c (one_before y) l) (blank.west c y l) (blank.west c (one_after y) l)

-- a place is before the next one if it is before this one, or this one
place-cases : (c r x y : ℤ) → Precedes c r (one_after x) y → Precedes c r x y ⊎ ((c ≡ x) × (r ≡ y))
place-cases c r x y (inl l) = inl (inl l)
place-cases c r x y (inr p) = elim (less-or-not c x) [ inl l ↦ inl (inr (p.0, l)) | inr l ↦ inr (omega (arith, ints, p.1, l), p.0) ]

module _ (A : List ℕ → Answer → Type 0) (cells : ℤ → ℤ → ℕ) where
  far-done : (drawn : ℤ → ℤ → ℕ) (leaves : Bool) (x y : ℤ) → A zeros (Becomes 0) → IsFar cells y x → drawn x y ≡ 0 → IsDrawnAt A cells drawn leaves x y
  far-done drawn leaves x y quiet far e = record { next = 0; answer = subst (λ v. A v (Becomes 0)) (sym (far-states cells x y far)) quiet; kept = λ k. e }

  -- from the rows before y to the first place of the row
  pub into-row : (drawn : ℤ → ℤ → ℕ) (leaves : Bool) (x y : ℤ) → A zeros (Becomes 0) → IsBlankBefore cells → one_after x <ℤ first_coordinate
      → IsSweptRows A cells drawn leaves y → IsSwept A cells drawn leaves (one_after x) y
  into-row drawn leaves x y quiet blank l s = record {
    done = λ c r p. elim p [
      | inl m ↦ s.done c r m
      | inr m ↦ far-done drawn leaves c r quiet (far-west cells c r blank (omega (arith, ints, m.1, l))) (s.clear c r (omega (arith, ints, m.0)))
    ];
    clear = λ c r p. s.clear c r (elim p [ inl m ↦ omega (arith, ints, m) | inr m ↦ omega (arith, ints, m.0) ]);
    left = s.left;
  }

  -- over places that are far from every cell
  pub pass-places : (drawn : ℤ → ℤ → ℕ) (leaves : Bool) (x z y : ℤ) → A zeros (Becomes 0) → x <ℤ z → ((c : ℤ) → x <ℤ c → c <ℤ z → IsFar cells y c)
      → IsSwept A cells drawn leaves (one_after x) y → IsSwept A cells drawn leaves z y
  pass-places drawn leaves x z y quiet l far s = record {
    done = λ c r p. elim p [
      | inl m ↦ s.done c r (inl m)
      | inr m ↦ elim (less-or-not x c) [
        | inl b ↦ subst (λ k. IsDrawnAt A cells drawn leaves c k) (sym m.0)
            (far-done drawn leaves c y quiet (far c b m.1) (s.clear c y (inr (refl, omega (arith, ints, b)))))
        | inr b ↦ s.done c r (inr (m.0, omega (arith, ints, b)))
      ]
    ];
    clear = λ c r p. s.clear c r (elim p [ inl m ↦ inl m | inr m ↦ inr (m.0, omega (arith, ints, m.1, l)) ]);
    left = s.left;
  }

  -- and to the end of a row
  pub out-of-row : (drawn : ℤ → ℤ → ℕ) (leaves : Bool) (x y : ℤ) → A zeros (Becomes 0) → ((c : ℤ) → x <ℤ c → IsFar cells y c)
      → IsSwept A cells drawn leaves (one_after x) y → IsSweptRows A cells drawn leaves (one_after y)
  out-of-row drawn leaves x y quiet far s = record {
    done = λ c r p. elim (less-or-not r y) [
      | inl m ↦ s.done c r (inl m)
      | inr m ↦ elim (less-or-not x c) [
        | inl b ↦ subst (λ k. IsDrawnAt A cells drawn leaves c k) (omega (arith, ints, p, m))
            (far-done drawn leaves c y quiet (far c b) (s.clear c y (inr (refl, omega (arith, ints, b)))))
        | inr b ↦ s.done c r (inr (omega (arith, ints, p, m), omega (arith, ints, b)))
      ]
    ];
    clear = λ c r p. s.clear c r (inl (omega (arith, ints, p)));
    left = s.left;
  }

  -- over rows that are far from every cell
  pub pass-rows : (drawn : ℤ → ℤ → ℕ) (leaves : Bool) (y z : ℤ) → A zeros (Becomes 0) → y ≤ℤ z → ((r : ℤ) → y ≤ℤ r → r <ℤ z → IsFarRow cells r)
      → IsSweptRows A cells drawn leaves y → IsSweptRows A cells drawn leaves z
  pass-rows drawn leaves y z quiet l far s = record {
    done = λ c r p. elim (less-or-not r y) [
      | inl m ↦ s.done c r m
      | inr m ↦ far-done drawn leaves c r quiet (far-in-row cells r (far r m p) c) (s.clear c r m)
    ];
    clear = λ c r p. s.clear c r (omega (arith, ints, p, l));
    left = s.left;
  }

  -- at a place that was put
  pub put-place : (old new : ℤ → ℤ → ℕ) (leaves all : Bool) (x y : ℤ) → IsSwept A cells old leaves x y → IsPut A (states_at cells x y) new leaves all x y
      → ((c r : ℤ) → (c ≡ x → r ≡ y → ⊥) → new c r ≡ old c r) → IsSwept A cells new all (one_after x) y
  put-place old new leaves all x y s put others = record {
    done = λ c r p. elim (place-cases c r x y p) [
      | inl m ↦ kept-before c r m
      | inr m ↦ subst (λ k. IsDrawnAt A cells new all k r) (sym m.0) (subst (λ k. IsDrawnAt A cells new all x k) (sym m.1) here)
    ];
    clear = λ c r p. others c r (λ ex ey. behind c r p ex ey) ∙ s.clear c r (elim p [ inl m ↦ inl m | inr m ↦ inr (m.0, omega (arith, ints, m.1)) ]);
    left = λ e. elim (put.reported e) [
      | inl l ↦ s.left l
      | inr l ↦ record { x = x; y = y; next = put.next; answer = put.answer; outside = l.0; nonzero = l.1 }
    ];
  }
    where
      here : IsDrawnAt A cells new all x y
      here = record { next = put.next; answer = put.answer; kept = put.kept }

      behind : (c r : ℤ) → IsFrom (one_after x) y c r → c ≡ x → r ≡ y → ⊥
      behind c r (inl m) ex ey = omega (arith, ints, m, ey)
      behind c r (inr m) ex ey = omega (arith, ints, m.1, ex)

      before-here : (c r : ℤ) → Precedes c r x y → c ≡ x → r ≡ y → ⊥
      before-here c r (inl m) ex ey = omega (arith, ints, m, ey)
      before-here c r (inr m) ex ey = omega (arith, ints, m.1, ex)

      kept-before : (c r : ℤ) → Precedes c r x y → IsDrawnAt A cells new all c r
      kept-before c r m = let d = s.done c r m in record {
        next = d.next;
        answer = d.answer;
        kept = λ k. others c r (before-here c r m) ∙ d.kept (elim k [ inl e ↦ inl (put.stays e) | inr o ↦ inr o ]);
      }

-- where runs may be given from a place on, they may be given from the next one on
pub ready-next : (runs : List Run) (x y : ℤ) → IsReadyFrom runs x y → IsReadyFrom runs (one_after x) y
ready-next runs x y h c r f = h c r (elim f [ inl l ↦ inl l | inr p ↦ inr (p.0, omega (arith, ints, p.1)) ])

pub ready-later : (runs : List Run) (x z y : ℤ) → x ≤ℤ z → IsReadyFrom runs x y → IsReadyFrom runs z y
ready-later runs x z y le h c r f = h c r (elim f [ inl l ↦ inl l | inr p ↦ inr (p.0, omega (arith, ints, p.1, le)) ])

pub ready-row : (runs : List Run) (x y : ℤ) → IsReadyFrom runs x y → IsReadyRow runs (one_after y)
ready-row runs x y h c r l = h c r (inl (omega (arith, ints, l)))

pub row-ready : (runs : List Run) (x y : ℤ) → IsReadyRow runs y → IsReadyFrom runs x y
row-ready runs x y h c r f = h c r (elim f [ inl l ↦ omega (arith, ints, l) | inr p ↦ omega (arith, ints, p.0) ])

pub nothing-given : (runs : List Run) → runs ≡ [] → (x y : ℤ) → IsNextRunStart runs x y
nothing-given runs none x y last e = absurd (let h = ap (λ (l : List Run). slice_get l (length l - 1)) (sym none) ∙ e in cc)

pub nothing-drawn : (runs : List Run) → runs ≡ [] → (x y : ℤ) → state_by runs x y ≡ 0
nothing-drawn runs none x y = ap (λ (l : List Run). state_by l x y) none

-- the states of a window are those around its place
pub window-states : (cells : ℤ → ℤ → ℕ) (y : ℤ) (z : Window) → IsWindow cells y z → states_of_window z ≡ states_at cells z.x y
window-states cells y z h = cc-states h.west h.middle h.east
  where
    cc-states : z.west ≡ column_at cells y (one_before z.x) → z.middle ≡ column_at cells y z.x → z.east ≡ column_at cells y (one_after z.x)
        → states_of_window z ≡ states_at cells z.x y
    cc-states ew em ee =
        ap (λ (c : Column ℕ). c.here ∷ c.north ∷ z.east.north ∷ z.east.here ∷ z.east.south ∷ c.south ∷ z.west.south ∷ z.west.here ∷ z.west.north ∷ []) em
        ∙ ap (λ (c : Column ℕ). cells z.x y ∷ cells z.x (one_before y) ∷ c.north ∷ c.here ∷ c.south ∷ cells z.x (one_after y) ∷ z.west.south ∷ z.west.here
        ∷ z.west.north ∷ []) ee
        ∙ ap (λ (c : Column ℕ). cells z.x y ∷ cells z.x (one_before y) ∷ cells (one_after z.x) (one_before y) ∷ cells (one_after z.x) y
        ∷ cells (one_after z.x) (one_after y)
        ∷ cells z.x (one_after y) ∷ c.south ∷ c.here ∷ c.north ∷ []) ew

-- from a step of a window to the next place, and then at that place
pub step-in-row : (A : List ℕ → Answer → Type 0) (cells old new : ℤ → ℤ → ℕ) (leaves all : Bool) (y : ℤ) (w z : Window) → A zeros (Becomes 0)
    → GoesOn cells y w z → IsSwept A cells old leaves (one_after w.x) y → (old z.x y ≡ 0 → IsPut A (states_of_window z) new leaves all z.x y)
    → ((c r : ℤ) → (c ≡ z.x → r ≡ y → ⊥) → new c r ≡ old c r) → IsSwept A cells new all (one_after z.x) y
step-in-row A cells old new leaves all y w z quiet on s put others =
    let passed = pass-places A cells old leaves w.x z.x y quiet on.east on.passed s in
    let same = window-states cells y z on.here in
    put-place A cells old new leaves all z.x y passed
    (subst (λ v. IsPut A v new leaves all z.x y) same (put (passed.clear z.x y (inr (refl, omega (arith, ints)))))) others

-- a window stopped at an ambiguous place
pub ambiguous-here : (A : List ℕ → Answer → Type 0) (cells drawn : ℤ → ℤ → ℕ) (leaves : Bool) (y : ℤ) (w z : Window) (line : ℕ) → A zeros (Becomes 0)
    → GoesOn cells y w z → IsSwept A cells drawn leaves (one_after w.x) y → A (states_of_window z) (Ambiguous line) → IsFirstAmbiguous A cells line
ambiguous-here A cells drawn leaves y w z line quiet on s h =
    let passed = pass-places A cells drawn leaves w.x z.x y quiet on.east on.passed s in
    record {
      x = z.x;
      y = y;
      here = subst (λ v. A v (Ambiguous line)) (window-states cells y z on.here) h;
      before = λ c r p. let d = passed.done c r p in (d.next, d.answer);
    }

-- before the first row nothing is drawn
pub start-rows : (A : List ℕ → Answer → Type 0) (cells drawn : ℤ → ℤ → ℕ) (y : ℤ) → A zeros (Becomes 0) → IsBlankBefore cells → one_after y <ℤ first_coordinate
    → ((x r : ℤ) → drawn x r ≡ 0) → IsSweptRows A cells drawn false (one_after y)
start-rows A cells drawn y quiet blank l none = record {
  done = λ c r p. far-done A cells drawn false c r quiet (far-in-row cells r (north r (omega (arith, ints, p, l))) c) (none c r);
  clear = λ c r p. none c r;
  left = λ e. absurd (true≢false (sym e));
}
  where
    north : (r : ℤ) → one_after r <ℤ first_coordinate → IsFarRow cells r
    north r l x = column-is _ _ _ 0 0 0 (blank.north x (one_before r) (omega (arith, ints, l))) (blank.north x r (omega (arith, ints, l)))
        (blank.north x (one_after r) l)

-- after the last row all is drawn
pub all-rows : (A : List ℕ → Answer → Type 0) (cells drawn : ℤ → ℤ → ℕ) (leaves : Bool) (y : ℤ) → A zeros (Becomes 0) → ((r : ℤ) → y <ℤ r → IsFarRow cells r)
    → IsSweptRows A cells drawn leaves (one_after y) → (c r : ℤ) → IsDrawnAt A cells drawn leaves c r
all-rows A cells drawn leaves y quiet far s c r = elim (less-or-not r (one_after y)) [
  | inl l ↦ s.done c r l
  | inr l ↦ far-done A cells drawn leaves c r quiet (far-in-row cells r (far r (omega (arith, ints, l))) c) (s.clear c r l)
]
