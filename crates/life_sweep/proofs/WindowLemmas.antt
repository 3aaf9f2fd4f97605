-- Windows: what a step to the next place keeps.
use Rattle.std.proofs.Common.{◌≡◌, ℕ, ◌+◌, ◌*◌, ◌<◌, Bool, true, false, ◌⊎◌, inl, inr, ℤ, pos, ◌+ℤ◌, ◌≤ℤ◌, ◌<ℤ◌, sym, ◌∙◌, ap, subst, arith, true≢false, if◌then◌else◌}
use Rattle.std.proofs.lemmas.Int.{ints}
use Rattle.life_next.specs.Generation.{one_before, one_after}
use Rattle.life_sweep.specs.Rows.{Rows, StartsFrom, SomeStartsAt, InRows, AreRows, AreSortedFrom, column_at, no_column, is_blank_column, left_in, IsWindow, IsNextPlace, GoesOn, steps_left, far}
use Rattle.life_sweep.specs.declared.column.Column.{Column}
use Rattle.life_sweep.specs.declared.window.Window.{Window}
use Rattle.life_sweep.proofs.RowLemmas.{AreRows-later, AreRows-gap, AreRows-first, blank-is, less-or-not}

-- between the middle column and the first cell that is left there is none
blank-between : (cells : ℤ → ℤ → ℕ) (y m : ℤ) (w : Window) → IsWindow cells y w → is_blank_column w.middle ≡ true → is_blank_column w.east ≡ true
    → InRows (StartsFrom m) w.rows → (c : ℤ) → w.x ≤ℤ c → c <ℤ m → column_at cells y c ≡ no_column
blank-between cells y m w h bm be s c l u = by split
  where
    split : (c ≡ w.x) ⊎ ((c ≡ one_after w.x) ⊎ ((w.x +ℤ pos 2) ≤ℤ c))
    split = elim (less-or-not c (one_after w.x)) [
      | inl b ↦ inl (omega (arith, ints, l, b))
      | inr b ↦ elim (less-or-not c (w.x +ℤ pos 2)) [ inl d ↦ inr (inl (omega (arith, ints, b, d))) | inr d ↦ inr (inr d) ]
    ]

    by : (c ≡ w.x) ⊎ ((c ≡ one_after w.x) ⊎ ((w.x +ℤ pos 2) ≤ℤ c)) → column_at cells y c ≡ no_column
    by (inl e) = subst (λ z. column_at cells y z ≡ no_column) (sym e) (sym h.middle ∙ blank-is w.middle bm)
    by (inr (inl e)) = subst (λ z. column_at cells y z ≡ no_column) (sym e) (sym h.east ∙ blank-is w.east be)
    by (inr (inr le)) = AreRows-gap cells y (w.x +ℤ pos 2) m w.rows s h.rows c le u

-- the window at the next place
abbrev pub at : ℤ → Column ℕ → Rows → Window → Window
at x east rows w = record { x = x; west = w.middle; middle = w.east; east = east; rows = rows }

-- the rows from the column after the next place on
pub ready-rows : (cells : ℤ → ℤ → ℕ) (y x : ℤ) (w : Window) → AreRows cells y (w.x +ℤ pos 2) w.rows → IsNextPlace w x → AreRows cells y (one_after x) w.rows
ready-rows cells y x w h (inl p) = subst (λ z. AreRows cells y z w.rows) (omega (arith, ints, p.0)) h
ready-rows cells y x w h (inr p) = AreRows-later cells y (w.x +ℤ pos 2) (one_after x) w.rows (AreRows-first cells y (w.x +ℤ pos 2) (one_after x) w.rows p.3 h)
    p.2 h

pub ready : (cells : ℤ → ℤ → ℕ) (y x : ℤ) (w : Window) → IsWindow cells y w → IsNextPlace w x → AreRows cells y (one_after x) w.rows
ready cells y x w h p = ready-rows cells y x w h.rows p

-- the next place is east of the middle column
pub goes-east : (x : ℤ) (w : Window) → AreSortedFrom (w.x +ℤ pos 2) w.rows → IsNextPlace w x → w.x <ℤ x
goes-east x w h (inl p) = omega (arith, ints, p.0)
goes-east x w h (inr p) = omega (arith, ints, AreRows-first h.0 h.1 (w.x +ℤ pos 2) (one_after x) w.rows p.3 h.2)

pub goes-on : (cells : ℤ → ℤ → ℕ) (y x : ℤ) (w : Window) (east : Column ℕ) (rows : Rows) → IsWindow cells y w → IsNextPlace w x
    → east ≡ column_at cells y (one_after x) → AreRows cells y (one_after (one_after x)) rows → GoesOn cells y w (at x east rows w)
goes-on cells y x w east rows h (inl p) e r = record {
  east = omega (arith, ints, p.0);
  here = record {
    west = h.middle ∙ ap (column_at cells y) (omega (arith, ints, p.0));
    middle = h.east ∙ ap (column_at cells y) (sym p.0);
    east = e;
    rows = subst (λ z. AreRows cells y z rows) (omega (arith, ints)) r;
  };
  passed = λ c l u. absurd (omega (arith, ints, p.0, l, u));
}
goes-on cells y x w east rows h (inr p) e r = record {
  east = omega (arith, ints, first);
  here = record {
    west = blank-is w.middle p.0 ∙ sym (blank (one_before x) (omega (arith, ints, first)) (omega (arith, ints)));
    middle = blank-is w.east p.1 ∙ sym (blank x (omega (arith, ints, first)) (omega (arith, ints)));
    east = e;
    rows = subst (λ z. AreRows cells y z rows) (omega (arith, ints)) r;
  };
  passed = λ c l u. (
    blank (one_before c) (omega (arith, ints, l)) (omega (arith, ints, u)),
    blank c (omega (arith, ints, l)) (omega (arith, ints, u)),
    blank (one_after c) (omega (arith, ints, l)) (omega (arith, ints, u)),
  );
}
  where
    first : (w.x +ℤ pos 2) ≤ℤ one_after x
    first = AreRows-first cells y (w.x +ℤ pos 2) (one_after x) w.rows p.3 h.rows

    blank : (c : ℤ) → w.x ≤ℤ c → c <ℤ one_after x → column_at cells y c ≡ no_column
    blank = blank-between cells y (one_after x) w h p.0 p.1 p.2

count-consumed : (middle east next : Bool) (old new : ℕ) → new < old
    → 3 * new + (if next then 0 else 2) + (if east then 0 else 1) < 3 * old + (if east then 0 else 2) + (if middle then 0 else 1)
count-consumed middle true true old new l = omega (arith, l)
count-consumed middle true false old new l = omega (arith, l)
count-consumed middle false true old new l = omega (arith, l)
count-consumed middle false false old new l = omega (arith, l)

count : (middle east next : Bool) (old new : ℕ) → (middle ≡ false) ⊎ (east ≡ false) → ((new ≡ old) × (next ≡ true)) ⊎ (new < old)
    → 3 * new + (if next then 0 else 2) + (if east then 0 else 1) < 3 * old + (if east then 0 else 2) + (if middle then 0 else 1)
count middle east next old new b (inr l) = count-consumed middle east next old new l
count true true next old new (inl b) (inl e) = absurd (true≢false b)
count true true next old new (inr b) (inl e) = absurd (true≢false b)
count false true true old new b (inl e) = omega (arith, e.0)
count true false true old new b (inl e) = omega (arith, e.0)
count false false true old new b (inl e) = omega (arith, e.0)
count false true false old new b (inl e) = absurd (true≢false (sym e.1))
count true false false old new b (inl e) = absurd (true≢false (sym e.1))
count false false false old new b (inl e) = absurd (true≢false (sym e.1))

-- a step leaves fewer before it
pub fewer-steps : (x : ℤ) (w : Window) (east : Column ℕ) (rows : Rows) → IsNextPlace w x
    → ((left_in rows ≡ left_in w.rows) × (is_blank_column east ≡ true)) ⊎ (left_in rows < left_in w.rows)
    → (SomeStartsAt (one_after x) w.rows → left_in rows < left_in w.rows) → steps_left (at x east rows w) < steps_left w
fewer-steps x w east rows (inl p) f consumed =
    count (is_blank_column w.middle) (is_blank_column w.east) (is_blank_column east) (left_in w.rows) (left_in rows) p.1
    f
fewer-steps x w east rows (inr p) f consumed = count-consumed (is_blank_column w.middle) (is_blank_column w.east) (is_blank_column east) (left_in w.rows)
    (left_in rows) (consumed p.3)

pub middle-end : (x : ℤ) (w : Window) → IsNextPlace w x → (is_blank_column w.east ≡ true) ⊎ (one_after w.x <ℤ far) → (is_blank_column w.east ≡ true)
    ⊎ (x <ℤ far)
middle-end x w p (inl b) = inl b
middle-end x w (inl p) (inr l) = inr (omega (arith, ints, p.0, l))
middle-end x w (inr p) (inr l) = inl p.1
