-- Runs have no more cells than their lengths say together, so a pattern of runs has no more cells that aren't 0.
use Rattle.std.proofs.Common.{◌≡◌, ◌≢◌, ℕ, suc, ◌+◌, ◌-◌, ◌≤◌, Bool, true, false, not, List, [], ◌∷◌, length, refl, ◌∙◌, subst, arith, ◌⊎◌, inl, inr, ℤ, pos, ◌+ℤ◌, ◌≤ℤ◌, ◌<ℤ◌, int_le, int_lt, ◌&&◌, cond, Contains, AllPairs, filter}
use Rattle.std.specs.Ordering.{int_eq}
use Rattle.std.proofs.lemmas.Int.{ints}
use Rattle.std.proofs.lemmas.List.Filters.{length-filter_both}
use Rattle.std.proofs.lemmas.List.Kept.{AllPairs-filter}
use Rattle.life_base.proofs.Members.{in_cases, in_head, in_tail, in_none}
use Rattle.life_base.specs.declared.cell.Cell.{Cell}
use Rattle.life_base.specs.declared.cell.Run.{Run}
use Rattle.life_quad.specs.Cells.{IsBefore}
use Rattle.life_rows.specs.Stepping.{run_cells}
use Rattle.life_strip.specs.Given.{run_covers, state_by}

-- ---- what passes a test

kept : (p : Cell → Bool) (cells : List Cell) (d : Cell) → Contains (filter p cells) d → Contains cells d × (p d ≡ true)
kept p [] d h = absurd (in_none d h)
kept p (c ∷ cells) d h = by (λ k. kept p cells d k) (p c) refl h
  where
    by : (Contains (filter p cells) d → Contains cells d × (p d ≡ true)) → (b : Bool) → p c ≡ b → Contains (cond b (c ∷ filter p cells) (filter p cells)) d
        → Contains (c ∷ cells) d × (p d ≡ true)
    by rest false e k = let r = rest k in (in_tail c cells d r.0, r.1)
    by rest true e k = elim (in_cases c (filter p cells) d k) [
      | inl s ↦ (subst (Contains (c ∷ cells)) s (in_head c cells), subst (λ (z : Cell). p z ≡ true) s e)
      | inr l ↦ let r = rest l in (in_tail c cells d r.0, r.1)
    ]

-- ---- cells in order

first-before : (c : Cell) (cells : List Cell) → AllPairs IsBefore (c ∷ cells) → (d : Cell) → Contains cells d → IsBefore c d
first-before c cells h d k = subst (λ (z : Cell). IsBefore c z) k.2 (h 0 (suc k.0) d (omega arith) (omega (arith, k.1)))

later : (c : Cell) (cells : List Cell) → AllPairs IsBefore (c ∷ cells) → AllPairs IsBefore cells
later c cells h = λ i j d l m. h (suc i) (suc j) d (omega (arith, l)) (omega (arith, m))

-- (x, y) is a cell of the run, at most so many columns from its end
record IsNearEnd (run : Run) (n : ℕ) (x y : ℤ) : Type 0 where
  covers : run_covers run x y ≡ true
  near : (run.x +ℤ pos run.len) ≤ℤ (x +ℤ pos n)

near-some : (a b x y : ℤ) (len n : ℕ) → (int_eq y b && (int_le a x && int_lt x (a +ℤ pos len))) ≡ true → (a +ℤ pos len) ≤ℤ (x +ℤ pos n) → 1 ≤ n
near-some a b x y len n h l = grind (arith, ints)

-- the one in the east is a column nearer
nearer : (a b x y u v : ℤ) (len n : ℕ) → (int_eq y b && (int_le a x && int_lt x (a +ℤ pos len))) ≡ true
    → (int_eq v b && (int_le a u && int_lt u (a +ℤ pos len))) ≡ true → (a +ℤ pos len) ≤ℤ (x +ℤ pos n) → 1 ≤ n
    → (y <ℤ v) ⊎ ((y ≡ v) × (x <ℤ u)) → (a +ℤ pos len) ≤ℤ (u +ℤ pos (n - 1))
nearer a b x y u v len n h k l o s = grind (arith, ints)

covered : (run : Run) (n : ℕ) (cells : List Cell) → AllPairs IsBefore cells → ((d : Cell) → Contains cells d → IsNearEnd run n d.x d.y) → length cells ≤ n
covered run n [] pairs h = omega arith
covered run n (c ∷ cells) pairs h =
    let here = h c (in_head c cells) in
    let some : 1 ≤ n = near-some run.x run.y c.x c.y run.len n here.covers here.near in
    let rest : length cells ≤ n - 1 = covered run (n - 1) cells (later c cells pairs)
    (λ d k. let there = h d (in_tail c cells d k) in
    record {
      covers = there.covers;
      near = nearer run.x run.y c.x c.y d.x d.y run.len n here.covers there.covers here.near some (first-before c cells pairs d k);
    }) in
    omega (arith, some, rest)

-- every cell of a run is no further from the run's end than the run is long
whole-run : (a b x y : ℤ) (len : ℕ) → (int_eq y b && (int_le a x && int_lt x (a +ℤ pos len))) ≡ true → (a +ℤ pos len) ≤ℤ (x +ℤ pos len)
whole-run a b x y len h = grind (arith, ints)

not-covered : (run : Run) (runs : List Run) (x y : ℤ) → not (run_covers run x y) ≡ true → state_by (run ∷ runs) x y ≡ state_by runs x y
not-covered run runs x y h = by (run_covers run x y) h
  where
    by : (b : Bool) → not b ≡ true → cond b run.state (state_by runs x y) ≡ state_by runs x y
    by false e = refl
    by true e = cc

-- cells in order that aren't 0 are no more than the cells of the runs
pub few-cells : (runs : List Run) (cells : List Cell) → AllPairs IsBefore cells → ((d : Cell) → Contains cells d → state_by runs d.x d.y ≢ 0)
    → length cells ≤ run_cells runs
few-cells [] [] pairs h = omega arith
few-cells [] (c ∷ cells) pairs h = absurd (h c (in_head c cells) refl)
few-cells (run ∷ runs) cells pairs h =
    let p : Cell → Bool = λ (c : Cell). run_covers run c.x c.y in
    let q : Cell → Bool = λ (c : Cell). not (run_covers run c.x c.y) in
    let ours : length (filter p cells) ≤ run.len = covered run run.len (filter p cells) (AllPairs-filter IsBefore p cells pairs)
    (λ d k. let r = kept p cells d k in record { covers = r.1; near = whole-run run.x run.y d.x d.y run.len r.1 }) in
    let others : length (filter q cells) ≤ run_cells runs = few-cells runs (filter q cells) (AllPairs-filter IsBefore q cells pairs)
    (λ d k e. let r = kept q cells d k in h d r.0 (not-covered run runs d.x d.y r.1 ∙ e)) in
    let all : length (filter p cells) + length (filter q cells) ≡ length cells = length-filter_both p q (λ x. refl) cells in
    omega (arith, ours, others, all)
