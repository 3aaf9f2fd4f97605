-- Facts about the runs that were given.
use Rattle.std.proofs.Common.{◌≡◌, ℕ, zero, suc, ◌-◌, ◌≤◌, ◌<◌, inl, inr, Bool, true, false, ◌&&◌, nat_lt, List, [], ◌∷◌, ◌++◌, length, get_or, All, Some, slice_get, length-append, refl, sym, ◌∙◌, ap, subst, arith, ℤ, pos, ◌+ℤ◌, if◌then◌else◌, int_lt, int_le}
use Rattle.std.specs.Ordering.{int_eq}
use Rattle.std.proofs.Math.Seq.{get_or-append_seam}
use Rattle.std.proofs.lemmas.Int.{ints}
use Rattle.std.proofs.lemmas.List.Quantifiers.{all_pairs_push}
use Rattle.std.proofs.lemmas.Option.{get_or_from_slice_get, slice_get-get_or, slice_get_within}
use Rattle.std.proofs.lemmas.List.Elements.{All-tail}
use Rattle.life_quad.specs.Cells.{IsInRun}
use Rattle.life_base.specs.declared.cell.Run.{Run}
use Rattle.life_strip.specs.Given.{run_covers, state_by, IsAfterRun, IsNextRunStart, AreInOrder, RunsAreApart, RunsGrow}

-- the test of a pair and a run
pub covers-true : (run : Run) (x y : ℤ) → IsInRun run.x run.y run.len x y → run_covers run x y ≡ true
covers-true run x y h =
    let row : int_eq y run.y ≡ true = let e = h.same_row in grind (arith, ints) in
    let from : int_le run.x x ≡ true = let e = h.from in grind (arith, ints) in
    let to : int_lt x (run.x +ℤ pos run.len) ≡ true = let e = h.to in grind (arith, ints) in
    λ i. row i && (from i && to i)

pub covers-run : (run : Run) (x y : ℤ) → run_covers run x y ≡ true → IsInRun run.x run.y run.len x y
covers-run run x y e = by (int_eq y run.y) refl (int_le run.x x) refl (int_lt x (run.x +ℤ pos run.len)) refl
  where
    by : (a : Bool) → int_eq y run.y ≡ a → (b : Bool) → int_le run.x x ≡ b → (c : Bool) → int_lt x (run.x +ℤ pos run.len) ≡ c → IsInRun run.x run.y run.len x y
    by true p true q true r = record { same_row = grind (arith, ints); from = grind (arith, ints); to = grind (arith, ints) }
    by true p true q false r = absurd (let f : false ≡ true = sym (λ i. p i && (q i && r i)) ∙ e in cc)
    by true p false q c r = absurd (let f : false ≡ true = sym (λ i. p i && (q i && int_lt x (run.x +ℤ pos run.len))) ∙ e in cc)
    by false p b q c r = absurd (let f : false ≡ true = sym (λ i. p i && (int_le run.x x && int_lt x (run.x +ℤ pos run.len))) ∙ e in cc)

-- a run and one after it have no pair in common
pub behind-apart : (a b : Run) (x y : ℤ) → IsAfterRun a b.x b.y → IsInRun a.x a.y a.len x y → IsInRun b.x b.y b.len x y → ⊥
behind-apart a b x y (inl h) p q = let e = p.same_row in let f = q.same_row in omega (arith, ints, h, e, f)
behind-apart a b x y (inr (e, h)) p q = let f = p.to in let g = q.from in omega (arith, ints, h, f, g)

-- after a run that is after another one
behind-later : (a b : Run) (x y : ℤ) → IsAfterRun a b.x b.y → IsAfterRun b x y → IsAfterRun a x y
behind-later a b x y (inl h) (inl k) = inl (omega (arith, ints, h, k))
behind-later a b x y (inl h) (inr (e, k)) = inl (omega (arith, ints, h, e))
behind-later a b x y (inr (e, h)) (inl k) = inl (omega (arith, ints, e, k))
behind-later a b x y (inr (e, h)) (inr (f, k)) = inr (e ∙ f, omega (arith, ints, h, k))

-- after the last run is after all
pub behind-all : (runs : List Run) (x y : ℤ) → AreInOrder runs → IsNextRunStart runs x y → (k : ℕ) (d : Run) → k < length runs
    → IsAfterRun (get_or runs k d) x y
behind-all runs x y order next k d lt = by (nat_lt k (length runs - 1)) refl
  where
    last : Run
    last = get_or runs (length runs - 1) d

    behind : IsAfterRun last x y
    behind = next last (slice_get-get_or runs (length runs - 1) d (omega (arith, lt)))

    by : (b : Bool) → nat_lt k (length runs - 1) ≡ b → IsAfterRun (get_or runs k d) x y
    by true e =
        let before : k < length runs - 1 = grind (arith, e) in
        behind-later (get_or runs k d) last x y (order k (length runs - 1) d before (omega (arith, lt))) behind
    by false e =
        let beyond : length runs - 1 ≤ k = grind (arith, e) in
        let same : length runs - 1 ≡ k = omega (arith, beyond, lt) in
        subst (λ n. IsAfterRun (get_or runs n d) x y) same behind

-- one run more, in order
pub order-push : (runs : List Run) (run : Run) → AreInOrder runs → IsNextRunStart runs run.x run.y → AreInOrder (runs ++ run ∷ [])
order-push runs run order next = all_pairs_push (λ a b. IsAfterRun a b.x b.y) runs run order (behind-all runs run.x run.y order next)

before_last : (runs : List Run) (run : Run) → length (runs ++ run ∷ []) - 1 ≡ length runs
before_last runs run = let n = length-append runs (run ∷ []) in omega (arith, n)

-- the next run is judged by the last one
pub next-push : (runs : List Run) (run : Run) (x y : ℤ) → IsAfterRun run x y → IsNextRunStart (runs ++ run ∷ []) x y
next-push runs run x y h last e =
    let all = runs ++ run ∷ [] in
    let same : run ≡ last =
    sym (get_or-append_seam runs run [] run) ∙ ap (λ k. get_or all k run) (sym (before_last runs run))
    ∙ get_or_from_slice_get all (length all - 1) last run e in
    subst (λ r. IsAfterRun r x y) same h

pub next-last : (runs : List Run) (run : Run) (x y : ℤ) → IsNextRunStart (runs ++ run ∷ []) x y → IsAfterRun run x y
next-last runs run x y h =
    let all = runs ++ run ∷ [] in
    let n = length-append runs (run ∷ []) in
    h run (slice_get-get_or all (length all - 1) run (omega (arith, n)) ∙ ap (λ k. Some (get_or all k run)) (before_last runs run)
    ∙ ap Some (get_or-append_seam runs run [] run))

-- the states with one run more
state_by-outside : (runs : List Run) (run : Run) (x y : ℤ) → run_covers run x y ≡ false → state_by (runs ++ run ∷ []) x y ≡ state_by runs x y
state_by-outside [] run x y e = ap (λ b. if b then run.state else 0) e
state_by-outside (a ∷ runs) run x y e = ap (λ n. if run_covers a x y then a.state else n) (state_by-outside runs run x y e)

state_by-inside : (runs : List Run) (run : Run) (x y : ℤ) → All (λ a. run_covers a x y ≡ false) runs → run_covers run x y ≡ true
    → state_by (runs ++ run ∷ []) x y ≡ run.state
state_by-inside [] run x y h e = ap (λ b. if b then run.state else 0) e
state_by-inside (a ∷ runs) run x y h e =
    ap (λ b. if b then a.state else state_by (runs ++ run ∷ []) x y) (h 0 a (omega arith))
    ∙ state_by-inside runs run x y (All-tail (λ r. run_covers r x y ≡ false) a runs h) e

-- a pair that another run has is not in this one
not_covered : (a b : Run) (x y : ℤ) → IsAfterRun a b.x b.y → IsInRun b.x b.y b.len x y → run_covers a x y ≡ false
not_covered a b x y behind h = by (run_covers a x y) refl
  where
    by : (t : Bool) → run_covers a x y ≡ t → run_covers a x y ≡ false
    by true e = absurd (behind-apart a b x y behind (covers-run a x y e) h)
    by false e = e

-- what is filled with one run more has the states of the runs and that one
pub state_by-push : (runs : List Run) (run : Run) (x y : ℤ) (before after : ℕ) → AreInOrder runs → IsNextRunStart runs run.x run.y
    → before ≡ state_by runs x y
    → (IsInRun run.x run.y run.len x y → after ≡ run.state) → (¬ IsInRun run.x run.y run.len x y → after ≡ before) → after ≡ state_by (runs ++ run ∷ []) x y
state_by-push runs run x y before after order next e inside outside = by (run_covers run x y) refl
  where
    by : (t : Bool) → run_covers run x y ≡ t → after ≡ state_by (runs ++ run ∷ []) x y
    by true f =
        let h = covers-run run x y f in
        inside h ∙ sym (state_by-inside runs run x y (λ k d lt. not_covered (get_or runs k d) run x y (behind-all runs run.x run.y order next k d lt) h) f)
    by false f =
        let out : ¬ IsInRun run.x run.y run.len x y = λ h. let g : false ≡ true = sym f ∙ covers-true run x y h in cc in
        outside out ∙ e ∙ sym (state_by-outside runs run x y f)

-- the state of a pair that a run has
state_by-run : (runs : List Run) (i : ℕ) (a : Run) (x y : ℤ) → AreInOrder runs → slice_get runs i ≡ Some a → IsInRun a.x a.y a.len x y
    → state_by runs x y ≡ a.state
state_by-run [] i a x y order e h = absurd cc
state_by-run (r ∷ runs) zero a x y order e h =
    let same : r ≡ a = cc in
    ap (λ b. if b then r.state else state_by runs x y) (subst (λ z. run_covers z x y ≡ true) (sym same) (covers-true a x y h)) ∙ ap (λ z. z.state) same
state_by-run (r ∷ runs) (suc i) a x y order e h =
    let lt = slice_get_within runs i a e in
    let is : get_or runs i r ≡ a = get_or_from_slice_get runs i a r e in
    let behind : IsAfterRun r a.x a.y = subst (λ z. IsAfterRun r z.x z.y) is (order 0 (suc i) r (omega arith) (omega (arith, lt))) in
    ap (λ b. if b then r.state else state_by runs x y) (not_covered r a x y behind h)
    ∙ state_by-run runs i a x y (λ k l d kl ll. order (suc k) (suc l) d (omega (arith, kl)) (omega (arith, ll))) e h

-- at most one of them has a pair
pub runs-apart : RunsAreApart
runs-apart runs i j a b x y order ea eb ha hb = (by (nat_lt i j) refl (nat_lt j i) refl, state_by-run runs i a x y order ea ha)
  where
    apart : (k l : ℕ) (c d : Run) → k < l → slice_get runs k ≡ Some c → slice_get runs l ≡ Some d → IsInRun c.x c.y c.len x y → IsInRun d.x d.y d.len x y
        → ⊥
    apart k l c d kl ec ed hc hd =
        let lt = slice_get_within runs l d ed in
        let first = get_or_from_slice_get runs k c c ec in
        let second = get_or_from_slice_get runs l d c ed in
        behind-apart c d x y (subst (λ z. IsAfterRun z d.x d.y) first (subst (λ z. IsAfterRun (get_or runs k c) z.x z.y) second (order k l c kl lt))) hc hd

    by : (p : Bool) → nat_lt i j ≡ p → (q : Bool) → nat_lt j i ≡ q → i ≡ j
    by true e q f = absurd (let lt : i < j = grind (arith, e) in apart i j a b lt ea eb ha hb)
    by false e true f = absurd (let lt : j < i = grind (arith, f) in apart j i b a lt eb ea hb ha)
    by false e false f = let le : j ≤ i = grind (arith, e) in let ge : i ≤ j = grind (arith, f) in omega (arith, le, ge)

-- one run more
pub runs_grow : RunsGrow
runs_grow runs run x y = (
  (next-last runs run x y, next-push runs run x y),
  λ order next state inside outside. state_by-push runs run x y (state_by runs x y) state order next refl inside outside,
)
