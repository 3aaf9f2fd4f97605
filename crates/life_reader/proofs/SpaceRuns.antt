-- The squares of runs so far are squares of all runs.
use Rattle.std.proofs.Common.{◌≡◌, ℕ, ◌*◌, ◌^◌, ◌+◌, ◌-◌, true, ◌<◌, ◌≤◌, false, cond, List, [], ◌∷◌, ◌++◌, refl, ap, sym, ◌∙◌, subst, arith, inl, inr, append_assoc, ℤ, pos, negsuc, neg_ℤ, ◌+ℤ◌, ◌≤ℤ◌, ◌<ℤ◌, ◌-ℤ◌, nat_abs}
use Rattle.std.specs.List.{AllByRecursion}
use Rattle.std.proofs.lemmas.Bool.{cases_lt}
use Rattle.std.proofs.lemmas.Int.{ints}
use Rattle.life_base.specs.declared.cell.TheConstants.{MAX_LEVEL}
use Rattle.life_base.specs.declared.cell.Run.{Run}
use Rattle.life_base.specs.declared.rule.Rule.{Rule}
use Rattle.life_base.specs.Tree.{Tree}
use Rattle.life_rle.specs.RunsLaw.{IsGoodRun, AreGoodRuns, StandsBefore, StandsBeforeAll, AreRunsInOrder, has_cell, rle_state_by}
use Rattle.life_strip.specs.Given.{half_plane, state_by, by_columns}
use Rattle.life_strip.specs.Middle.{AreSouth}
use Rattle.life_strip.specs.Needed.{SomeSquare}
use Rattle.life_strip.proofs.NeededLemmas.{SomeSquare-within}
use Rattle.life_reader.specs.Needs.{SomeOfRuns}

-- runs in later rows
all-later : (runs : List Run) (x y : ℤ) → AllByRecursion (λ (r : Run). y <ℤ r.y) runs → rle_state_by runs x y ≡ 0
all-later [] x y h = refl
all-later (run ∷ runs) x y h =
    let off : has_cell run x y ≡ false = let l = h.0 in grind (arith, ints) in
    ap (λ t. cond t run.state (rle_state_by runs x y)) off ∙ all-later runs x y h.1

behind-later : (run : Run) (runs : List Run) (y : ℤ) → y <ℤ run.y → StandsBeforeAll run runs → AllByRecursion (λ (r : Run). y <ℤ r.y) runs
behind-later run [] y h s = tt
behind-later run (r ∷ runs) y h s = (one s.0, behind-later run runs y h s.1)
  where
    one : StandsBefore run r → y <ℤ r.y
    one (inl l) = omega (arith, ints, l, h)
    one (inr e) = omega (arith, ints, e.0, h)

-- above the row of a run the runs before it are all
above-run : (before : List Run) (run : Run) (behind : List Run) (x y : ℤ) → AreRunsInOrder (before ++ run ∷ behind) → y <ℤ run.y
    → state_by before x y ≡ rle_state_by (before ++ run ∷ behind) x y
above-run [] run behind x y o h = sym (all-later (run ∷ behind) x y (h, behind-later run behind y h o.0))
above-run (a ∷ before) run behind x y o h = ap (λ (n : ℕ). cond (has_cell a x y) a.state n) (above-run before run behind x y o.1 h)

good-at : (level : ℕ) (rule : Rule) (before : List Run) (run : Run) (behind : List Run) → AreGoodRuns level rule (before ++ run ∷ behind)
    → IsGoodRun level rule run
good-at level rule [] run behind g = g.0
good-at level rule (a ∷ before) run behind g = good-at level rule before run behind g.1

from_half : (e z : ℤ) → neg_ℤ e ≤ℤ z → (n : ℕ) × (z +ℤ e ≡ pos n)
from_half e z h = by (z +ℤ e) refl
  where
    by : (w : ℤ) → z +ℤ e ≡ w → (n : ℕ) × (z +ℤ e ≡ pos n)
    by (pos n) f = (n, f)
    by (negsuc n) f = absurd (omega (arith, ints, f, h))

above-row : (e z : ℤ) (n j : ℕ) → z +ℤ e ≡ pos n → j < n → (pos j -ℤ e) <ℤ z
above-row e z n j f l = omega (arith, ints, f, l)

within-rows : (z : ℤ) (n h : ℕ) → z +ℤ pos h ≡ pos n → z <ℤ pos h → n ≤ 2 * h
within-rows z n h f l = omega (arith, ints, f, l)

pub squares-of-runs : (P : Tree → Type 0) (rule : Rule) (runs more all : List Run) → all ≡ runs ++ more → AreGoodRuns MAX_LEVEL rule all → AreRunsInOrder all
    → SomeOfRuns P runs → SomeSquare P (2 ^ MAX_LEVEL) (by_columns (rle_state_by all))
squares-of-runs P rule runs more all e good order s =
    let whole : all ≡ s.before ++ s.run ∷ (s.behind ++ more) = e ∙ ap (λ (l : List Run). l ++ more) s.are ∙ append_assoc s.before (s.run ∷ s.behind) more in
    let one = good-at MAX_LEVEL rule s.before s.run (s.behind ++ more) (subst (AreGoodRuns MAX_LEVEL rule) whole good) in
    let ordered = subst AreRunsInOrder whole order in
    let rows = from_half (pos half_plane) s.run.y one.top in
    let few : rows.0 ≤ 2 * half_plane = within-rows s.run.y rows.0 half_plane rows.1 one.bottom in
    let at : nat_abs (s.run.y +ℤ pos half_plane) ≡ rows.0 = ap nat_abs rows.1 in
    let fits : nat_abs (s.run.y +ℤ pos half_plane) ≤ 2 ^ MAX_LEVEL = omega (arith, at, few) in
    SomeSquare-within fits
    (λ i j li lj.
    above-run s.before s.run (s.behind ++ more) (pos i -ℤ pos half_plane) (pos j -ℤ pos half_plane) ordered
    (above-row (pos half_plane) s.run.y rows.0 j rows.1 (omega (arith, lj, at)))
    ∙ ap (λ (l : List Run). rle_state_by l (pos i -ℤ pos half_plane) (pos j -ℤ pos half_plane)) (sym whole))
    s.above

-- ---- the same above the southern end of the square about (0, 0)

apart-run : (a run : Run) → StandsBefore a run → has_cell a run.x run.y ≡ false
apart-run a run (inl l) = grind (arith, ints, l)
apart-run a run (inr e) = let f = e.0 in let g = e.1 in grind (arith, ints, f, g)

stands-one : (a : Run) (before : List Run) (run : Run) (behind : List Run) → StandsBeforeAll a (before ++ run ∷ behind) → StandsBefore a run
stands-one a [] run behind s = s.0
stands-one a (b ∷ before) run behind s = stands-one a before run behind s.1

-- the first cell of a run has its state
run-here : (before : List Run) (run : Run) (behind : List Run) → AreRunsInOrder (before ++ run ∷ behind) → 1 ≤ run.len
    → rle_state_by (before ++ run ∷ behind) run.x run.y ≡ run.state
run-here [] run behind o some =
    let on : has_cell run run.x run.y ≡ true = grind (arith, ints, some) in
    ap (λ t. cond t run.state (rle_state_by behind run.x run.y)) on
run-here (a ∷ before) run behind o some =
    ap (λ t. cond t a.state (rle_state_by (before ++ run ∷ behind) run.x run.y)) (apart-run a run (stands-one a before run behind o.0))
    ∙ run-here before run behind o.1 some

pub south-of-runs : (P : Tree → Type 0) (rule : Rule) (runs more all : List Run) → all ≡ runs ++ more → AreGoodRuns MAX_LEVEL rule all → AreRunsInOrder all
    → (n : ℕ) → n ≤ MAX_LEVEL → (n < MAX_LEVEL → AreSouth n (rle_state_by all)) → SomeOfRuns P runs
    → SomeSquare P (half_plane + 2 ^ (n - 1)) (by_columns (rle_state_by all))
south-of-runs P rule runs more all e good order n high south s =
    let whole : all ≡ s.before ++ s.run ∷ (s.behind ++ more) = e ∙ ap (λ (l : List Run). l ++ more) s.are ∙ append_assoc s.before (s.run ∷ s.behind) more in
    let one = good-at MAX_LEVEL rule s.before s.run (s.behind ++ more) (subst (AreGoodRuns MAX_LEVEL rule) whole good) in
    let ordered = subst AreRunsInOrder whole order in
    let rows = from_half (pos half_plane) s.run.y one.top in
    let few : rows.0 ≤ 2 * half_plane = within-rows s.run.y rows.0 half_plane rows.1 one.bottom in
    let at : nat_abs (s.run.y +ℤ pos half_plane) ≡ rows.0 = ap nat_abs rows.1 in
    let here = ap (λ (l : List Run). rle_state_by l s.run.x s.run.y) whole ∙ run-here s.before s.run (s.behind ++ more) ordered one.some in
    let live = one.live in
    let fits : nat_abs (s.run.y +ℤ pos half_plane) ≤ half_plane + 2 ^ (n - 1) = elim (cases_lt n MAX_LEVEL) [
      | inl lt ↦
          (let below = (south lt s.run.x s.run.y (λ z. omega (arith, here, z, live))).south in
          let r = rows.1 in
          omega (arith, ints, at, r, below))
      | inr le ↦
          (let same : n ≡ MAX_LEVEL = omega (arith, high, le) in
          let half = ap (λ k. 2 ^ (k - 1)) same in
          omega (arith, at, few, half))
    ] in
    SomeSquare-within fits
    (λ i j li lj.
    above-run s.before s.run (s.behind ++ more) (pos i -ℤ pos half_plane) (pos j -ℤ pos half_plane) ordered
    (above-row (pos half_plane) s.run.y rows.0 j rows.1 (omega (arith, lj, at)))
    ∙ ap (λ (l : List Run). rle_state_by l (pos i -ℤ pos half_plane) (pos j -ℤ pos half_plane)) (sym whole))
    s.above
