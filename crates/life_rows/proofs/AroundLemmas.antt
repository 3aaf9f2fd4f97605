-- The next state of a cell by the states of three rows, and by the rows to the next one.
use Rattle.std.proofs.Common.{◌≡◌, ℕ, suc, ◌+◌, ℤ, pos, ◌+ℤ◌, ◌<ℤ◌, ◌≤ℤ◌, false, [], ◌∷◌, arith}
use Rattle.std.proofs.lemmas.Int.{ints}
use Rattle.life_base.specs.Rules.{has_digit}
use Rattle.life_base.specs.Sets.{OuterTotalistic}
use Rattle.life_base.specs.declared.rule.Near.{Near}
use Rattle.life_base.specs.declared.rule.Near.TheVariants.{Moore, VonNeumann}
use Rattle.life_next.proofs.NextLemmas.{next-zero}
use Rattle.life_rows.specs.RowCells.{cells_around, next_in_row}
use Rattle.life_strip.specs.Given.{half_plane}
use Rattle.life_next.specs.Generation.{next_by_count, next_life, one_after, one_before, live_in}

-- a cell amid three rows
pub next-in_row : (rule : OuterTotalistic) (cells : ℤ → ℤ → ℕ) (x y : ℤ) (north here south : ℕ → ℕ) (west : ℕ)
    → cells (one_before x) (one_before y) ≡ north west → cells x (one_before y) ≡ north (suc west) → cells (one_after x) (one_before y) ≡ north (west + 2)
    → cells (one_before x) y ≡ here west → cells x y ≡ here (suc west) → cells (one_after x) y ≡ here (west + 2)
    → cells (one_before x) (one_after y) ≡ south west → cells x (one_after y) ≡ south (suc west) → cells (one_after x) (one_after y) ≡ south (west + 2)
    → next_life rule cells x y ≡ next_in_row rule north here south west
next-in_row rule cells x y north here south west nw n ne w c e sw s se = by rule.near
  where
    by : (near : Near) → next_life (record { sets = rule.sets; near = near }) cells x y
        ≡ next_by_count rule.sets (here (suc west)) (live_in (cells_around near north here south west))
    by Moore = (λ i. next_by_count rule.sets (c i) (live_in (n i ∷ ne i ∷ e i ∷ se i ∷ s i ∷ sw i ∷ w i ∷ nw i ∷ [])))
    by VonNeumann = (λ i. next_by_count rule.sets (c i) (live_in (n i ∷ e i ∷ s i ∷ w i ∷ [])))

-- the next state depends on no row after the next one
pub next-alike : (rule : OuterTotalistic) (f g : ℤ → ℤ → ℕ) (x y : ℤ) → ((u v : ℤ) → v ≤ℤ one_after y → f u v ≡ g u v)
    → next_life rule f x y ≡ next_life rule g x y
next-alike rule f g x y same = by rule.near
  where
    n : (u : ℤ) → f u (one_before y) ≡ g u (one_before y)
    n u = same u (one_before y) (omega (arith, ints))

    c : (u : ℤ) → f u y ≡ g u y
    c u = same u y (omega (arith, ints))

    s : (u : ℤ) → f u (one_after y) ≡ g u (one_after y)
    s u = same u (one_after y) (omega (arith, ints))

    by : (near : Near) → next_life (record { sets = rule.sets; near = near }) f x y ≡ next_life (record { sets = rule.sets; near = near }) g x y
    by Moore =
        (λ i. next_by_count rule.sets (c x i)
        (live_in (n x i ∷ n (one_after x) i ∷ c (one_after x) i ∷ s (one_after x) i ∷ s x i ∷ s (one_before x) i ∷ c (one_before x) i
        ∷ n (one_before x) i ∷ [])))
    by VonNeumann = (λ i. next_by_count rule.sets (c x i) (live_in (n x i ∷ c (one_after x) i ∷ s x i ∷ c (one_before x) i ∷ [])))

-- after a row from which on there is no cell, none is born
pub next-blank : (rule : OuterTotalistic) (cells : ℤ → ℤ → ℕ) (row : ℕ) → has_digit rule.sets.births 0 ≡ false
    → ((x y : ℤ) → pos row ≤ℤ (y +ℤ pos half_plane) → cells x y ≡ 0) → (x y : ℤ) → pos row <ℤ (y +ℤ pos half_plane) → next_life rule cells x y ≡ 0
next-blank rule cells row quiet none x y after = next-zero rule cells x y quiet (λ u v a b c d. none u v (omega (arith, ints, c, after)))
