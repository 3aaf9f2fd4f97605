-- The next state of a cell: among cells of state 0, and by the bits of nine words.
use Rattle.std.proofs.Common.{◌≡◌, ℕ, false, Bool, ℤ, ◌≤ℤ◌, [], ◌∷◌, ◌∙◌, ap, arith, if◌then◌else◌, ◌||◌}
use Rattle.std.proofs.lemmas.Int.{ints}
use Rattle.life_base.specs.Rules.{has_digit}
use Rattle.life_base.specs.Sets.{OuterTotalistic}
use Rattle.life_base.specs.declared.rule.Near.{Near}
use Rattle.life_base.specs.declared.rule.Near.TheVariants.{Moore, VonNeumann}
use Rattle.life_next.specs.Generation.{one_before, one_after, next_by_count, next_life, live_in}
use Rattle.std.specs.Int.{bit_at}
use Rattle.life_next.specs.Counts.{NineWords, counted_in}

-- a cell among cells of state 0
pub next-zero : (rule : OuterTotalistic) (cells : ℤ → ℤ → ℕ) (x y : ℤ) → has_digit rule.sets.births 0 ≡ false
    → ((u v : ℤ) → one_before x ≤ℤ u → u ≤ℤ one_after x → one_before y ≤ℤ v → v ≤ℤ one_after y → cells u v ≡ 0) → next_life rule cells x y ≡ 0
next-zero rule cells x y quiet h = by rule.near ∙ ap (λ (b : Bool). if b || false then 1 else 0) quiet
  where
    at : (u v : ℤ) → (one_before x ≤ℤ u) × (u ≤ℤ one_after x) → (one_before y ≤ℤ v) × (v ≤ℤ one_after y) → cells u v ≡ 0
    at u v a b = h u v a.0 a.1 b.0 b.1

    one_less : (z : ℤ) → (one_before z ≤ℤ one_before z) × (one_before z ≤ℤ one_after z)
    one_less z = (omega (arith, ints), omega (arith, ints))

    itself : (z : ℤ) → (one_before z ≤ℤ z) × (z ≤ℤ one_after z)
    itself z = (omega (arith, ints), omega (arith, ints))

    one_more : (z : ℤ) → (one_before z ≤ℤ one_after z) × (one_after z ≤ℤ one_after z)
    one_more z = (omega (arith, ints), omega (arith, ints))

    c : cells x y ≡ 0
    c = at x y (itself x) (itself y)

    n : cells x (one_before y) ≡ 0
    n = at x (one_before y) (itself x) (one_less y)

    e : cells (one_after x) y ≡ 0
    e = at (one_after x) y (one_more x) (itself y)

    s : cells x (one_after y) ≡ 0
    s = at x (one_after y) (itself x) (one_more y)

    w : cells (one_before x) y ≡ 0
    w = at (one_before x) y (one_less x) (itself y)

    by : (near : Near) → next_life (record { sets = rule.sets; near = near }) cells x y ≡ next_by_count rule.sets 0 0
    by Moore =
        let ne = at (one_after x) (one_before y) (one_more x) (one_less y) in
        let se = at (one_after x) (one_after y) (one_more x) (one_more y) in
        let sw = at (one_before x) (one_after y) (one_less x) (one_more y) in
        let nw = at (one_before x) (one_before y) (one_less x) (one_less y) in
        (λ i. next_by_count rule.sets (c i) (live_in (n i ∷ ne i ∷ e i ∷ se i ∷ s i ∷ sw i ∷ w i ∷ nw i ∷ [])))
    by VonNeumann = (λ i. next_by_count rule.sets (c i) (live_in (n i ∷ e i ∷ s i ∷ w i ∷ [])))

-- the next state of a cell whose bit and those of its neighbours are known
pub next-of_bits : (rule : OuterTotalistic) (cells : ℤ → ℤ → ℕ) (x y : ℤ) (w : NineWords) (p : ℕ)
    → bit_at w.before.before p ≡ cells (one_before x) (one_before y) → bit_at w.before.here p ≡ cells x (one_before y)
    → bit_at w.before.after p ≡ cells (one_after x) (one_before y) → bit_at w.here.before p ≡ cells (one_before x) y → bit_at w.here.here p ≡ cells x y
    → bit_at w.here.after p ≡ cells (one_after x) y → bit_at w.after.before p ≡ cells (one_before x) (one_after y)
    → bit_at w.after.here p ≡ cells x (one_after y) → bit_at w.after.after p ≡ cells (one_after x) (one_after y)
    → next_by_count rule.sets (bit_at w.here.here p) (live_in (counted_in rule.near w p)) ≡ next_life rule cells x y
next-of_bits rule cells x y w p nw n ne west c e sw s se = by rule.near
  where
    by : (near : Near)
        → next_by_count rule.sets (bit_at w.here.here p) (live_in (counted_in near w p)) ≡ next_life (record { sets = rule.sets; near = near }) cells x y
    by Moore = (λ j. next_by_count rule.sets (c j) (live_in (n j ∷ ne j ∷ e j ∷ se j ∷ s j ∷ sw j ∷ west j ∷ nw j ∷ [])))
    by VonNeumann = (λ j. next_by_count rule.sets (c j) (live_in (n j ∷ e j ∷ s j ∷ west j ∷ [])))
