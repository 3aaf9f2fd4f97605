-- Many generations: they add up, and a box depends only on what is near it.
use Rattle.std.proofs.Common.{◌≡◌, ℕ, zero, suc, ◌+◌, ◌<◌, Bool, true, false, ℤ, ◌≤ℤ◌, [], ◌∷◌, refl, sym, ◌∙◌, ap, subst, arith, if◌then◌else◌}
use Rattle.std.proofs.lemmas.Int.{ints}
use Rattle.life_base.specs.Rules.{has_digit}
use Rattle.life_base.specs.Sets.{OuterTotalistic}
use Rattle.life_base.specs.declared.rule.Near.{Near}
use Rattle.life_base.specs.declared.rule.Near.TheVariants.{Moore, VonNeumann}
use Rattle.life_next.specs.Generation.{one_before, one_after, next_by_count, next_life, live_in}
use Rattle.life_pieces.specs.Pieces.{IsBinary, step_back, step_ahead}
use Rattle.life_next.proofs.NextLemmas.{next-zero}
use Rattle.life_pieces.proofs.PieceLemmas.{IsZero}
use Rattle.life_leap.specs.After.{after, DependsOnNear, AfterAdds, IsBlankBeyond}

pub after-none : (rule : OuterTotalistic) (cells : ℤ → ℤ → ℕ) → after rule 0 cells ≡ cells
unfolding after
after-none rule cells = refl

pub after-next : (rule : OuterTotalistic) (n : ℕ) (cells : ℤ → ℤ → ℕ) → after rule (suc n) cells ≡ next_life rule (after rule n cells)
unfolding after
after-next rule n cells = refl

pub after-adds : AfterAdds
after-adds rule zero n cells =
    let e : 0 + n ≡ n = omega arith in
    ap (λ k. after rule k cells) e ∙ sym (after-none rule (after rule n cells))
after-adds rule (suc m) n cells =
    let e : suc m + n ≡ suc (m + n) = omega arith in
    ap (λ k. after rule k cells) e ∙ after-next rule (m + n) cells ∙ ap (next_life rule) (after-adds rule m n cells)
    ∙ sym (after-next rule m (after rule n cells))

pub after-one : (rule : OuterTotalistic) (cells : ℤ → ℤ → ℕ) → after rule 1 cells ≡ next_life rule cells
after-one rule cells = after-next rule 0 cells ∙ ap (next_life rule) (after-none rule cells)

-- ---- states stay 0 or 1

below-two : (b : Bool) → (if b then 1 else 0) < 2
below-two true = omega arith
below-two false = omega arith

next-binary : (rule : OuterTotalistic) (cells : ℤ → ℤ → ℕ) → IsBinary (next_life rule cells)
next-binary rule cells x y = below-two _

pub after-binary : (rule : OuterTotalistic) (n : ℕ) (cells : ℤ → ℤ → ℕ) → IsBinary cells → IsBinary (after rule n cells)
after-binary rule zero cells binary = subst IsBinary (sym (after-none rule cells)) binary
after-binary rule (suc n) cells binary = subst IsBinary (sym (after-next rule n cells)) (next-binary rule (after rule n cells))

-- ---- what is far away doesn't matter

next-same : (rule : OuterTotalistic) (f g : ℤ → ℤ → ℕ) (x y : ℤ)
    → ((u v : ℤ) → one_before x ≤ℤ u → u ≤ℤ one_after x → one_before y ≤ℤ v → v ≤ℤ one_after y → f u v ≡ g u v)
    → next_life rule f x y ≡ next_life rule g x y
next-same rule f g x y h = by rule.near
  where
    at : (u v : ℤ) → (one_before x ≤ℤ u) × (u ≤ℤ one_after x) → (one_before y ≤ℤ v) × (v ≤ℤ one_after y) → f u v ≡ g u v
    at u v a b = h u v a.0 a.1 b.0 b.1

    one_less : (z : ℤ) → (one_before z ≤ℤ one_before z) × (one_before z ≤ℤ one_after z)
    one_less z = (omega (arith, ints), omega (arith, ints))

    itself : (z : ℤ) → (one_before z ≤ℤ z) × (z ≤ℤ one_after z)
    itself z = (omega (arith, ints), omega (arith, ints))

    one_more : (z : ℤ) → (one_before z ≤ℤ one_after z) × (one_after z ≤ℤ one_after z)
    one_more z = (omega (arith, ints), omega (arith, ints))

    c : f x y ≡ g x y
    c = at x y (itself x) (itself y)

    n : f x (one_before y) ≡ g x (one_before y)
    n = at x (one_before y) (itself x) (one_less y)

    e : f (one_after x) y ≡ g (one_after x) y
    e = at (one_after x) y (one_more x) (itself y)

    s : f x (one_after y) ≡ g x (one_after y)
    s = at x (one_after y) (itself x) (one_more y)

    w : f (one_before x) y ≡ g (one_before x) y
    w = at (one_before x) y (one_less x) (itself y)

    by : (near : Near) → next_life (record { sets = rule.sets; near = near }) f x y ≡ next_life (record { sets = rule.sets; near = near }) g x y
    by Moore =
        let ne = at (one_after x) (one_before y) (one_more x) (one_less y) in
        let se = at (one_after x) (one_after y) (one_more x) (one_more y) in
        let sw = at (one_before x) (one_after y) (one_less x) (one_more y) in
        let nw = at (one_before x) (one_before y) (one_less x) (one_less y) in
        (λ i. next_by_count rule.sets (c i) (live_in (n i ∷ ne i ∷ e i ∷ se i ∷ s i ∷ sw i ∷ w i ∷ nw i ∷ [])))
    by VonNeumann = (λ i. next_by_count rule.sets (c i) (live_in (n i ∷ e i ∷ s i ∷ w i ∷ [])))

pub depends-near : DependsOnNear
depends-near rule zero f g west north east south h =
    let same = h.same in
    record {
      same = λ x y w e n s.
          ap (λ (p : ℤ → ℤ → ℕ). p x y) (after-none rule f) ∙ same x y (omega (arith, ints, w)) (omega (arith, ints, e)) (omega (arith, ints, n))
          (omega (arith, ints, s))
          ∙ sym (ap (λ (p : ℤ → ℤ → ℕ). p x y) (after-none rule g));
    }
depends-near rule (suc m) f g west north east south h =
    let wider = depends-near rule m f g (one_before west) (one_before north) (one_after east) (one_after south) (record {
      same = λ x y w e n s. h.same x y (omega (arith, ints, w)) (omega (arith, ints, e)) (omega (arith, ints, n)) (omega (arith, ints, s));
    }) in
    record {
      same = λ x y w e n s.
          ap (λ (p : ℤ → ℤ → ℕ). p x y) (after-next rule m f)
          ∙ next-same rule (after rule m f) (after rule m g) x y
          (λ u v a b c d. wider.same u v (omega (arith, ints, w, a)) (omega (arith, ints, e, b)) (omega (arith, ints, n, c)) (omega (arith, ints, s, d)))
          ∙ sym (ap (λ (p : ℤ → ℤ → ℕ). p x y) (after-next rule m g));
    }

-- ---- no cell is born far from all others

pub zero-later : (rule : OuterTotalistic) (m : ℕ) (cells : ℤ → ℤ → ℕ) (west north east south : ℤ) → has_digit rule.sets.births 0 ≡ false
    → IsZero cells (step_back west m) (step_back north m) (step_ahead east m) (step_ahead south m)
    → IsZero (after rule m cells) west north east south
zero-later rule zero cells west north east south quiet h =
    let zero_at = h.zero_at in
    record {
      zero_at = λ x y w e n s.
          ap (λ (p : ℤ → ℤ → ℕ). p x y) (after-none rule cells)
          ∙ zero_at x y (omega (arith, ints, w)) (omega (arith, ints, e)) (omega (arith, ints, n)) (omega (arith, ints, s));
    }
zero-later rule (suc m) cells west north east south quiet h =
    let wider = zero-later rule m cells (one_before west) (one_before north) (one_after east) (one_after south) quiet (record {
      zero_at = λ x y w e n s. h.zero_at x y (omega (arith, ints, w)) (omega (arith, ints, e)) (omega (arith, ints, n)) (omega (arith, ints, s));
    }) in
    record {
      zero_at = λ x y w e n s.
          ap (λ (p : ℤ → ℤ → ℕ). p x y) (after-next rule m cells)
          ∙ next-zero rule (after rule m cells) x y quiet
          (λ u v a b c d. wider.zero_at u v (omega (arith, ints, w, a)) (omega (arith, ints, e, b)) (omega (arith, ints, n, c)) (omega (arith, ints, s, d)));
    }

pub beyond-later : (rule : OuterTotalistic) (m : ℕ) (cells : ℤ → ℤ → ℕ) (west north east south : ℤ) → has_digit rule.sets.births 0 ≡ false
    → IsBlankBeyond cells west north east south
    → IsBlankBeyond (after rule m cells) (step_back west m) (step_back north m) (step_ahead east m) (step_ahead south m)
beyond-later rule zero cells west north east south quiet h =
    let now = λ (x y : ℤ). ap (λ (p : ℤ → ℤ → ℕ). p x y) (after-none rule cells) in
    record {
      west_of = λ x y l. now x y ∙ h.west_of x y (omega (arith, ints, l));
      north_of = λ x y l. now x y ∙ h.north_of x y (omega (arith, ints, l));
      east_of = λ x y l. now x y ∙ h.east_of x y (omega (arith, ints, l));
      south_of = λ x y l. now x y ∙ h.south_of x y (omega (arith, ints, l));
    }
beyond-later rule (suc m) cells west north east south quiet h =
    let before = beyond-later rule m cells west north east south quiet h in
    let now = λ (x y : ℤ). ap (λ (p : ℤ → ℤ → ℕ). p x y) (after-next rule m cells) in
    record {
      west_of = λ x y l. now x y ∙ next-zero rule (after rule m cells) x y quiet (λ u v a b c d. before.west_of u v (omega (arith, ints, l, b)));
      north_of = λ x y l. now x y ∙ next-zero rule (after rule m cells) x y quiet (λ u v a b c d. before.north_of u v (omega (arith, ints, l, d)));
      east_of = λ x y l. now x y ∙ next-zero rule (after rule m cells) x y quiet (λ u v a b c d. before.east_of u v (omega (arith, ints, l, a)));
      south_of = λ x y l. now x y ∙ next-zero rule (after rule m cells) x y quiet (λ u v a b c d. before.south_of u v (omega (arith, ints, l, c)));
    }
