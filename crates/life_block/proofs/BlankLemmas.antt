-- Nine blank squares have a blank answer.
use Rattle.std.proofs.Common.{◌≡◌, ℕ, ◌^◌, ◌<◌, false, ℤ, sym, ◌∙◌, ap, subst, arith}
use Rattle.std.proofs.lemmas.Int.{ints}
use Rattle.std.proofs.Math.Pow.{pow_pos}
use Rattle.life_base.specs.Rules.{has_digit}
use Rattle.life_base.specs.Sets.{OuterTotalistic}
use Rattle.life_base.specs.Tree.{Tree, blank}
use Rattle.life_quad.specs.declared.id.Id.{Id}
use Rattle.life_next.specs.Generation.{next_life}
use Rattle.life_pieces.specs.declared.grid.Three.{Three}
use Rattle.life_pieces.specs.Pieces.{Nine, IsPiece, InThree, InNine, AreThree, AreNine, step_back, step_ahead}
use Rattle.life_pieces.proofs.PieceLemmas.{IsZero, IsZero-adjacent, IsZero-below, zero-of_blank, blank-of_zero}
use Rattle.life_next.proofs.NextLemmas.{next-zero}

-- nine blank squares
pub next-of_blank : (rule : OuterTotalistic) (content : Id → Tree) (cells : ℤ → ℤ → ℕ) (k : ℕ) (x y : ℤ) (id : Id) (nine : Nine)
    → has_digit rule.sets.births 0 ≡ false
    → content id ≡ blank k → InNine (λ other. other ≡ id) nine → AreNine content cells (2 ^ k) x y nine → IsPiece (next_life rule cells) x y (content id)
next-of_blank rule content cells k x y id nine quiet is all h =
    subst (IsPiece (next_life rule cells) x y) (sym is) (blank-of_zero _ k x y whole)
  where
    at : (u v : ℤ) (other : Id) → other ≡ id → IsPiece cells u v (content other) → IsZero cells u v (step_ahead u (2 ^ k)) (step_ahead v (2 ^ k))
    at u v other e p = zero-of_blank cells k u v (subst (IsPiece cells u v) (ap content e ∙ is) p)

    row : (v : ℤ) (three : Three Id) → InThree (λ other. other ≡ id) three → AreThree content cells (2 ^ k) x v three
        → IsZero cells (step_back x (2 ^ k)) v (step_ahead (step_ahead x (2 ^ k)) (2 ^ k)) (step_ahead v (2 ^ k))
    row v three e p =
        let a : step_ahead (step_back x (2 ^ k)) (2 ^ k) ≡ x = omega (arith, ints) in
        IsZero-adjacent cells _ (step_ahead x (2 ^ k)) v _ _
        (IsZero-adjacent cells _ x v _ _ (subst (λ u. IsZero cells (step_back x (2 ^ k)) v u (step_ahead v (2 ^ k))) a (at _ v _ e.before p.before))
        (at x v _ e.here p.here)) (at _ v _ e.after p.after)

    around : IsZero cells (step_back x (2 ^ k)) (step_back y (2 ^ k)) (step_ahead (step_ahead x (2 ^ k)) (2 ^ k)) (step_ahead (step_ahead y (2 ^ k)) (2 ^ k))
    around =
        let a : step_ahead (step_back y (2 ^ k)) (2 ^ k) ≡ y = omega (arith, ints) in
        IsZero-below cells _ _ (step_ahead y (2 ^ k)) _ _
        (IsZero-below cells _ _ y _ _ (subst (λ u. IsZero cells (step_back x (2 ^ k)) (step_back y (2 ^ k)) (step_ahead (step_ahead x (2 ^ k)) (2 ^ k)) u) a
        (row _ _ all.before h.before)) (row y _ all.here h.here)) (row _ _ all.after h.after)

    whole : IsZero (next_life rule cells) x y (step_ahead x (2 ^ k)) (step_ahead y (2 ^ k))
    whole =
        let some : 0 < 2 ^ k = pow_pos k in
        record {
          zero_at = λ u v w e n s.
              next-zero rule cells u v quiet
              (λ i j a b c d. around.zero_at i j (omega (arith, ints, some, w, a)) (omega (arith, ints, some, e, b)) (omega (arith, ints, some, n, c))
              (omega (arith, ints, some, s, d)));
        }
