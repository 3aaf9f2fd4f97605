-- The plane of the claims is that of the layer below.
use Rattle.std.proofs.Common.{◌≡◌, ℕ, ◌^◌, Bool, true, false, ◌&&◌, refl, sym, ◌∙◌, arith, ℤ, pos, neg_ℤ, ◌≤ℤ◌, ◌<ℤ◌, int_le, int_lt, true≢false}
use Rattle.std.proofs.lemmas.Int.{ints}
use Rattle.std.proofs.lemmas.Bool.{and_from}
use Rattle.life_pattern.specs.Universe.{IsWithin, corner}
use Rattle.claims.specs.Pattern.{is_claimed_coordinate}
use Rattle.life_base.proofs.Basics.{within_span}

coordinate : (x : ℤ) → IsWithin 62 x → is_claimed_coordinate x ≡ true
unfolding corner
coordinate x h = within_span x (2 ^ 61) h.0 h.1

-- a pair that is not of the plane
pub not_of_plane : (x y : ℤ) → (is_claimed_coordinate x && is_claimed_coordinate y) ≡ false → IsWithin 62 x × IsWithin 62 y → ⊥
not_of_plane x y e h = true≢false (sym (and_from (is_claimed_coordinate x) (is_claimed_coordinate y) (coordinate x h.0) (coordinate y h.1)) ∙ e)

from_coordinate : (x : ℤ) → is_claimed_coordinate x ≡ true → IsWithin 62 x
unfolding corner
from_coordinate x e = at x (2 ^ 61) e
  where
    at : (x : ℤ) (h : ℕ) → (int_le (neg_ℤ (pos h)) x && int_lt x (pos h)) ≡ true → (neg_ℤ (pos h) ≤ℤ x) × (x <ℤ pos h)
    at x h e = (low, high)
      where
        low : neg_ℤ (pos h) ≤ℤ x
        low = grind (arith, ints, e)

        high : x <ℤ pos h
        high = grind (arith, ints, e)

pub outside_is : (x y : ℤ) → (IsWithin 62 x × IsWithin 62 y → ⊥) → (is_claimed_coordinate x && is_claimed_coordinate y) ≡ false
outside_is x y never = by (is_claimed_coordinate x) (is_claimed_coordinate y) refl refl
  where
    by : (a b : Bool) → is_claimed_coordinate x ≡ a → is_claimed_coordinate y ≡ b → (a && b) ≡ false
    by true true e f = absurd (never (from_coordinate x e, from_coordinate y f))
    by true false e f = refl
    by false b e f = refl
