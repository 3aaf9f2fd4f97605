-- A part of a quarter of the square that begins at another place is a part of that square.
use Rattle.std.proofs.Common.{◌≡◌, inl, inr, ℕ, suc, ◌+◌, ◌-◌, ◌/◌, ◌%◌, ◌^◌, ◌≤◌, Bool, ℤ, refl, sym, subst, arith, ◌==◌}
use Rattle.std.proofs.lemmas.Int.{ints}
use Rattle.life_base.specs.Tree.{Tree}
use Rattle.life_quad.specs.declared.id.Id.{Id}
use Rattle.life_quad.specs.declared.moves.Quarters.{Quarters}
use Rattle.life_pieces.specs.Pieces.{Nine, step_ahead}
use Rattle.life_pieces.proofs.NeedLemmas.{quarter-part}
use Rattle.life_slide.specs.Needed.{SomeOfBlock, SomeOfNineSquares}
use Rattle.life_slide.specs.Pieces.{AreNinePieces, IsBlock, start, western_quarters, eastern_quarters}
use Rattle.life_slide.proofs.SlideLemmas.{begins, block-eastern, block-western, part-moved}

-- a place that is so far after another, and then so far
pub swapped : (x : ℤ) (a b : ℕ) → step_ahead (step_ahead x a) b ≡ step_ahead (step_ahead x b) a
swapped x a b = omega (arith, ints)

-- ---- of nine squares

module _ (P : Tree → Type 0) (content : Id → Tree) (columns rows k : ℕ) {nine : Nine} {q : Quarters} where
  pub of_north_west : q ≡ western_quarters nine.before nine.here → SomeOfBlock P content columns rows k q → SomeOfNineSquares P content columns rows k nine
  of_north_west is some cells x y h = quarter-part P cells _ _ _ (inl (some cells _ _ (block-western content cells is h.before h.here)))

  pub of_north_east : q ≡ eastern_quarters nine.before nine.here → SomeOfBlock P content columns rows k q → SomeOfNineSquares P content columns rows k nine
  of_north_east is some cells x y h =
      quarter-part P cells _ _ _ (inr (inl (part-moved P cells k k _ _ _ _ refl (swapped x (2 ^ k) _) refl
      (some cells _ _ (block-eastern content cells is h.before h.here)))))

  pub of_south_west : q ≡ western_quarters nine.here nine.after → SomeOfBlock P content columns rows k q → SomeOfNineSquares P content columns rows k nine
  of_south_west is some cells x y h =
      quarter-part P cells _ _ _ (inr (inr (inl (part-moved P cells k k _ _ _ _ refl refl (swapped y (2 ^ k) _)
      (some cells _ _ (block-western content cells is h.here h.after))))))

  pub of_south_east : q ≡ eastern_quarters nine.here nine.after → SomeOfBlock P content columns rows k q → SomeOfNineSquares P content columns rows k nine
  of_south_east is some cells x y h =
      quarter-part P cells _ _ _ (inr (inr (inr (part-moved P cells k k _ _ _ _ refl (swapped x (2 ^ k) _) (swapped y (2 ^ k) _)
      (some cells _ _ (block-eastern content cells is h.here h.after))))))

-- ---- nine of the quarters of four squares

module _ (content : Id → Tree) (columns rows k : ℕ) {q : Quarters} {n : Nine} (east south : Bool) (low : 1 ≤ k)
    (pieces : (cells : ℤ → ℤ → ℕ) (x y : ℤ) → IsBlock content cells (2 ^ (k - 1 + 1)) x y q
    → AreNinePieces content cells (2 ^ (k - 1)) (start east x (2 ^ (k - 1))) (start south y (2 ^ (k - 1))) n) where
  -- where they begin on a plane
  pub nine-of : (cells : ℤ → ℤ → ℕ) (x y : ℤ) → IsBlock content cells (2 ^ k) x y q
      → AreNinePieces content cells (2 ^ (k - 1)) (start east x (2 ^ (k - 1))) (start south y (2 ^ (k - 1))) n
  nine-of cells x y h =
      let level : k - 1 + 1 ≡ k = omega (arith, low) in
      pieces cells x y (subst (λ l. IsBlock content cells (2 ^ l) x y q) (sym level) h)

  pub of_quarters : (P : Tree → Type 0) → east ≡ (columns / 2 ^ (k - 1) % 2 == 1) → south ≡ (rows / 2 ^ (k - 1) % 2 == 1)
      → SomeOfNineSquares P content columns rows (k - 1) n → SomeOfBlock P content columns rows k q
  of_quarters P ec er some cells x y h =
      let level : k - 1 + 1 ≡ k = omega (arith, low) in
      let next : suc (k - 1) ≡ k = omega (arith, low) in
      part-moved P cells _ _ _ _ _ _ next (begins east columns (k - 1) k x ec level) (begins south rows (k - 1) k y er level)
      (some cells _ _ (nine-of cells x y h))
