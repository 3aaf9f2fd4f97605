-- The phases of a pattern in the words of the claims, on a worked example.
use Rattle.std.proofs.Common.{◌≡◌, ℕ, List, [], ◌∷◌, map, ◌&&◌, int_le, if◌then◌else◌, refl, false, true, ℤ, pos, negsuc}
use Rattle.std.specs.Ordering.{int_eq}
use Rattle.claims.specs.Pattern.{Pattern}
use Rattle.claims.specs.Rules.{claimed_default_rule}
use Rattle.generation_theorems.specs.ManyGenerations.{claimed_life_after}
use Rattle.program_theorems.specs.Forms.{claimed_image}
use Rattle.program_theorems.specs.Phases.{claimed_begun, claimed_phase}

-- three cells in a row, in generation 7, under B3/S23
abbrev row : Pattern
row = record {
  rule = claimed_default_rule;
  generation = 7;
  cell = λ x y. if int_eq y (pos 0) && int_le (negsuc 0) x && int_le x (pos 1) then 1 else 0;
}

abbrev phase : ℕ → Pattern
phase n = claimed_phase 8 (3 ∷ []) (2 ∷ 3 ∷ []) n row

-- its columns and rows from -2 to 2
abbrev places : List ℤ
places = negsuc 1 ∷ negsuc 0 ∷ pos 0 ∷ pos 1 ∷ pos 2 ∷ []

abbrev near-middle : Pattern → List (List ℕ)
near-middle p = map (λ y. map (λ x. p.cell x y) places) places

-- one generation later they are in a column, which is a turn of the row, and two generations later in the row again
row-later : near-middle (phase 1)
    ≡ (0 ∷ 0 ∷ 0 ∷ 0 ∷ 0 ∷ []) ∷ (0 ∷ 0 ∷ 1 ∷ 0 ∷ 0 ∷ []) ∷ (0 ∷ 0 ∷ 1 ∷ 0 ∷ 0 ∷ []) ∷ (0 ∷ 0 ∷ 1 ∷ 0 ∷ 0 ∷ []) ∷ (0 ∷ 0 ∷ 0 ∷ 0 ∷ 0 ∷ []) ∷ []
unfolding claimed_life_after
row-later = refl

row-turned : near-middle (phase 1) ≡ near-middle (claimed_image true false false row)
unfolding claimed_life_after
row-turned = refl

row-again : near-middle (phase 2) ≡ near-middle row
unfolding claimed_life_after
row-again = refl

-- each phase is in generation 0
row-generation : (n : ℕ) → (phase n).generation ≡ (claimed_begun row).generation
row-generation n = refl
