-- The definitions, on worked examples.
use Rattle.std.proofs.Common.{◌≡◌, ℕ, ◌&&◌, int_le, List, [], ◌∷◌, map, refl, ℤ, pos, negsuc, if◌then◌else◌}
use Rattle.std.specs.Ordering.{int_eq}
use Rattle.life_base.specs.Sets.{OuterTotalistic}
use Rattle.life_base.specs.declared.rule.Near.TheVariants.{Moore}
use Rattle.life_base.specs.declared.rule.Rule.TheVariants.{Life}
use Rattle.life_pattern.specs.Universe.{Universe}
use Rattle.life_forms.specs.Turns.{image, transpose}
use Rattle.life_leap.specs.After.{after}
use Rattle.life_phase_forms.specs.Phases.{begun, phase}

-- three cells in a row, in generation 7, under B3/S23
abbrev life : OuterTotalistic
life = record { sets = record { births = 8; survivals = 12 }; near = Moore }

abbrev row : Universe
row = record {
  rule = Life life;
  generation = 7;
  cell = λ x y. if int_eq y (pos 0) && int_le (negsuc 0) x && int_le x (pos 1) then 1 else 0;
}

-- its columns and rows from -2 to 2
abbrev places : List ℤ
places = negsuc 1 ∷ negsuc 0 ∷ pos 0 ∷ pos 1 ∷ pos 2 ∷ []

abbrev near-middle : Universe → List (List ℕ)
near-middle u = map (λ y. map (λ x. u.cell x y) places) places

row-there : near-middle row
    ≡ (0 ∷ 0 ∷ 0 ∷ 0 ∷ 0 ∷ []) ∷ (0 ∷ 0 ∷ 0 ∷ 0 ∷ 0 ∷ []) ∷ (0 ∷ 1 ∷ 1 ∷ 1 ∷ 0 ∷ []) ∷ (0 ∷ 0 ∷ 0 ∷ 0 ∷ 0 ∷ []) ∷ (0 ∷ 0 ∷ 0 ∷ 0 ∷ 0 ∷ []) ∷ []
row-there = refl

-- one generation later they are in a column, which is a turn of the row, and two generations later in the row again
row-later : near-middle (phase life 1 row)
    ≡ (0 ∷ 0 ∷ 0 ∷ 0 ∷ 0 ∷ []) ∷ (0 ∷ 0 ∷ 1 ∷ 0 ∷ 0 ∷ []) ∷ (0 ∷ 0 ∷ 1 ∷ 0 ∷ 0 ∷ []) ∷ (0 ∷ 0 ∷ 1 ∷ 0 ∷ 0 ∷ []) ∷ (0 ∷ 0 ∷ 0 ∷ 0 ∷ 0 ∷ []) ∷ []
unfolding after
row-later = refl

row-turned : near-middle (phase life 1 row) ≡ near-middle (image transpose row)
unfolding after
row-turned = refl

row-again : near-middle (phase life 2 row) ≡ near-middle (phase life 0 row)
unfolding after
row-again = refl

-- each phase is in generation 0
row-generation : (k : ℕ) → (phase life k row).generation ≡ (begun row).generation
row-generation k = refl
