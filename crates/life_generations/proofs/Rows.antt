-- Worked examples of later generations and of their refusals.
use Rattle.std.proofs.Common.{◌≡◌, ℕ, zero, suc, ap, ◌-◌, ◌^◌, inl, inr, None, Some, [], ◌∷◌, refl, arith, pos, ◌&&◌, int_le, if◌then◌else◌, ℤ}
use Rattle.std.proofs.lemmas.Int.{ints}
use Rattle.life_base.specs.Refusal.{fault_of}
use Rattle.life_base.specs.Sets.{OuterTotalistic}
use Rattle.life_base.specs.declared.kind.Kind.TheVariants as kinds
use Rattle.life_base.specs.declared.rule.Near.TheVariants.{Moore}
use Rattle.life_base.specs.declared.rule.Rule.TheVariants.{Life, Named}
use Rattle.life_pattern.specs.Universe.{Universe}
use Rattle.life_next.specs.Generation.{next_life}
use Rattle.life_leap.specs.After.{after}
use Rattle.life_later.specs.Course.{LeavesWithin}
use Rattle.life_leap.specs.Edge.{IsPlaneCoordinate}
use Rattle.life_generations.specs.Later.{IsStateAfter, IsLaterBy, LaterRefusal}

-- B3/S23
abbrev conway : OuterTotalistic
conway = record { sets = record { births = 8; survivals = 12 }; near = Moore }

-- no cell is alive
abbrev empty : ℕ → Universe
empty generation = record { rule = Life conway; generation = generation; cell = λ x y. 0 }

-- an empty plane stays empty, two generations later
empty_stays : IsLaterBy 2 (empty 7) (empty 9)
unfolding after
empty_stays = record { same_rule = refl; generation = refl; cells = λ x y. refl }

blank : (n : ℕ) → after conway n (λ x y. 0) ≡ (λ x y. 0)
unfolding after
blank zero = refl
blank (suc n) = ap (next_life conway) (blank n)

-- two generations after the last but two is the last one, and three after it are too many
last_is_named : LaterRefusal 2 (empty (2 ^ 64 - 3)) None
last_is_named = inr (λ l. omega (arith, l), inr (stays, refl))
  where
    stays : ¬ (LeavesWithin conway 2 (λ x y. 0))
    stays h = h.nonzero (ap (λ (f : ℤ → ℤ → ℕ). f h.x h.y) (blank h.generation))

too_late : LaterRefusal 3 (empty (2 ^ 64 - 3)) (Some (fault_of kinds.GenerationTooLarge))
too_late = inl (omega arith, refl)

-- a name needs a table, in whatever generation, unless no generation is asked for
abbrev wires : ℕ → Universe
wires generation = record { rule = Named (87 ∷ []); generation = generation; cell = λ x y. 3 }

needs : LaterRefusal 1 (wires (2 ^ 64 - 1)) (Some (fault_of kinds.NeedsTable))
needs = inr (λ e. omega (arith, e), refl)

needs_none : LaterRefusal 0 (wires (2 ^ 64 - 1)) None
needs_none = inl (refl, refl)

wires_now : IsLaterBy 0 (wires 5) (wires 5)
wires_now = record { same_rule = refl; generation = refl; cells = λ x y. (refl, refl) }

-- three live cells in a row from (0, y) on
abbrev row_at : ℕ → ℤ → ℤ → ℕ
row_at y column row = if int_le (pos y) row && int_le row (pos y) && int_le (pos 0) column && int_le column (pos 2) then 1 else 0

abbrev three_at : ℕ → Universe
three_at y = record { rule = Life conway; generation = 0; cell = row_at y }

-- turned one generation later, and back after two
turned : IsStateAfter 1 (Life conway) (row_at 0) (pos 1) (pos 1) 1
unfolding after
turned = refl

turned_away : IsStateAfter 1 (Life conway) (row_at 0) (pos 2) (pos 0) 0
unfolding after
turned_away = refl

turned_back : IsStateAfter 2 (Life conway) (row_at 0) (pos 2) (pos 0) 1
unfolding after
turned_back = refl

-- at the southern edge of the plane a cell south of it is born, and is gone a generation later: that leaves the plane
outside : ¬ (IsPlaneCoordinate (pos 1) × IsPlaneCoordinate (pos (2 ^ 61)))
outside h = let south = h.1.to in omega (arith, ints, south)

born : after conway 1 (row_at (2 ^ 61 - 1)) (pos 1) (pos (2 ^ 61)) ≡ 1
unfolding after
born = refl

gone : after conway 2 (row_at (2 ^ 61 - 1)) (pos 1) (pos (2 ^ 61)) ≡ 0
unfolding after
gone = refl

leaves : LeavesWithin conway 2 (row_at (2 ^ 61 - 1))
unfolding after
leaves = record {
  generation = 1;
  some = omega arith;
  within = omega arith;
  x = pos 1;
  y = pos (2 ^ 61);
  outside = outside;
  nonzero = λ e. omega (arith, e);
}

left_and_back : LaterRefusal 2 (three_at (2 ^ 61 - 1)) (Some (fault_of kinds.OutOfPlane))
left_and_back = inr (λ l. omega (arith, l), inl (leaves, refl))
