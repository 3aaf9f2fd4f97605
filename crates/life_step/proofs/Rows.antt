-- Worked examples of a step and of its refusals.
use Rattle.std.proofs.Common.{ℕ, ◌-◌, ◌^◌, inl, Some, [], ◌∷◌, refl, arith, pos, ◌&&◌, int_le, if◌then◌else◌}
use Rattle.std.proofs.lemmas.Int.{ints}
use Rattle.life_base.specs.Refusal.{fault_of}
use Rattle.life_base.specs.Sets.{OuterTotalistic}
use Rattle.life_base.specs.declared.kind.Kind.TheVariants as kinds
use Rattle.life_base.specs.declared.cell.TheConstants.{MAX_LEVEL}
use Rattle.life_base.specs.declared.rule.Near.TheVariants.{Moore}
use Rattle.life_base.specs.declared.rule.Rule.TheVariants.{Life, Named}
use Rattle.life_pattern.specs.Universe.{Universe, corner}
use Rattle.life_step.specs.Refusals.{LifeRefusal, IsOfPlane, LeavesByRule}
use Rattle.life_step.specs.Stepped.{IsLifeStep}

-- B3/S23
abbrev life : OuterTotalistic
life = record { sets = record { births = 8; survivals = 12 }; near = Moore }

-- no cell is alive
abbrev empty : ℕ → Universe
empty generation = record { rule = Life life; generation = generation; cell = λ x y. 0 }

-- an empty plane stays empty, a generation later
empty_stays : IsLifeStep (empty 7) (empty 8)
empty_stays = record { life = life; rule = refl; same_rule = refl; generation = refl; cells = λ x y. refl }

-- the last generation has no next
last : LifeRefusal MAX_LEVEL (empty (2 ^ 64 - 1)) (Some (fault_of kinds.GenerationTooLarge))
last = inl (refl, refl)

-- a name needs a table, in whatever generation
abbrev wires : ℕ → Universe
wires generation = record { rule = Named (87 ∷ []); generation = generation; cell = λ x y. 3 }

needs : LifeRefusal MAX_LEVEL (wires (2 ^ 64 - 1)) (Some (fault_of kinds.NeedsTable))
needs = refl

-- three live cells in a row at the southern edge of the plane: a cell south of them, outside it, would be born
abbrev edge : Universe
edge = record {
  rule = Life life;
  generation = 0;
  cell = λ x y. if int_le (pos (2 ^ 61 - 1)) y && int_le y (pos (2 ^ 61 - 1)) && int_le (pos 0) x
      && int_le x (pos 2) then 1 else 0;
}

outside : ¬ (IsOfPlane MAX_LEVEL (pos 1) (pos (2 ^ 61)))
unfolding corner
outside h = let south = h.1.1 in omega (arith, ints, south)

leaves : LeavesByRule MAX_LEVEL life edge
leaves = (pos 1, pos (2 ^ 61), outside, λ e. omega (arith, e))
