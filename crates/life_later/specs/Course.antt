-- Why the generations of a pattern are refused: a cell leaves the plane.
use Rattle.std.specs.Prelude.{◌≡◌, ◌≢◌, ◌⊎◌, ℕ, ◌≤◌, List, ℤ}
use Rattle.life_base.specs.Refusal.{fault_of}
use Rattle.life_base.specs.Sets.{OuterTotalistic}
use Rattle.life_base.specs.Tree.{Tree, depth, tree_cell}
use Rattle.life_base.specs.declared.fault.Fault.{Fault}
use Rattle.life_base.specs.declared.kind.Kind.TheVariants as kinds
use Rattle.life_quad.specs.Keeping.{IsShortageFault}
use Rattle.life_leap.specs.After.{after}
use Rattle.life_leap.specs.Edge.{IsPlaneCoordinate}

-- in one of the generations 1 to n a cell outside the plane isn't 0
pub record LeavesWithin (rule : OuterTotalistic) (n : ℕ) (cells : ℤ → ℤ → ℕ) : Type 0 where
  pub generation : ℕ
  pub some : 1 ≤ generation
  pub within : generation ≤ n
  pub x : ℤ
  pub y : ℤ
  pub outside : ¬ (IsPlaneCoordinate x × IsPlaneCoordinate y)
  pub nonzero : after rule generation cells x y ≢ 0

-- Why n generations are refused: memory ran out or the store has reached its limit, or a cell leaves the plane.
abbrev pub IsCourseFault : OuterTotalistic → ℕ → (ℤ → ℤ → ℕ) → List Tree → ℕ → Fault → Type 0
IsCourseFault rule n cells stored most fault = IsShortageFault stored most fault ⊎ ((fault ≡ fault_of kinds.OutOfPlane) × LeavesWithin rule n cells)

-- the second square has the cells of the first n generations later, and until then none leaves the plane
pub record IsCourse (rule : OuterTotalistic) (n : ℕ) (t u : Tree) : Type 0 where
  pub low : 3 ≤ depth u
  pub later : (x y : ℤ) → tree_cell u x y ≡ after rule n (tree_cell t) x y
  pub stays : ¬ (LeavesWithin rule n (tree_cell t))

-- why n generations are refused in a store of their own: memory ran out, that store is full, or a cell leaves the plane
abbrev pub IsFaultApart : OuterTotalistic → ℕ → (ℤ → ℤ → ℕ) → Fault → Type 0
IsFaultApart rule n cells fault =
    (fault ≡ fault_of kinds.Memory) ⊎ ((fault ≡ fault_of kinds.Full) ⊎ ((fault ≡ fault_of kinds.OutOfPlane) × LeavesWithin rule n cells))
