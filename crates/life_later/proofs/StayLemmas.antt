-- That nothing leaves the plane in the generations of a leap, and why a course is refused.
use Rattle.std.proofs.Common.{◌≡◌, ◌≢◌, ◌⊎◌, inl, inr, ℕ, ◌+◌, ◌-◌, ◌<◌, ◌≤◌, false, true, eqb, ℤ, List, sym, ◌∙◌, ap, arith}
use Rattle.std.proofs.lemmas.Int.{ints, by_lt_z}
use Rattle.std.proofs.lemmas.Bool.{cases_lt}
use Rattle.std.proofs.lemmas.Bool.Decides.{eqb_tells}
use Rattle.life_base.specs.Refusal.{fault_of}
use Rattle.life_base.specs.Rules.{has_digit}
use Rattle.life_base.specs.Sets.{OuterTotalistic}
use Rattle.life_base.specs.Tree.{Tree, tree_cell}
use Rattle.life_base.specs.declared.bounds.Bounds.{Bounds}
use Rattle.life_base.specs.declared.fault.Fault.{Fault}
use Rattle.life_base.specs.declared.kind.Kind.TheVariants as kinds
use Rattle.life_pieces.specs.Pieces.{step_ahead, step_back}
use Rattle.life_base.specs.declared.kind.Kind.{Kind}
use Rattle.life_quad.specs.Keeping.{IsShortageKind}
use Rattle.life_quad.specs.Cells.{IsBoundingBoxOfTree}
use Rattle.life_leap.specs.After.{after, IsBlankBeyond}
use Rattle.life_leap.proofs.AfterLemmas.{after-adds, beyond-later}
use Rattle.life_later.proofs.CourseLemmas.{blank-later}
use Rattle.life_later.specs.Course.{LeavesWithin, IsCourseFault}
use Rattle.life_leap.specs.Edge.{HasCellOutside}
use Rattle.life_later.specs.Margins.{IsPlaneMargin}

-- ---- a leap with margin

beyond-box : (t : Tree) (box : Bounds) → IsBoundingBoxOfTree t box
    → IsBlankBeyond (tree_cell t) box.left box.top (step_ahead box.right 1) (step_ahead box.bottom 1)
beyond-box t box h =
    record {
      west_of = λ x y l. zero-unless x y (λ some. let i = (h.inside x y some).0 in omega (arith, ints, i, l));
      north_of = λ x y l. zero-unless x y (λ some. let i = (h.inside x y some).2 in omega (arith, ints, i, l));
      east_of = λ x y l. zero-unless x y (λ some. let i = (h.inside x y some).1 in omega (arith, ints, i, l));
      south_of = λ x y l. zero-unless x y (λ some. let i = (h.inside x y some).3 in omega (arith, ints, i, l));
    }
  where
    zero-unless : (x y : ℤ) → (tree_cell t x y ≢ 0 → ⊥) → tree_cell t x y ≡ 0
    zero-unless x y never = by (eqb_tells (tree_cell t x y) 0)
      where
        by : ((eqb (tree_cell t x y) 0 ≡ true) × (tree_cell t x y ≡ 0)) ⊎ ((eqb (tree_cell t x y) 0 ≡ false) × (tree_cell t x y ≢ 0)) → tree_cell t x y ≡ 0
        by (inl e) = e.1
        by (inr ne) = absurd (never ne.1)

pub margin-stays : (rule : OuterTotalistic) (t : Tree) (box : Bounds) (margin n : ℕ) → has_digit rule.sets.births 0 ≡ false → IsBoundingBoxOfTree t box
    → IsPlaneMargin box margin → n ≤ margin → ¬ (LeavesWithin rule n (tree_cell t))
margin-stays rule t box margin n quiet inside free few leaves =
    let m = leaves.generation in
    let w = leaves.within in
    let b = beyond-later rule m (tree_cell t) box.left box.top (step_ahead box.right 1) (step_ahead box.bottom 1) quiet (beyond-box t box inside) in
    let l = free.left in
    let r = free.right in
    let u = free.top in
    let v = free.bottom in
    by_lt_z leaves.x (step_back box.left m) (λ h. leaves.nonzero (b.west_of leaves.x leaves.y h))
    (λ west. by_lt_z leaves.y (step_back box.top m) (λ h. leaves.nonzero (b.north_of leaves.x leaves.y h))
    (λ north. by_lt_z leaves.x (step_ahead (step_ahead box.right 1) m)
    (λ east. by_lt_z leaves.y (step_ahead (step_ahead box.bottom 1) m)
    (λ south. leaves.outside (
      record { from = omega (arith, ints, west, l, few, w); to = omega (arith, ints, east, r, few, w) },
      record { from = omega (arith, ints, north, u, few, w); to = omega (arith, ints, south, v, few, w) },
    ))
    (λ h. leaves.nonzero (b.south_of leaves.x leaves.y h)))
    (λ h. leaves.nonzero (b.east_of leaves.x leaves.y h))))

pub none-leaves : (rule : OuterTotalistic) (n : ℕ) (cells : ℤ → ℤ → ℕ) → n ≡ 0 → ¬ (LeavesWithin rule n cells)
none-leaves rule n cells e h = let a = h.some in let b = h.within in omega (arith, a, b, e)

pub blank-stays : (rule : OuterTotalistic) (n : ℕ) (t : Tree) → has_digit rule.sets.births 0 ≡ false → ((x y : ℤ) → tree_cell t x y ≡ 0)
    → ¬ (LeavesWithin rule n (tree_cell t))
blank-stays rule n t quiet none h = h.nonzero (sym (blank-later rule h.generation t quiet none h.x h.y) ∙ none h.x h.y)

-- ---- courses after one another

module _ (rule : OuterTotalistic) (m n : ℕ) (f g : ℤ → ℤ → ℕ) (is : g ≡ after rule m f) where
  later-is : (k : ℕ) → after rule k g ≡ after rule (k + m) f
  later-is k = ap (after rule k) is ∙ sym (after-adds rule k m f)

  pub stays-then : ¬ (LeavesWithin rule m f) → ¬ (LeavesWithin rule n g) → ¬ (LeavesWithin rule (n + m) f)
  stays-then first second h = by (cases_lt m h.generation)
    where
      by : (m < h.generation) ⊎ (h.generation ≤ m) → ⊥
      by (inr l) = first (record { generation = h.generation; some = h.some; within = l; x = h.x; y = h.y; outside = h.outside; nonzero = h.nonzero })
      by (inl l) =
          let w = h.within in
          let e : h.generation - m + m ≡ h.generation = omega (arith, l) in
          second (record {
            generation = h.generation - m;
            some = omega (arith, l);
            within = omega (arith, l, w);
            x = h.x;
            y = h.y;
            outside = h.outside;
            nonzero = λ zero. h.nonzero (ap (λ k. after rule k f h.x h.y) (sym e) ∙ sym (ap (λ (p : ℤ → ℤ
                → ℕ). p h.x h.y) (later-is (h.generation - m))) ∙ zero);
          })

  pub leaves-then : LeavesWithin rule n g → LeavesWithin rule (n + m) f
  leaves-then h =
      let some = h.some in
      let within = h.within in
      record {
        generation = h.generation + m;
        some = omega (arith, some);
        within = omega (arith, within);
        x = h.x;
        y = h.y;
        outside = h.outside;
        nonzero = λ zero. h.nonzero (ap (λ (p : ℤ → ℤ → ℕ). p h.x h.y) (later-is h.generation) ∙ zero);
      }

  pub fault-then : (stored : List Tree) (most : ℕ) (fault : Fault) → IsCourseFault rule n g stored most fault → IsCourseFault rule (n + m) f stored most fault
  fault-then stored most fault (inl h) = inl h
  fault-then stored most fault (inr h) = inr (h.0, leaves-then h.1)

-- ---- a generation at the edge

module _ (rule : OuterTotalistic) (cells : ℤ → ℤ → ℕ) where
  -- the only generation is the first
  pub edge-stays : ¬ (HasCellOutside (after rule 1 cells)) → ¬ (LeavesWithin rule 1 cells)
  edge-stays none h =
      let some = h.some in
      let within = h.within in
      let e : h.generation ≡ 1 = omega (arith, some, within) in
      none (record { x = h.x; y = h.y; outside = h.outside; nonzero = λ zero. h.nonzero (ap (λ k. after rule k cells h.x h.y) e ∙ zero) })

  pub edge-leaves : (n : ℕ) → 1 ≤ n → HasCellOutside (after rule 1 cells) → LeavesWithin rule n cells
  edge-leaves n some h =
      record { generation = 1; some = omega arith; within = some; x = h.x; y = h.y; outside = h.outside; nonzero = h.nonzero }

  pub edge-refused : (n : ℕ) → 1 ≤ n → (stored : List Tree) (most : ℕ) (kind : Kind)
      → IsShortageKind stored most kind ⊎ ((kind ≡ kinds.OutOfPlane) × HasCellOutside (after rule 1 cells))
      → IsCourseFault rule n cells stored most (fault_of kind)
  edge-refused n some stored most kind (inl (inl memory)) = inl (inl (ap fault_of memory))
  edge-refused n some stored most kind (inl (inr full)) = inl (inr (ap fault_of full.0, full.1))
  edge-refused n some stored most kind (inr h) = inr (ap fault_of h.0, edge-leaves n some h.1)
