-- A refusal by the square of a pattern is one by what its file says.
use Rattle.std.proofs.Common.{◌≡◌, ℕ, ◌-◌, ◌^◌, ◌<◌, ◌≤◌, inl, inr, ℤ, pos, neg_ℤ, ◌≤ℤ◌, ◌<ℤ◌, List, Option, Some, None, refl, sym, ◌∙◌, subst, arith}
use Rattle.std.proofs.lemmas.Int.{ints}
use Rattle.std.proofs.lemmas.Bool.Decides.{eqb_tells}
use Rattle.std.proofs.Math.Pow.{pow_mono}
use Rattle.life_base.specs.Refusal.{fault_of}
use Rattle.life_base.specs.Sets.{OuterTotalistic}
use Rattle.life_base.specs.Tree.{Tree, depth, half_side, tree_cell, IsFull}
use Rattle.life_base.specs.declared.cell.Cell.{Cell}
use Rattle.life_base.specs.declared.cell.TheConstants.{MAX_LEVEL}
use Rattle.life_base.specs.declared.fault.Fault.{Fault}
use Rattle.life_base.specs.declared.kind.Kind.TheVariants as kinds
use Rattle.life_quad.specs.Cells.{IsCellList, population}
use Rattle.life_quad.proofs.LawLemmas.{cells_are_listed, list_is_population, cells_lie_inside}
use Rattle.life_strip.specs.Given.{IsRunOnPlane}
use Rattle.life_table.specs.Meaning.{Answer, Becomes, Ambiguous}
use Rattle.life_next.specs.Generation.{next_life}
use Rattle.life_sweep.specs.Generation.{states_at}
use Rattle.life_sweep.specs.Refused.{IfElse, HasStateFrom, fault_on, GenerationRefusal}
use Rattle.life_sweep.specs.Sweep as sweep_words
use Rattle.life_sweep.specs.Sweep.{IsLeft}
use Rattle.life_writer.specs.Texts.{AreCellsOf}
use Rattle.life_pattern.specs.Universe.{Universe, IsBlankOutside, corner}
use Rattle.life_step.specs.Refusals.{PatternHasMoreCells, IsOfPlane, LeavesByRule, SomeAmbiguousCell, IsFirstAmbiguousCell, LeavesPlane}

pub if-else : {C D A B P Q : Type 0} → (C → D) → (D → C) → (A → P) → (B → Q) → IfElse C A B → IfElse D P Q
if-else to from left right (inl h) = inl (to h.0, left h.1)
if-else to from left right (inr h) = inr (λ d. h.0 (from d), right h.1)

-- ---- the plane

on-plane : (x y : ℤ) → IsOfPlane MAX_LEVEL x y → IsRunOnPlane x y 1
unfolding corner
on-plane x y h =
    let w = h.0.0 in
    let e = h.0.1 in
    let n = h.1.0 in
    let s = h.1.1 in
    record { west = omega (arith, ints, w); east = omega (arith, ints, e); north = omega (arith, ints, n); south = omega (arith, ints, s) }

of-plane : (x y : ℤ) → IsRunOnPlane x y 1 → IsOfPlane MAX_LEVEL x y
unfolding corner
of-plane x y h =
    let w = h.west in
    let e = h.east in
    let n = h.north in
    let s = h.south in
    ((omega (arith, ints, w), omega (arith, ints, e)), (omega (arith, ints, n), omega (arith, ints, s)))

-- a square has no cell outside the plane
pub blank-outside : (t : Tree) → depth t ≤ MAX_LEVEL → IsBlankOutside MAX_LEVEL (tree_cell t)
blank-outside t e x y n = elim (eqb_tells (tree_cell t x y) 0) [
  | inl z ↦ z.1
  | inr k ↦
      let i = cells_lie_inside t x y k.1 in
      let half : half_side t ≤ 2 ^ 61 = pow_mono {i = depth t - 1} {j = 61} (omega (arith, e)) in
      absurd (n (of-plane x y (inside (half_side t) half i.0 i.1 i.2 i.3)))
]
  where
    inside : (h : ℕ) → h ≤ 2 ^ 61 → neg_ℤ (pos h) ≤ℤ x → x <ℤ pos h → neg_ℤ (pos h) ≤ℤ y → y <ℤ pos h → IsRunOnPlane x y 1
    inside h small a b c d = record {
      west = omega (arith, ints, small, a);
      east = omega (arith, ints, small, b);
      north = omega (arith, ints, small, c);
      south = omega (arith, ints, small, d);
    }

-- ---- a pattern and its square

module _ (t : Tree) (u : Universe) (same : (x y : ℤ) → u.cell x y ≡ tree_cell t x y) (full : IsFull t) (high : 1 ≤ depth t) where
  are-cells : (cells : List Cell) → IsCellList t cells → AreCellsOf u.cell cells
  are-cells cells h = record {
    in_order = h.in_order;
    true_cells = λ c k. let r = h.true_cells c k in (same c.x c.y ∙ r.0, r.1);
    all_cells = λ c e n. h.all_cells c (sym (same c.x c.y) ∙ e) n;
  }

  is-list : (cells : List Cell) → AreCellsOf u.cell cells → IsCellList t cells
  is-list cells h = record {
    in_order = h.in_order;
    true_cells = λ c k. let r = h.true_cells c k in (sym (same c.x c.y) ∙ r.0, r.1);
    all_cells = λ c e n. h.all_cells c (same c.x c.y ∙ e) n;
  }

  more-cells : (most : ℕ) → most < population t → PatternHasMoreCells most u
  more-cells most l =
      let list = cells_are_listed t full high in
      (list.0, are-cells list.0 list.1, subst (λ n. most < n) (sym (list_is_population t list.0 full high list.1)) l)

  more-squares : (most : ℕ) → PatternHasMoreCells most u → most < population t
  more-squares most h = subst (λ n. most < n) (list_is_population t h.0 full high (is-list h.0 h.1)) h.2

  module _ (answers : List ℕ → Answer → Type 0) (at : ℤ → ℤ → Answer → Type 0)
      (to : (x y : ℤ) (a : Answer) → answers (states_at (tree_cell t) x y) a → at x y a)
      (from : (x y : ℤ) (a : Answer) → at x y a → answers (states_at (tree_cell t) x y) a)
      (one : (states : List ℕ) (a b : Answer) → answers states a → answers states b → a ≡ b) where
    no-state : (s line : ℕ) → Becomes s ≡ Ambiguous line → ⊥
    no-state s line e = cc

    first : (line : ℕ) → sweep_words.IsFirstAmbiguous answers (tree_cell t) line → IsFirstAmbiguousCell at line
    first line h = record {
      x = h.x;
      y = h.y;
      here = to h.x h.y (Ambiguous line) h.here;
      before = λ c r other p k. let b = h.before c r p in no-state b.0 other (one _ _ _ b.1 (from c r (Ambiguous other) k));
    }

    leaves : IsLeft answers (tree_cell t) → LeavesPlane at MAX_LEVEL
    leaves h = (h.x, h.y, h.next, λ i. h.outside (on-plane h.x h.y i), h.nonzero, to h.x h.y (Becomes h.next) h.answer)

    left : LeavesPlane at MAX_LEVEL → IsLeft answers (tree_cell t)
    left h = record { x = h.0; y = h.1; next = h.2; answer = from h.0 h.1 (Becomes h.2) h.5; outside = λ i. h.3 (of-plane h.0 h.1 i); nonzero = h.4 }

    pub refusal-at : (n most : ℕ) (refusal : Option Fault) → GenerationRefusal answers n most t refusal
        → IfElse (PatternHasMoreCells most u) (refusal ≡ Some (fault_of kinds.TooManyCells))
        (IfElse (HasStateFrom n u.cell) (refusal ≡ Some (fault_of kinds.StateBeyondTable))
        (IfElse (SomeAmbiguousCell at) ((line : ℕ) × IsFirstAmbiguousCell at line × (refusal ≡ Some (fault_on line)))
        (IfElse (LeavesPlane at MAX_LEVEL) (refusal ≡ Some (fault_of kinds.OutOfPlane)) (refusal ≡ None))))
    refusal-at n most refusal h =
        if-else (more-cells most) (more-squares most) (λ e. e)
        (if-else
        (λ s. (s.0, s.1, subst (λ m. n ≤ m) (sym (same s.0 s.1)) s.2)) (λ s. (s.0, s.1, subst (λ m. n ≤ m) (same s.0 s.1) s.2)) (λ e. e)
        (if-else
        (λ a. (a.0, a.1, a.2, to a.0 a.1 (Ambiguous a.2) a.3)) (λ a. (a.0, a.1, a.2, from a.0 a.1 (Ambiguous a.2) a.3)) (λ f. (f.0, first f.0 f.1, f.2))
        (if-else leaves left (λ e. e) (λ e. e))))
        h

-- ---- a B/S rule: every cell has one next state, and no state is above 1

pub life-refusal : (u : Universe) (life : OuterTotalistic) (most : ℕ) (refusal : Option Fault)
    → ((x y : ℤ) → u.cell x y ≤ 1)
    → IfElse (PatternHasMoreCells most u) (refusal ≡ Some (fault_of kinds.TooManyCells))
    (IfElse (HasStateFrom 2 u.cell) (refusal ≡ Some (fault_of kinds.StateBeyondTable))
    (IfElse (SomeAmbiguousCell (λ x y a. a ≡ Becomes (next_life life u.cell x y)))
    ((line : ℕ) × IsFirstAmbiguousCell (λ x y a. a ≡ Becomes (next_life life u.cell x y)) line × (refusal ≡ Some (fault_on line)))
    (IfElse (LeavesPlane (λ x y a. a ≡ Becomes (next_life life u.cell x y)) MAX_LEVEL) (refusal ≡ Some (fault_of kinds.OutOfPlane)) (refusal ≡ None))))
    → IfElse (PatternHasMoreCells most u) (refusal ≡ Some (fault_of kinds.TooManyCells))
    (IfElse (LeavesByRule MAX_LEVEL life u) (refusal ≡ Some (fault_of kinds.OutOfPlane)) (refusal ≡ None))
life-refusal u life most refusal small h = if-else (λ c. c) (λ c. c) (λ e. e) states h
  where
    clash : (s line : ℕ) → Ambiguous line ≡ Becomes s → ⊥
    clash s line e = cc

    same_state : (a b : ℕ) → Becomes a ≡ Becomes b → a ≡ b
    same_state a b e = cc

    high : (n : ℕ) → 2 ≤ n → n ≤ 1 → ⊥
    high n a b = omega (arith, a, b)

    states : IfElse (HasStateFrom 2 u.cell) (refusal ≡ Some (fault_of kinds.StateBeyondTable))
        (IfElse (SomeAmbiguousCell (λ x y a. a ≡ Becomes (next_life life u.cell x y)))
        ((line : ℕ) × IsFirstAmbiguousCell (λ x y a. a ≡ Becomes (next_life life u.cell x y)) line × (refusal ≡ Some (fault_on line)))
        (IfElse (LeavesPlane (λ x y a. a ≡ Becomes (next_life life u.cell x y)) MAX_LEVEL) (refusal ≡ Some (fault_of kinds.OutOfPlane)) (refusal ≡ None)))
        → IfElse (LeavesByRule MAX_LEVEL life u) (refusal ≡ Some (fault_of kinds.OutOfPlane)) (refusal ≡ None)
    states (inl s) = absurd (high (u.cell s.0.0 s.0.1) s.0.2 (small s.0.0 s.0.1))
    states (inr (n, inl a)) = absurd (clash _ _ a.0.3)
    states (inr (n, inr (m, k))) =
        if-else
        (λ l. (l.0, l.1, l.3, λ z. l.4 (same_state l.2 _ l.5 ∙ z)))
        (λ l. (l.0, l.1, next_life life u.cell l.0 l.1, l.2, l.3, refl))
        (λ e. e) (λ e. e) k
