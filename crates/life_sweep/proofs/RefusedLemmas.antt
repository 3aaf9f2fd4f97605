-- When a generation is refused.
use Rattle.std.proofs.Common.{◌≡◌, ℕ, zero, suc, ◌-◌, ◌^◌, ◌<◌, ◌≤◌, inl, inr, Bool, true, false, nat_lt, ℤ, List, [], ◌∷◌, Some, None, refl, ◌∙◌, ap, subst, arith, All, Contains}
use Rattle.std.proofs.lemmas.Int.{ints}
use Rattle.std.proofs.lemmas.Bool.Decides.{eqb_tells}
use Rattle.life_base.specs.declared.cell.TheConstants.{MAX_LEVEL}
use Rattle.life_base.specs.declared.cell.Cell.{Cell}
use Rattle.life_base.specs.declared.fault.Fault.{Fault}
use Rattle.life_base.specs.Refusal.{fault_of}
use Rattle.life_base.specs.Tree.{Tree, depth, half_side, tree_cell}
use Rattle.life_quad.specs.Cells.{IsCellList, population}
use Rattle.life_table.specs.Meaning.{Answer, Becomes, Ambiguous}
use Rattle.life_sweep.specs.Refused.{GenerationRefusal, HasStateFrom, SomeAmbiguous}
use Rattle.life_sweep.specs.Generation.{states_at}
use Rattle.life_sweep.specs.Sweep.{RefusesStep, IsLeft}
use Rattle.life_sweep.proofs.CellLemmas.{nonzero-inside}
use Rattle.life_base.proofs.Members.{in_tail}
use Rattle.life_base.specs.declared.kind.Kind.TheVariants as kinds

all-more : (n : ℕ) (cell : Cell) (rest : List Cell) → cell.state < n → All (λ c. c.state < n) rest → All (λ c. c.state < n) (cell ∷ rest)
all-more n cell rest l h zero d m = l
all-more n cell rest l h (suc k) d m = h k d (omega (arith, m))

-- a list that isn't below a number has a cell that isn't
some-from : (list : List Cell) (n : ℕ) → ¬ (All (λ c. c.state < n) list) → (c : Cell) × Contains list c × (n ≤ c.state)
some-from [] n h = absurd (h (λ k d l. absurd (omega (arith, l))))
some-from (cell ∷ rest) n h = by (some-from rest n) (nat_lt cell.state n) refl
  where
    by : (¬ (All (λ c. c.state < n) rest) → (c : Cell) × Contains rest c × (n ≤ c.state)) → (b : Bool) → nat_lt cell.state n ≡ b → (c : Cell)
        × Contains (cell ∷ rest) c × (n ≤ c.state)
    by more true e = let r = more (λ all. h (all-more n cell rest (grind (arith, e)) all)) in (r.0, in_tail cell rest r.0 r.1, r.2)
    by more false e = (cell, (0, omega arith, refl), grind (arith, e))

pub has-from : (t : Tree) (list : List Cell) (n : ℕ) → IsCellList t list → ¬ (All (λ c. c.state < n) list) → HasStateFrom n (tree_cell t)
has-from t list n h not =
    let s = some-from list n not in
    let e = (h.true_cells s.0 s.1).0 in
    let le = s.2 in
    (s.0.x, s.0.y, omega (arith, e, le))

pub none-from : (t : Tree) (list : List Cell) (n : ℕ) → 0 < n → IsCellList t list → All (λ c. c.state < n) list → ¬ (HasStateFrom n (tree_cell t))
none-from t list n positive h below (x, y, le) =
    let cell : Cell = record { x = x; y = y; state = tree_cell t x y } in
    let c = h.all_cells cell refl (λ e. omega (arith, e, le, positive)) in
    let less = subst (λ (z : Cell). z.state < n) c.2 (below c.0 cell c.1) in
    omega (arith, le, less)

module _ (A : List ℕ → Answer → Type 0) (one : (v : List ℕ) (a b : Answer) → A v a → A v b → a ≡ b) (n most : ℕ) (t : Tree) where
  -- where each pair has a state, no line is ambiguous
  none-ambiguous : ((x y : ℤ) → (s : ℕ) × A (states_at (tree_cell t) x y) (Becomes s)) → ¬ (SomeAmbiguous A (tree_cell t))
  none-ambiguous each (x, y, line, h) = let s = each x y in let e = one (states_at (tree_cell t) x y) (Becomes s.0) (Ambiguous line) s.1 h in cc

  pub beyond : ¬ (most < population t) → HasStateFrom n (tree_cell t) → GenerationRefusal A n most t (Some (fault_of kinds.StateBeyondTable))
  beyond few from = inr (few, inl (from, refl))

  pub step-refused : ¬ (most < population t) → ¬ (HasStateFrom n (tree_cell t)) → (f : Fault) → RefusesStep A (tree_cell t) f
      → GenerationRefusal A n most t (Some f)
  step-refused few none f (inl (kind, first)) =
      inr (
        few,
        inr (
          none,
          inl (
            (first.x, first.y, f.place.line, first.here),
            (f.place.line, first, ap (λ k. Some (record { place = f.place; kind = k })) kind),
          ),
        ),
      )
  step-refused few none f (inr (e, left, each)) = inr (few, inr (none, inr (none-ambiguous each, inl (left, ap Some e))))

  -- a pair outside the plane has state 0 in every square of the plane
  none-left : (r : Tree) → depth r ≡ MAX_LEVEL → ((x y : ℤ) → A (states_at (tree_cell t) x y) (Becomes (tree_cell r x y))) → ¬ (IsLeft A (tree_cell t))
  none-left r level next l = elim (eqb_tells (tree_cell r l.x l.y) 0) [
    | inl z ↦ l.nonzero (same ∙ z.1)
    | inr z ↦ (let i = nonzero-inside r l.x l.y z.1 in
        let half : half_side r ≡ 2 ^ 61 = ap (λ k. 2 ^ (k - 1)) level in
        l.outside (record {
          west = omega (arith, ints, i.west, half);
          east = omega (arith, ints, i.east, half);
          north = omega (arith, ints, i.north, half);
          south = omega (arith, ints, i.south, half);
        }))
  ]
    where
      same : l.next ≡ tree_cell r l.x l.y
      same = let e = one (states_at (tree_cell t) l.x l.y) (Becomes l.next) (Becomes (tree_cell r l.x l.y)) l.answer (next l.x l.y) in cc

  pub accepted : ¬ (most < population t) → ¬ (HasStateFrom n (tree_cell t)) → (r : Tree) → depth r ≡ MAX_LEVEL
      → ((x y : ℤ) → A (states_at (tree_cell t) x y) (Becomes (tree_cell r x y)))
      → GenerationRefusal A n most t None
  accepted few none r level next = inr (few, inr (none, inr (none-ambiguous (λ x y. (tree_cell r x y, next x y)), inr (none-left r level next, refl))))
