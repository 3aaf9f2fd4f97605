-- Patterns of moved squares.
use Rattle.std.proofs.Common.{◌≡◌, ℕ, zero, suc, ◌-◌, ◌^◌, ◌≤◌, Bool, true, false, refl, sym, ap, ap₂, ◌∙◌, subst, ℤ, pos, neg_ℤ, ◌+ℤ◌, arith, if◌then◌else◌, ◌&&◌, nat_lt, int_le, int_lt, unsigned_abs}
use Rattle.life_base.specs.Tree.{Tree, point, quad, depth, half_side, state_at, tree_cell, IsFull}
use Rattle.life_base.specs.declared.cell.TheConstants.{MAX_LEVEL}
use Rattle.life_base.specs.declared.rule.Rule.{Rule}
use Rattle.life_base.specs.declared.rule.Rule.TheVariants.{Life, Named}
use Rattle.life_mc.specs.Macrocell.{largest_state}
use Rattle.life_mc.specs.Squares.{HasStatesUpTo}
use Rattle.life_quad.specs.Moves.{trimmed_square}
use Rattle.life_quad.specs.Store.{Nodes}
use Rattle.life_quad.specs.declared.id.Id.{Id}
use Rattle.life_quad.proofs.LawLemmas.{trimming_keeps_cells, trimmed_is_fixed, trimming_stops}
use Rattle.life_pattern.specs.Laws.{SquaresAreCentred}
use Rattle.life_pattern.specs.Store.{IsKnown, IsTrimmed, content}
use Rattle.life_pattern.specs.Universe.{Universe, square, centred_square, corner, least_level, square_universe}
pub use Rattle.life_pattern.proofs.Whole.{least-one}
pub use Rattle.life_pattern.proofs.Fits.{root-high}
use Rattle.life_forms.specs.Forms.{IsShift, IsMoved}
use Rattle.life_forms.proofs.ShiftFacts.{there-and-back}
use Rattle.life_forms.proofs.PlaneFacts.{moved-same}

-- ---- states

one-of-states : (most : ℕ) (v w : Bool) (p q r s : ℕ) → p ≤ most → q ≤ most → r ≤ most → s ≤ most
    → (if v then (if w then p else q) else (if w then r else s)) ≤ most
one-of-states most true true p q r s e f g h = e
one-of-states most true false p q r s e f g h = f
one-of-states most false true p q r s e f g h = g
one-of-states most false false p q r s e f g h = h

state-up-to : (most : ℕ) (t : Tree) → HasStatesUpTo most t → (i j : ℕ) → state_at t i j ≤ most
state-up-to most (point s) h i j = h
state-up-to most (quad a b c d) h i j =
    one-of-states most (nat_lt j (2 ^ depth a)) (nat_lt i (2 ^ depth a)) _ _ _ _
    (state-up-to most a h.0 i j) (state-up-to most b h.1 (i - 2 ^ depth a) j)
    (state-up-to most c h.2 i (j - 2 ^ depth a)) (state-up-to most d h.3 (i - 2 ^ depth a) (j - 2 ^ depth a))

within-or-none : (most : ℕ) (b : Bool) (n : ℕ) → n ≤ most → (if b then n else 0) ≤ most
within-or-none most true n l = l
within-or-none most false n l = omega arith

pub cell-up-to : (most : ℕ) (t : Tree) → HasStatesUpTo most t → (x y : ℤ) → tree_cell t x y ≤ most
cell-up-to most t h x y =
    within-or-none most
    (int_le (neg_ℤ (pos (half_side t))) x && int_lt x (pos (half_side t)) && int_le (neg_ℤ (pos (half_side t))) y && int_lt y (pos (half_side t))) _
    (state-up-to most t h (unsigned_abs (x +ℤ pos (half_side t))) (unsigned_abs (y +ℤ pos (half_side t))))

pub square-up-to : (most : ℕ) (cell : ℤ → ℤ → ℕ) → ((x y : ℤ) → cell x y ≤ most) → (k : ℕ) (x y : ℤ) → HasStatesUpTo most (square cell k x y)
unfolding square
square-up-to most cell h zero x y = h x y
square-up-to most cell h (suc k) x y = (
  square-up-to most cell h k x y,
  square-up-to most cell h k (x +ℤ pos (2 ^ k)) y,
  square-up-to most cell h k x (y +ℤ pos (2 ^ k)),
  square-up-to most cell h k (x +ℤ pos (2 ^ k)) (y +ℤ pos (2 ^ k)),
)

-- no state of a square is above one that no cell's is above
states-up-to : SquaresAreCentred → (most : ℕ) (t : Tree) → IsFull t → 1 ≤ depth t → ((x y : ℤ) → tree_cell t x y ≤ most) → HasStatesUpTo most t
unfolding centred_square
states-up-to centre most t full high h = subst (HasStatesUpTo most) (centre t full high).0
    (square-up-to most (tree_cell t) h (depth t) (corner (depth t)) (corner (depth t)))

-- a shift has the states of the pattern
pub shift-up-to : (most : ℕ) (u v : Universe) → IsShift u v → ((x y : ℤ) → u.cell x y ≤ most) → (x y : ℤ) → v.cell x y ≤ most
shift-up-to most u v s h x y =
    subst (λ (n : ℕ). n ≤ most) (sym (s.cells _ _) ∙ ap₂ v.cell (there-and-back x s.columns) (there-and-back y s.rows)) (h _ _)

-- ---- trimmed

pub least-low : (rule : Rule) → least_level rule ≤ MAX_LEVEL
least-low (Life life) = omega arith
least-low (Named name) = omega arith

-- the square of the plane, trimmed, is the root of a pattern
pub plane-trimmed : SquaresAreCentred → (store : Nodes) (rule : Rule) (generation : ℕ) (root : Id) (t : Tree) → IsKnown store root
    → content store root ≡ trimmed_square t (least_level rule) → IsFull t → depth t ≡ MAX_LEVEL → ((x y : ℤ) → tree_cell t x y ≤ largest_state rule)
    → IsTrimmed store (record { rule = rule; generation = generation; root = root })
plane-trimmed centre store rule generation root t known is full level states =
    let m = least_level rule in
    let one = least-one rule in
    let low = least-low rule in
    let fixed = trimmed_is_fixed t m full one in
    let high = (trimming_stops t m full one).0 (omega (arith, level, low)) in
    let upto = states-up-to centre (largest_state rule) (trimmed_square t m) fixed.0 (omega (arith, high, one))
    (λ x y. subst (λ (n : ℕ). n ≤ largest_state rule) (sym (trimming_keeps_cells t m full one x y)) (states x y)) in
    record {
      known = known;
      level = subst (λ (s : Tree). m ≤ depth s) (sym is) high;
      trimmed = ap (λ (s : Tree). trimmed_square s m) is ∙ fixed.1 ∙ sym is;
      states = subst (HasStatesUpTo (largest_state rule)) (sym is) upto;
    }

-- it has the cells of the plane
pub plane-moved : (rule : Rule) (generation : ℕ) (root t : Tree) (u : Universe) → root ≡ trimmed_square t (least_level rule) → IsFull t
    → IsMoved MAX_LEVEL u (square_universe rule generation t) → IsMoved MAX_LEVEL u (square_universe rule generation root)
plane-moved rule generation root t u is full moved =
    moved-same MAX_LEVEL u _ _ moved (record {
      rule = refl;
      generation = refl;
      cells = λ x y. sym (ap (λ (s : Tree). tree_cell s x y) is ∙ trimming_keeps_cells t (least_level rule) full (least-one rule) x y);
    })
