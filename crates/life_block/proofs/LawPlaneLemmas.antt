-- The next generation of a pattern by a law: it isn't refused, and its parts are squares of the plane.
use Rattle.std.proofs.Common.{◌≡◌, ℕ, ◌<◌, ◌≤◌, false, inr, List, ℤ, Option, Some, None, IfSome, refl, ◌∙◌, subst, arith}
use Rattle.life_base.specs.Tree.{Tree, point, quad, depth, tree_cell, IsFull}
use Rattle.life_base.specs.declared.cell.TheConstants.{MAX_LEVEL}
use Rattle.life_quad.specs.Cells.{population}
use Rattle.life_quad.specs.Refused.{SomePart}
use Rattle.life_quad.specs.Turning.{turned_tree}
use Rattle.life_quad.specs.declared.turning.Turn.{Turn}
use Rattle.life_strip.specs.Given.{IsRunOnPlane}
use Rattle.life_sweep.specs.Refused.{GenerationRefusal, HasStateFrom, SomeAmbiguous, SomeNext, of_plane}
use Rattle.life_sweep.specs.Sweep.{IsLeft}
use Rattle.life_table.specs.Meaning.{Answer}
use Rattle.life_block.specs.Laws.{IsNextAt}
use Rattle.life_pieces.specs.Pieces.{square_from}
use Rattle.life_block.proofs.GenerationLemmas.{on-plane, same-state, one-state}
use Rattle.life_block.proofs.LawPieceLemmas.{cell-small}
use Rattle.life_pieces.proofs.NeedLemmas.{piece-is}
use Rattle.life_block.proofs.PlaneLemmas.{whole-part}
use Rattle.life_pieces.proofs.RootLemmas.{cell-outside, corner, piece-of_root}

-- the image under the turn that changes nothing
abbrev pub upright : Turn
upright = record { exchange = false; columns = false; rows = false }

pub upright-image : (t : Tree) → turned_tree upright t ≡ t
upright-image (point s) = refl
upright-image (quad a b c d) = (λ i. quad (upright-image a i) (upright-image b i) (upright-image c i) (upright-image d i))

-- what an option has, its value has
pub of-option : {T : Type 0} (P : T → Type 0) {o : Option T} {x : T} → o ≡ Some x → IfSome o P → P x
of-option P is h = subst (λ o. IfSome o P) is h

-- what holds of two values holds of equal ones
pub of-equals : {A B : Type 0} (P : A → B → Type 0) {a c : A} {b d : B} → a ≡ c → b ≡ d → P a b → P c d
of-equals P {c = c} {b = b} e f h = subst (P c) f (subst (λ a. P a b) e h)

module _ (answers : List ℕ → Answer → Type 0) (bound : ℕ) (t r : Tree) (full : IsFull r) (whole : depth r ≡ MAX_LEVEL)
    (next : (x y : ℤ) → IsNextAt answers bound (tree_cell t) x y (tree_cell r x y)) where
  outside : (x y : ℤ) → ¬ (IsRunOnPlane x y 1) → tree_cell r x y ≡ 0
  outside x y apart = cell-outside r x y (λ i. apart (on-plane r x y (omega (arith, whole)) i))

  -- it isn't refused, where there is one answer at most
  pub accepted-by : ((states : List ℕ) (a b : Answer) → answers states a → answers states b → a ≡ b) → (most : ℕ) → population t ≤ most
      → GenerationRefusal answers bound most t None
  accepted-by one most few = inr (many, inr (beyond, inr (ambiguous, inr (left, refl))))
    where
      many : ¬ (most < population t)
      many l = omega (arith, l, few)

      beyond : ¬ (HasStateFrom bound (tree_cell t))
      beyond h =
          let below = (next h.0 h.1).below in
          let above = h.2 in
          omega (arith, below, above)

      ambiguous : ¬ (SomeAmbiguous answers (tree_cell t))
      ambiguous h = one-state (tree_cell r h.0 h.1) h.2 (one _ _ _ h.3 (next h.0 h.1).answer)

      left : ¬ (IsLeft answers (tree_cell t))
      left h = h.nonzero (same-state h.next (tree_cell r h.x h.y) (one _ _ _ h.answer (next h.x h.y).answer) ∙ outside h.x h.y h.outside)

  -- a part of it is a square of the plane
  pub part-by : (P : Tree → Type 0) → SomePart P r → SomeNext P answers (tree_cell t)
  part-by P some =
      let high : 1 ≤ depth r = omega (arith, whole) in
      let is : r ≡ square_from (tree_cell r) (depth r) (corner r) (corner r) = piece-is (tree_cell r) (depth r) (corner r) (corner r) r full refl
      (piece-of_root r full high) in
      of_plane (tree_cell r) (λ x y. (next x y).answer) outside (whole-part P (tree_cell r) (cell-small r full high) r whole (subst (SomePart P) is some))

  pub part-of_image : (P : Tree → Type 0) → SomePart P (turned_tree upright r) → SomeNext P answers (tree_cell t)
  part-of_image P some = part-by P (subst (SomePart P) (upright-image r) some)
