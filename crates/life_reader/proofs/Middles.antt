-- The square about (0, 0) into which the cells of an RLE file are put.
use Rattle.std.proofs.Common.{◌≡◌, ℕ, zero, suc, ◌-◌, ◌<◌, ◌≤◌, false, List, [], ◌∷◌, length, refl, ap, sym, ◌∙◌, subst, arith, inl, inr, ℤ, Some, slice_get}
use Rattle.std.proofs.lemmas.Int.{ints}
use Rattle.life_base.specs.declared.cell.TheConstants.{MAX_LEVEL}
use Rattle.life_base.specs.declared.cell.Run.{Run}
use Rattle.life_base.specs.declared.rule.Rule.{Rule}
use Rattle.life_base.specs.Tree.{Tree, point, quad, depth, blank, is_blank_tree, IsFull}
use Rattle.life_base.proofs.Basics.{true_false}
use Rattle.life_base.proofs.Squares.{depth-blank, full-blank, is_blank-blank}
use Rattle.life_quad.specs.Cells.{IsInRun}
use Rattle.life_quad.specs.Moves.{grown_square}
use Rattle.life_quad.specs.Refused.{SomePart}
use Rattle.life_quad.proofs.LawLemmas.{depth_grown}
use Rattle.life_rle.specs.File.{HasRuns}
use Rattle.life_rle.specs.RunsLaw.{IsGoodRun, AreGoodRuns}
use Rattle.life_rle.proofs.RunsLaws.{runs_are_cells}
use Rattle.life_strip.specs.Given.{AreInOrder}
use Rattle.life_strip.specs.Middle.{EndsWithCell, SomeAboutMiddle}
use Rattle.life_strip.proofs.GivenLemmas.{runs-apart}
use Rattle.life_reader.specs.Needs.{SomeRoot, trimmed_root, grown_root, grown_times}
use Rattle.life_pattern.specs.Universe.{Universe}
use Rattle.life_reader.proofs.SpaceRoots.{least-three}

-- ---- the last run of a file

good-index : (rule : Rule) (runs : List Run) (i : ℕ) (run : Run) → AreGoodRuns MAX_LEVEL rule runs → slice_get runs i ≡ Some run
    → IsGoodRun MAX_LEVEL rule run
good-index rule [] i run g e = absurd cc
good-index rule (x ∷ xs) zero run g e = let same : x ≡ run = cc in subst (IsGoodRun MAX_LEVEL rule) same g.0
good-index rule (x ∷ xs) (suc i) run g e = good-index rule xs i run g.1 e

pub ends-with-cell : (lines : List (List ℕ)) (runs : List Run) → HasRuns MAX_LEVEL lines runs → AreInOrder runs → EndsWithCell runs
ends-with-cell lines runs (inl h) order last e =
    let none = sym (ap (λ (rs : List Run). slice_get rs (length rs - 1)) h.2) ∙ e in absurd cc
ends-with-cell lines runs (inr h) order last e =
    let good = subst (AreGoodRuns MAX_LEVEL h.0.rule) (sym h.2) (runs_are_cells MAX_LEVEL lines h.0 h.1).0 in
    let g = good-index h.0.rule runs (length runs - 1) last good e in
    let some = g.some in
    let here : IsInRun last.x last.y last.len last.x last.y =
    record { same_row = refl; from = omega (arith, ints); to = omega (arith, ints, some) } in
    let state = (runs-apart runs (length runs - 1) (length runs - 1) last last last.x last.y order e e here here).1 in
    let live = g.live in
    (last.x, λ z. omega (arith, state, z, live))

-- ---- the root

-- what a root of a lower level needs, that of the plane needs
pub root-lower : (P : Tree → Type 0) (u : Universe) (n : ℕ) → 3 ≤ n → n ≤ MAX_LEVEL → SomeRoot MAX_LEVEL P u n → SomeRoot MAX_LEVEL P u MAX_LEVEL
root-lower P u n low high (trimmed_root lower p) = trimmed_root (omega (arith, lower, high)) p
root-lower P u n low high (grown_root level higher least some) = let three = least-three u.rule in absurd (omega (arith, higher, least, three, low))

-- the same of other cells
pub same-about : {P : Tree → Type 0} (f g : ℤ → ℤ → ℕ) → ((x y : ℤ) → f x y ≡ g x y) → SomeAboutMiddle P f → SomeAboutMiddle P g
same-about {P = P} f g e s = subst (SomeAboutMiddle P) (λ i x y. e x y i) s

-- ---- parts of a square that is grown

no-blank-part : (k : ℕ) (t : Tree) → is_blank_tree t ≡ false → SomePart (λ v. v ≡ t) (blank k) → ⊥
no-blank-part zero t live p = p
no-blank-part (suc k) t live (inl e) = true_false (is_blank_tree t) (ap is_blank_tree (sym e) ∙ is_blank-blank (suc k)) live
no-blank-part (suc k) t live (inr (inl p)) = no-blank-part k t live p
no-blank-part (suc k) t live (inr (inr (inl p))) = no-blank-part k t live p
no-blank-part (suc k) t live (inr (inr (inr (inl p)))) = no-blank-part k t live p
no-blank-part (suc k) t live (inr (inr (inr (inr p)))) = no-blank-part k t live p

module _ (a b c d t : Tree) (live : is_blank_tree t ≡ false) (lower : depth t < suc (depth a)) (full : IsFull (quad a b c d)) where
  abbrev e : Tree
  e = blank (depth a)

  deep : depth e ≡ depth a
  deep = depth-blank (depth a)

  not : {X : Type 0} → SomePart (λ v. v ≡ t) e → X
  not p = absurd (no-blank-part (depth a) t live p)

  -- a square of two levels more or of one is too large
  large : {X : Type 0} (q : Tree) → suc (depth a) ≤ depth q → q ≡ t → X
  large q tall is = let h = ap depth is in absurd (omega (arith, h, tall, lower))

  nw : SomePart (λ v. v ≡ t) (quad e e e a) → SomePart (λ v. v ≡ t) a
  nw (inl is) = let h = deep in large (quad e e e a) (omega (arith, h)) is
  nw (inr (inl p)) = not p
  nw (inr (inr (inl p))) = not p
  nw (inr (inr (inr (inl p)))) = not p
  nw (inr (inr (inr (inr p)))) = p

  ne : SomePart (λ v. v ≡ t) (quad e e b e) → SomePart (λ v. v ≡ t) b
  ne (inl is) = let h = deep in large (quad e e b e) (omega (arith, h)) is
  ne (inr (inl p)) = not p
  ne (inr (inr (inl p))) = not p
  ne (inr (inr (inr (inl p)))) = p
  ne (inr (inr (inr (inr p)))) = not p

  sw : SomePart (λ v. v ≡ t) (quad e c e e) → SomePart (λ v. v ≡ t) c
  sw (inl is) = let h = deep in large (quad e c e e) (omega (arith, h)) is
  sw (inr (inl p)) = not p
  sw (inr (inr (inl p))) = p
  sw (inr (inr (inr (inl p)))) = not p
  sw (inr (inr (inr (inr p)))) = not p

  se : SomePart (λ v. v ≡ t) (quad d e e e) → SomePart (λ v. v ≡ t) d
  se (inl is) = let h = deep in let f = full.6 in large (quad d e e e) (omega (arith, h, f)) is
  se (inr (inl p)) = p
  se (inr (inr (inl p))) = not p
  se (inr (inr (inr (inl p)))) = not p
  se (inr (inr (inr (inr p)))) = not p

  quad-part : SomePart (λ v. v ≡ t) (grown_square (quad a b c d)) → SomePart (λ v. v ≡ t) (quad a b c d)
  quad-part (inl is) = let h = deep in large (grown_square (quad a b c d)) (omega (arith, h)) is
  quad-part (inr (inl p)) = inr (inl (nw p))
  quad-part (inr (inr (inl p))) = inr (inr (inl (ne p)))
  quad-part (inr (inr (inr (inl p)))) = inr (inr (inr (inl (sw p))))
  quad-part (inr (inr (inr (inr p)))) = inr (inr (inr (inr (se p))))

-- it is full
pub full-grown : (r : Tree) → IsFull r → IsFull (grown_square r)
full-grown (point s) full = full
full-grown (quad a b c d) full =
    let f = full-blank (depth a) in
    let e = depth-blank (depth a) in (
      (f, f, f, full.0, refl, refl, sym e),
      (f, f, full.1, f, refl, full.4 ∙ sym e, refl),
      (f, full.2, f, f, full.5 ∙ sym e, refl, refl),
      (full.3, f, f, f, e ∙ sym full.6, e ∙ sym full.6, e ∙ sym full.6),
      refl,
      refl,
      ap suc (full.6 ∙ sym e),
    )

part-of-grown : (r t : Tree) → IsFull r → is_blank_tree t ≡ false → depth t < depth r → SomePart (λ v. v ≡ t) (grown_square r) → SomePart (λ v. v ≡ t) r
part-of-grown (point s) t full live lower p = p
part-of-grown (quad a b c d) t full live lower p = quad-part a b c d t live lower full p

pub part-of-many : (n : ℕ) (r t : Tree) → IsFull r → is_blank_tree t ≡ false → depth t < depth r → SomePart (λ v. v ≡ t) (grown_times n r)
    → SomePart (λ v. v ≡ t) r
part-of-many zero r t full live lower p = p
part-of-many (suc n) r t full live lower p =
    let d = depth_grown r (omega (arith, lower)) in
    part-of-grown r t full live lower (part-of-many n (grown_square r) t (full-grown r full) live (omega (arith, d, lower)) p)
