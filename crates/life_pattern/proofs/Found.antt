-- A square that has a property, among those of which one has it.
use Rattle.std.proofs.Common.{◌≡◌, true, ap, sym, ◌∙◌, inl, inr, ℕ, refl}
use Rattle.life_base.specs.Tree.{Tree, point, quad, is_blank_tree}
use Rattle.life_quad.specs.Refused.{SomePart, TrimmedTo}
use Rattle.life_pattern.proofs.Trees.{four_parts}

-- the parts of a blank square are blank
pub part-blank : (t u : Tree) → is_blank_tree t ≡ true → SomePart (λ v. v ≡ u) t → is_blank_tree u ≡ true
part-blank (point s) u blank p = absurd p
part-blank (quad a b c d) u blank (inl e) = sym (ap is_blank_tree e) ∙ blank
part-blank (quad a b c d) u blank (inr rest) =
    let four = four_parts (is_blank_tree a) (is_blank_tree b) (is_blank_tree c) (is_blank_tree d) blank in
    elim rest [
      | inl p ↦ part-blank a u four.first p
      | inr (inl p) ↦ part-blank b u four.second p
      | inr (inr (inl p)) ↦ part-blank c u four.third p
      | inr (inr (inr p)) ↦ part-blank d u four.fourth p
    ]

-- ---- the square that has a property

pub record Found (P : Tree → Type 0) (Some : (Tree → Type 0) → Type 0) : Type 0 where
  pub square : Tree
  pub holds : P square
  pub some : Some (λ u. u ≡ square)

pub found-as : {P : Tree → Type 0} {A B : (Tree → Type 0) → Type 0} → ((Q : Tree → Type 0) → A Q → B Q) → Found P A → Found P B
found-as f h = record { square = h.square; holds = h.holds; some = f (λ u. u ≡ h.square) h.some }

pub find-part : (P : Tree → Type 0) (t : Tree) → SomePart P t → Found P (λ Q. SomePart Q t)
find-part P (point s) h = absurd h
find-part P (quad a b c d) (inl h) = record { square = quad a b c d; holds = h; some = inl refl }
find-part P (quad a b c d) (inr (inl h)) = found-as (λ Q k. inr (inl k)) (find-part P a h)
find-part P (quad a b c d) (inr (inr (inl h))) = found-as (λ Q k. inr (inr (inl k))) (find-part P b h)
find-part P (quad a b c d) (inr (inr (inr (inl h)))) = found-as (λ Q k. inr (inr (inr (inl k)))) (find-part P c h)
find-part P (quad a b c d) (inr (inr (inr (inr h)))) = found-as (λ Q k. inr (inr (inr (inr k)))) (find-part P d h)

pub find-trimmed : (P : Tree → Type 0) (t : Tree) (least : ℕ) → TrimmedTo P t least → Found P (λ Q. TrimmedTo Q t least)
find-trimmed P t least s = record { square = _; holds = s.has; some = record { smaller = s.smaller; has = refl } }
