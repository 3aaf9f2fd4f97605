-- The generations that are left after the first stage of a course.
use Rattle.std.proofs.Common.{◌≡◌, inl, inr, ℕ, ◌+◌, ℤ, sym, ◌∙◌, ap, subst}
use Rattle.life_base.specs.Sets.{OuterTotalistic}
use Rattle.life_base.specs.Tree.{Tree, tree_cell}
use Rattle.life_base.specs.declared.fault.Fault.{Fault}
use Rattle.life_base.specs.declared.kind.Kind.TheVariants as kinds
use Rattle.life_leap.specs.After.{after}
use Rattle.life_later.proofs.CourseLemmas.{then-later}
use Rattle.life_later.proofs.StageLemmas.{leaves-later}
use Rattle.life_later.proofs.StayLemmas.{stays-then}
use Rattle.life_later.specs.Course.{IsCourse, IsFaultApart, LeavesWithin}

module _ (rule : OuterTotalistic) (m n k : ℕ) (t u : Tree) (sum : n + m ≡ k) (first : IsCourse rule m t u) where
  pub rest-later : (v : Tree) → ((x y : ℤ) → tree_cell v x y ≡ after rule n (tree_cell u) x y) → (x y : ℤ)
      → tree_cell v x y ≡ after rule k (tree_cell t) x y
  rest-later v second x y = then-later rule m n t u v first.later second x y ∙ ap (λ l. after rule l (tree_cell t) x y) sum

  pub rest-stays : ¬ (LeavesWithin rule n (tree_cell u)) → ¬ (LeavesWithin rule k (tree_cell t))
  rest-stays second h =
      let same : tree_cell u ≡ after rule m (tree_cell t) = (λ i x y. first.later x y i) in
      stays-then rule m n (tree_cell t) (tree_cell u) same first.stays second (subst (λ l. LeavesWithin rule l (tree_cell t)) (sym sum) h)

  apart-later : (fault : Fault) → IsFaultApart rule n (tree_cell u) fault → IsFaultApart rule k (tree_cell t) fault
  apart-later fault (inl memory) = inl memory
  apart-later fault (inr (inl full)) = inr (inl full)
  apart-later fault (inr (inr leaves)) = inr (inr (leaves.0, leaves-later rule m n k t u sum first leaves.1))
