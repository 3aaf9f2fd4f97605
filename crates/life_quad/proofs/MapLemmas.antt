-- Values kept at the numbers of Ids.
use Rattle.std.proofs.Common.{◌≡◌, ◌⊎◌, ℕ, inl, inr, ap, sym, subst}
use Rattle.life_quad.specs.declared.id.Id.{Id}

-- an Id is its number
pub same_number : (a b : Id) → a.0 ≡ b.0 → a ≡ b
same_number a b e = let mk : ℕ → Id = λ n. record { 0 = n } in ap mk e

-- what holds of each Id and its value holds after one of them is set, if it holds of that one
pub after_set : {X : Type 0} (R : Id → X → Type 0) (old new : Id → X) (id : Id) (value : X) → ((q : Id) → R q (old q))
    → ((q : Id) → (new q ≡ old q) ⊎ ((q ≡ id) × (new q ≡ value))) → R id value → (q : Id) → R q (new q)
after_set {X} R old new id value each only here q = by (only q)
  where
    by : (new q ≡ old q) ⊎ ((q ≡ id) × (new q ≡ value)) → R q (new q)
    by (inl e) = subst (R q) (sym e) (each q)
    by (inr (e, f)) = subst (λ i. R i (new q)) (sym e) (subst (R id) (sym f) here)
