-- Calls on one store, one after the other.
use Rattle.std.proofs.Common.{◌≡◌, ◌∙◌, ℕ, List, [], ◌∷◌, ◌++◌, Result, Ok, Err, OnOk, OnErr, refl, inl, inr, subst, Contains}
use Rattle.std.proofs.lemmas.List.Elements.{Contains-push_cases}
use Rattle.life_base.specs.Tree.{Tree}
use Rattle.life_quad.specs.declared.id.Id.{Id}
use Rattle.life_quad.specs.Keeping.{KeepsSquares, AddsOnly}

module _ {S : Type 0} {knows : S → Id → Type 0} {content : S → Id → Tree} {stored : S → List Tree} {most : S → ℕ} where
  -- a store that no call has changed
  pub keeps-same : (store : S) → KeepsSquares knows content stored most store store
  keeps-same store = record {
    contents = λ id k. (k, refl);
    stored = λ t h. h;
    limit = refl;
  }

  -- what two calls keep, one after the other
  pub keeps-then : {old mid new : S} → KeepsSquares knows content stored most old mid → KeepsSquares knows content stored most mid new
      → KeepsSquares knows content stored most old new
  keeps-then first second = record {
    contents = λ id k. let a = first.contents id k in let b = second.contents id a.0 in (b.0, b.1 ∙ a.1);
    stored = λ t h. second.stored t (first.stored t h);
    limit = second.limit ∙ first.limit;
  }

  -- a square that a call answered, after others
  pub still : {old new : S} {id : Id} {t : Tree} → KeepsSquares knows content stored most old new → knows old id → content old id ≡ t
      → knows new id × (content new id ≡ t)
  still keeps known square = let a = keeps.contents _ known in (a.0, a.1 ∙ square)

-- what calls add to a store
module _ {S : Type 0} {stored : S → List Tree} where
  pub adds-none : (Needs : (Tree → Type 0) → Type 0) (store : S) → AddsOnly stored Needs store store
  adds-none Needs store = record { each = λ t h. inl h }

  -- a call that stores one square, or none
  pub adds-one : {X E : Type 0} {old new : S} {t : Tree} (r : Result X E) → OnOk r (stored new ≡ stored old ++ t ∷ []) → OnErr r (new ≡ old)
      → AddsOnly stored (λ P. P t) old new
  adds-one {old = old} {t = t} (Ok x) e same = record { each = λ u h. Contains-push_cases (stored old) t u (subst (λ l. Contains l u) e h) }
  adds-one (Err x) e same = record { each = λ u h. inl (subst (λ s. Contains (stored s) u) same h) }

  -- two calls, one after the other
  pub adds-then : {A B : (Tree → Type 0) → Type 0} {old mid new : S} (C : (Tree → Type 0) → Type 0) → AddsOnly stored A old mid → AddsOnly stored B mid new
      → ((P : Tree → Type 0) → A P → C P) → ((P : Tree → Type 0) → B P → C P) → AddsOnly stored C old new
  adds-then C first second f g =
      record {
        each = λ t h. elim (second.each t h) [
          | inl k ↦ elim (first.each t k) [ inl l ↦ inl l | inr a ↦ inr (f (λ u. u ≡ t) a) ]
          | inr b ↦ inr (g (λ u. u ≡ t) b)
        ];
      }

  -- one call, in other words
  pub adds-as : {A : (Tree → Type 0) → Type 0} {old new : S} (C : (Tree → Type 0) → Type 0) → AddsOnly stored A old new
      → ((P : Tree → Type 0) → A P → C P) → AddsOnly stored C old new
  adds-as C first f = record { each = λ t h. elim (first.each t h) [ inl k ↦ inl k | inr a ↦ inr (f (λ u. u ≡ t) a) ] }
