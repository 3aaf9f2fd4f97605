-- Entries of a table that finds squares by others.
use Rattle.std.proofs.Common.{◌≡◌, ◌⊎◌, inl, inr, ℕ, zero, suc, ◌<◌, Bool, true, false, List, [], ◌∷◌, Contains, Option, Some, Result, Ok, Err, OnOk, OnErr, refl, sym, ◌∙◌, ap, subst, arith, if◌then◌else◌, cond}
use Rattle.indexmap.specs.IndexMap.{insert_entry}
use Rattle.std.specs.Map.{lookup}
use Rattle.std.proofs.lemmas.Option.{same_Some}
use Rattle.life_quad.specs.declared.id.Id.{Id}
use Rattle.life_slide.specs.contracts.table.KeyPartialEq.TheImpl.{eq-value}
use Rattle.life_slide.specs.declared.table.Key.{Key}

-- two keys are equal as values where their test says so
pub same_key : (a b : Key) → eq-value.it a b ≡ true → a ≡ b
same_key a b h =
    let columns : a.columns ≡ b.columns = grind arith in
    let rows : a.rows ≡ b.rows = grind arith in
    let nw : a.nw ≡ b.nw = grind arith in
    let ne : a.ne ≡ b.ne = grind arith in
    let sw : a.sw ≡ b.sw = grind arith in
    let se : a.se ≡ b.se = grind arith in
    λ x. record { columns = columns x; rows = rows x; nw = nw x; ne = ne x; sw = sw x; se = se x }

-- an entry among those after another one
later : (es : List (Key × Id)) (e p : Key × Id) → Contains es p → Contains (e ∷ es) p
later es e p (k, l, is) = (suc k, omega (arith, l), is)

-- what a look-up finds
pub looked-up : (key : Key) (answer : Id) (es : List (Key × Id)) → lookup (eq-value.it key) es ≡ Some answer → Contains es (key, answer)
looked-up key answer [] h = absurd (grind (arith, h))
looked-up key answer (e ∷ es) h = by (eq-value.it key e.0) refl (looked-up key answer es)
  where
    by : (b : Bool) → eq-value.it key e.0 ≡ b → (lookup (eq-value.it key) es ≡ Some answer → Contains es (key, answer)) → Contains (e ∷ es) (key, answer)
    by true t rest =
        let s : Some e.1 ≡ Some answer = sym (ap (λ b. cond b (Some e.1) (lookup (eq-value.it key) es)) t) ∙ h in
        let k = same_key key e.0 t in
        (0, omega arith, λ x. (sym k x, same_Some e.1 answer s x))
    by false t rest = later es e (key, answer) (rest (sym (ap (λ b. cond b (Some e.1) (lookup (eq-value.it key) es)) t) ∙ h))

-- one more entry
pub inserted : (es : List (Key × Id)) (key other : Key) (answer next : Id) → Contains (insert_entry eq-value.it es key answer) (other, next)
    → Contains es (other, next) ⊎ ((other ≡ key) × (next ≡ answer))
inserted [] key other answer next (zero, l, e) = inr (ap (λ p. p.0) (sym e), ap (λ p. p.1) (sym e))
inserted [] key other answer next (suc k, l, e) = absurd (omega (arith, l))
inserted (f ∷ es) key other answer next h = by (eq-value.it key f.0) refl (inserted es key other answer next)
  where
    replaced : eq-value.it key f.0 ≡ true → Contains ((f.0, answer) ∷ es) (other, next) → Contains (f ∷ es) (other, next) ⊎ ((other ≡ key) × (next ≡ answer))
    replaced t (zero, l, e) = inr (sym (same_key key f.0 t ∙ ap (λ p. p.0) e), ap (λ p. p.1) (sym e))
    replaced t (suc k, l, e) = inl (suc k, l, e)

    rest : Contains es (other, next) ⊎ ((other ≡ key) × (next ≡ answer)) → Contains (f ∷ es) (other, next) ⊎ ((other ≡ key) × (next ≡ answer))
    rest (inl c) = inl (later es f (other, next) c)
    rest (inr e) = inr e

    behind : (Contains (insert_entry eq-value.it es key answer) (other, next) → Contains es (other, next) ⊎ ((other ≡ key) × (next ≡ answer)))
        → Contains (f ∷ insert_entry eq-value.it es key answer) (other, next)
        → Contains (f ∷ es) (other, next) ⊎ ((other ≡ key) × (next ≡ answer))
    behind step (zero, l, e) = inl (0, omega arith, e)
    behind step (suc k, l, e) = rest (step (k, omega (arith, l), e))

    by : (b : Bool) → eq-value.it key f.0 ≡ b
        → (Contains (insert_entry eq-value.it es key answer) (other, next) → Contains es (other, next) ⊎ ((other ≡ key) × (next ≡ answer)))
        → Contains (f ∷ es) (other, next) ⊎ ((other ≡ key) × (next ≡ answer))
    by true t step =
        replaced t (subst (λ (xs : List (Key × Id)). Contains xs (other, next))
        (ap (λ (b : Bool). if b then (f.0, answer) ∷ es else f ∷ insert_entry eq-value.it es key answer) t) h)
    by false t step =
        behind step (subst (λ (xs : List (Key × Id)). Contains xs (other, next))
        (ap (λ (b : Bool). if b then (f.0, answer) ∷ es else f ∷ insert_entry eq-value.it es key answer) t) h)

-- the entries after a call that may be refused
pub put-one : {E : Type 0} (es fs : List (Key × Id)) (key : Key) (answer : Id) (r : Result (Option Id) E)
    → OnOk r (fs ≡ insert_entry eq-value.it es key answer) → OnErr r (fs ≡ es) → (other : Key) (next : Id) → Contains fs (other, next)
    → Contains es (other, next) ⊎ ((other ≡ key) × (next ≡ answer))
put-one es fs key answer (Ok o) ok err other next h =
    inserted es key other answer next (subst (λ (xs : List (Key × Id)). Contains xs (other, next)) ok h)
put-one es fs key answer (Err e) ok err other next h = inl (subst (λ (xs : List (Key × Id)). Contains xs (other, next)) err h)
