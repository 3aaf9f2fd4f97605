-- Places of a memory, and the numbers of Ids.
use Rattle.std.proofs.Common.{◌≡◌, ◌⊎◌, inl, inr, ℕ, List, [], ◌∷◌, length, get_or, map, refl, sym, ◌∙◌, ap, arith}
use Rattle.life_quad.specs.declared.id.Id.{Id}
use Rattle.life_quad.specs.declared.memory.Slot.{Slot}
use Rattle.life_quad.specs.Memory.{number_of_id, SlotHolds, Recalls}

id_of : ℕ → Id
id_of n = record { 0 = n }

back-again : (ids : List Id) → map id_of (map number_of_id ids) ≡ ids
unfolding id_of
back-again [] = refl
back-again (id ∷ ids) = ap (λ rest. id ∷ rest) (back-again ids)

-- Ids of the same numbers are the same
pub same-ids : (a b : List Id) → map number_of_id a ≡ map number_of_id b → a ≡ b
same-ids a b e = sym (back-again a) ∙ ap (map id_of) e ∙ back-again b

-- the numbers of nine Ids, one by one
pub nine-numbers : (ids : List Id) (d : Id) → length ids ≡ 9
    → map number_of_id ids
    ≡ number_of_id (get_or ids 0 d) ∷ number_of_id (get_or ids 1 d) ∷ number_of_id (get_or ids 2 d) ∷ number_of_id (get_or ids 3 d)
    ∷ number_of_id (get_or ids 4 d)
    ∷ number_of_id (get_or ids 5 d) ∷ number_of_id (get_or ids 6 d) ∷ number_of_id (get_or ids 7 d) ∷ number_of_id (get_or ids 8 d) ∷ []
nine-numbers (a ∷ b ∷ c ∷ d ∷ e ∷ f ∷ g ∷ h ∷ i ∷ []) _ _ = refl
nine-numbers _ _ l = absurd (omega (arith, l))

-- one more answer
pub put-one : {old mid new : List Slot} {ids : List Id} {answer : Id} {slot : Slot}
    → slot ≡ record { around = map number_of_id ids; answer = number_of_id answer }
    → ((p : Slot) → SlotHolds mid p → SlotHolds old p) → ((p : Slot) → SlotHolds new p → SlotHolds mid p ⊎ (p ≡ slot))
    → (around : List Id) (next : Id) → Recalls new around next → Recalls old around next ⊎ ((around ≡ ids) × (next ≡ answer))
unfolding id_of
put-one {old = old} {mid = mid} {ids = ids} {answer = answer} {slot = slot} is kept set around next h = by (set _ h)
  where
    by : Recalls mid around next ⊎ (record { around = map number_of_id around; answer = number_of_id next } ≡ slot)
        → Recalls old around next ⊎ ((around ≡ ids) × (next ≡ answer))
    by (inl held) = inl (kept _ held)
    by (inr e) = inr (same-ids around ids (ap (λ (q : Slot). q.around) (e ∙ is)), ap (λ (q : Slot). id_of q.answer) (e ∙ is))
