-- The numbers of a list of Ids.
use Rattle.std.proofs.Common.{◌≡◌, ◌≢◌, ℕ, zero, suc, ◌+◌, ◌-◌, ◌<◌, List, [], ◌∷◌, ◌++◌, length, get_or, Some, slice_get, ◌⊎◌, inl, inr, refl, ap, sym, ◌∙◌, subst, arith, Contains, ◌≤◌, set, get_or-set_same, get_or-set_other, length-set, map, ◌^◌, length-append, AllPairs}
use Rattle.std.proofs.lemmas.List.{get_or_append_left, map-append}
use Rattle.std.proofs.Math.Seq.{get_or-append_seam}
use Rattle.std.proofs.lemmas.Bool.Decides.{nat_tests}
use Rattle.std.proofs.lemmas.Option.{slice_get-get_or, slice_get_within, get_or_from_slice_get, same_Some}
use Rattle.life_quad.specs.declared.id.Id.{Id}
use Rattle.indexmap.proofs.IndexTableLemmas.Probe.{pigeonhole}
use Rattle.life_quad.specs.IdNumbers.{HasPlaces, number_at, number_by}
use Rattle.life_quad.specs.Store.{id_of}
use Rattle.life_quad.proofs.MapLemmas.{same_number}
use Rattle.life_base.proofs.Basics.{le_or_lt, lt_or_eq}

-- an Id has one place
pub distinct : (ids : List Id) (place : Id → ℕ) → HasPlaces ids place → AllPairs ◌≢◌ ids
distinct ids place h = λ i j d l m e.
    let a = h.listed i (get_or ids i d) (slice_get-get_or ids i d (omega arith)) in
    let b = h.listed j (get_or ids j d) (slice_get-get_or ids j d m) in
    let c : suc i ≡ suc j = sym a ∙ ap place e ∙ b in
    omega arith

equal : (a b : Id) → (a ≡ b) ⊎ (a ≢ b)
equal a b = by (numbers a.0 b.0)
  where
    numbers : (m n : ℕ) → (m ≡ n) ⊎ (m ≢ n)
    numbers m n = grind arith

    by : (a.0 ≡ b.0) ⊎ (a.0 ≢ b.0) → (a ≡ b) ⊎ (a ≢ b)
    by (inl e) = inl (same_number a b e)
    by (inr o) = inr (λ e. o (ap (λ (q : Id). q.0) e))

slice_get-prefix : (ids : List Id) (id : Id) (i : ℕ) → i < length ids → slice_get (ids ++ id ∷ []) i ≡ slice_get ids i
slice_get-prefix ids id i h =
    slice_get-get_or (ids ++ id ∷ []) i id (omega (arith, length-append ids (id ∷ [])))
    ∙ ap Some (get_or_append_left ids (id ∷ []) id i h)
    ∙ sym (slice_get-get_or ids i id h)

slice_get-end : (ids : List Id) (id : Id) → slice_get (ids ++ id ∷ []) (length ids) ≡ Some id
slice_get-end ids id =
    slice_get-get_or (ids ++ id ∷ []) (length ids) id (omega (arith, length-append ids (id ∷ [])))
    ∙ ap Some (get_or-append_seam ids id [] id)

-- one more Id, with the next place
pub one_more : (ids : List Id) (old new : Id → ℕ) (id : Id) (place : ℕ) → HasPlaces ids old → new id ≡ place → ((q : Id) → q ≢ id → new q ≡ old q)
    → ¬ Contains ids id → place ≡ length ids + 1 → HasPlaces (ids ++ id ∷ []) new
one_more ids old new id place h set others absent is = record {
  listed = λ i q e.
      let l : i < length (ids ++ id ∷ []) = slice_get_within _ i q e in
      elim (lt_or_eq i (length ids) (omega (arith, length-append ids (id ∷ [])))) [
        | inl below ↦
            let f : slice_get ids i ≡ Some q = sym (slice_get-prefix ids id i below) ∙ e in
            let other : q ≢ id = λ g. absent (i, below, get_or_from_slice_get ids i q id f ∙ g) in
            others q other ∙ h.listed i q f
        | inr last ↦
            let f : Some q ≡ Some id = sym e ∙ ap (slice_get (ids ++ id ∷ [])) last ∙ slice_get-end ids id in
            let g : q ≡ id = same_Some q id f in
            let k : place ≡ suc i = omega arith in
            ap new g ∙ set ∙ k
      ];
  placed = λ q i e. elim (equal q id) [
    | inl here ↦
        let f : place ≡ suc i = sym set ∙ ap new (sym here) ∙ e in
        let k : i ≡ length ids = omega arith in
        ap (slice_get (ids ++ id ∷ [])) k ∙ slice_get-end ids id ∙ ap Some (sym here)
    | inr other ↦
        let f : slice_get ids i ≡ Some q = h.placed q i (sym (others q other) ∙ e) in
        slice_get-prefix ids id i (slice_get_within ids i q f) ∙ f
  ];
}

-- ---- numbers that stand in a list at those of the Ids, from one on

at_from : (first : ℕ) (numbers : List ℕ) (q : Id) → first ≤ q.0 → number_at first numbers q ≡ get_or numbers (q.0 - first) 0
at_from first numbers q le = grind (arith, nat_tests)

at_before : (first : ℕ) (numbers : List ℕ) (q : Id) → q.0 < first → number_at first numbers q ≡ 0
at_before first numbers q lt = grind (arith, nat_tests)

within : (numbers : List ℕ) (k n : ℕ) → get_or numbers k 0 ≡ suc n → k < length numbers
within [] k n e = absurd (omega (arith, e))
within (x ∷ numbers) zero n e = omega arith
within (x ∷ numbers) (suc k) n e = omega (arith, within numbers k n e)

-- an Id with a number has space for it
numbered : (first : ℕ) (numbers : List ℕ) (q : Id) (n : ℕ) → number_at first numbers q ≡ suc n → (first ≤ q.0) × (q.0 - first < length numbers)
numbered first numbers q n e = by (le_or_lt first q.0)
  where
    by : (first ≤ q.0) ⊎ (q.0 < first) → (first ≤ q.0) × (q.0 - first < length numbers)
    by (inl le) = (le, within numbers (q.0 - first) n (sym (at_from first numbers q le) ∙ e))
    by (inr lt) = let z : 0 ≡ suc n = sym (at_before first numbers q lt) ∙ e in absurd (omega (arith, z))

-- there are no more Ids than numbers that they may have
few : (first : ℕ) (ids : List Id) (numbers : List ℕ) → HasPlaces ids (number_at first numbers) → length ids ≤ length numbers
few first ids numbers h =
    let d : Id = record { 0 = 0 } in
    let at : (i : ℕ) → i < length ids → number_at first numbers (get_or ids i d) ≡ suc i = λ i l. h.listed i (get_or ids i d) (slice_get-get_or ids i d l) in
    pigeonhole (length ids) (length numbers) (λ i. (get_or ids i d).0 - first) (λ i l. (numbered first numbers (get_or ids i d) i (at i l)).1)
    (λ i j l m e.
    let k : first ≤ (get_or ids i d).0 = (numbered first numbers (get_or ids i d) i (at i l)).0 in
    let o : first ≤ (get_or ids j d).0 = (numbered first numbers (get_or ids j d) j (at j m)).0 in
    let same : (get_or ids i d).0 ≡ (get_or ids j d).0 = omega (arith, k, o, e) in
    let g : suc i ≡ suc j = sym (at i l) ∙ ap (number_at first numbers) (same_number (get_or ids i d) (get_or ids j d) same) ∙ at j m in omega arith)

-- one more Id, with the next number
one_numbered : (first : ℕ) (ids : List Id) (numbers : List ℕ) (id : Id) (number : ℕ) → HasPlaces ids (number_at first numbers) → ¬ Contains ids id
    → first ≤ id.0 → id.0 - first < length numbers → number ≡ length ids + 1
    → HasPlaces (ids ++ id ∷ []) (number_at first (set numbers (id.0 - first) number))
one_numbered first ids numbers id number h absent from space is =
    let new = set numbers (id.0 - first) number in
    one_more ids (number_at first numbers) (number_at first new) id number h
    (at_from first new id from ∙ get_or-set_same numbers (id.0 - first) number 0 space) (λ q o. others q o (le_or_lt first q.0)) absent is
  where
    others : (q : Id) → q ≢ id → (first ≤ q.0) ⊎ (q.0 < first) → number_at first (set numbers (id.0 - first) number) q ≡ number_at first numbers q
    others q o (inl le) =
        let apart : (q.0 - first) ≢ (id.0 - first) = λ e. o (same_number q id (omega (arith, le, from, e))) in
        at_from first (set numbers (id.0 - first) number) q le ∙ get_or-set_other numbers (id.0 - first) (q.0 - first) number 0 apart
        ∙ sym (at_from first numbers q le)
    others q o (inr lt) = at_before first (set numbers (id.0 - first) number) q lt ∙ sym (at_before first numbers q lt)

-- there is a number for it
number_left : (first : ℕ) (ids : List Id) (numbers : List ℕ) (id : Id) → HasPlaces ids (number_at first numbers) → ¬ Contains ids id → first ≤ id.0
    → id.0 - first < length numbers → length ids < length numbers
number_left first ids numbers id h absent from space =
    let p = few first (ids ++ id ∷ []) (set numbers (id.0 - first) (length ids + 1))
    (one_numbered first ids numbers id (length ids + 1) h absent from space refl) in
    omega (arith, p, length-append ids (id ∷ []), length-set numbers (id.0 - first) (length ids + 1))

-- places that are the same for each Id
pub same_places : (ids : List Id) (old new : Id → ℕ) → ((q : Id) → new q ≡ old q) → HasPlaces ids old → HasPlaces ids new
same_places ids old new same h = record {
  listed = λ i id e. same id ∙ h.listed i id e;
  placed = λ id i e. h.placed id i (sym (same id) ∙ e);
}

-- pages have the numbers where the list has none
pub in_pages : (first : ℕ) (numbers : List ℕ) (paged : Id → ℕ) → length numbers ≡ 0 → (q : Id) → number_by first numbers paged q ≡ paged q
in_pages first [] paged none q = refl
in_pages first (n ∷ numbers) paged none q = absurd (omega arith)

-- and else the list
pub in_list : (first : ℕ) (numbers : List ℕ) (paged : Id → ℕ) → 0 < length numbers → (q : Id) → number_by first numbers paged q ≡ number_at first numbers q
in_list first [] paged some q = absurd (omega arith)
in_list first (n ∷ numbers) paged some q = refl

-- there is space for an Id whose number has a place in the list
space_there : (first index size : ℕ) (q : Id) → (first ≤ q.0 → index ≡ q.0 - first) → (q.0 < first → 2 ^ 32 ≤ index) → size < 2 ^ 32 → index < size
    → (first ≤ q.0) × (index ≡ q.0 - first)
space_there first index size q from before short lt = by (le_or_lt first q.0)
  where
    by : (first ≤ q.0) ⊎ (q.0 < first) → (first ≤ q.0) × (index ≡ q.0 - first)
    by (inl le) = (le, from le)
    by (inr b) = let far = before b in absurd (omega (arith, far, short, lt))

-- one more Id, with the next number, in pages
pub one_paged : (first : ℕ) (ids : List Id) (numbers : List ℕ) (old new : Id → ℕ) (id : Id) (number : ℕ) → length numbers ≡ 0
    → HasPlaces ids (number_by first numbers old)
    → new id ≡ number → ((q : Id) → q ≢ id → new q ≡ old q) → ¬ Contains ids id → number ≡ length ids + 1
    → HasPlaces (ids ++ id ∷ []) (number_by first numbers new)
one_paged first ids numbers old new id number none h set others absent is =
    same_places (ids ++ id ∷ []) new (number_by first numbers new) (in_pages first numbers new none)
    (one_more ids old new id number (same_places ids (number_by first numbers old) old (λ q. sym (in_pages first numbers old none q)) h) set others absent is)

listed_places : (first : ℕ) (ids : List Id) (numbers : List ℕ) (paged : Id → ℕ) → 0 < length numbers → HasPlaces ids (number_by first numbers paged)
    → HasPlaces ids (number_at first numbers)
listed_places first ids numbers paged some h =
    same_places ids (number_by first numbers paged) (number_at first numbers) (λ q. sym (in_list first numbers paged some q)) h

-- there is a number for an Id at its place
pub number_left_by : (first : ℕ) (ids : List Id) (numbers : List ℕ) (paged : Id → ℕ) (id : Id) (index : ℕ) → HasPlaces ids (number_by first numbers paged)
    → ¬ Contains ids id → (first ≤ id.0 → index ≡ id.0 - first) → (id.0 < first → 2 ^ 32 ≤ index) → length numbers < 2 ^ 32
    → index < length numbers → length ids < length numbers
number_left_by first ids numbers paged id index h absent from before short space =
    let at = space_there first index (length numbers) id from before short space in
    number_left first ids numbers id (listed_places first ids numbers paged (omega (arith, space)) h) absent at.0 (omega (arith, at.1, space))

-- the same in the list, at the place that is the Id's
pub one_listed : (first : ℕ) (ids : List Id) (numbers : List ℕ) (paged : Id → ℕ) (id : Id) (index number : ℕ) → HasPlaces ids (number_by first numbers paged)
    → ¬ Contains ids id → (first ≤ id.0 → index ≡ id.0 - first) → (id.0 < first → 2 ^ 32 ≤ index) → length numbers < 2 ^ 32
    → index < length numbers → number ≡ length ids + 1
    → HasPlaces (ids ++ id ∷ []) (number_by first (set numbers index number) paged)
one_listed first ids numbers paged id index number h absent from before short space is =
    let at = space_there first index (length numbers) id from before short space in
    let below : id.0 - first < length numbers = omega (arith, at.1, space) in
    let new = set numbers (id.0 - first) number in
    let placed = same_places (ids ++ id ∷ []) (number_at first new) (number_by first new paged)
    (in_list first new paged (omega (arith, below, length-set numbers (id.0 - first) number)))
    (one_numbered first ids numbers id number (listed_places first ids numbers paged (omega (arith, below)) h) absent at.0 below is) in
    subst (λ i. HasPlaces (ids ++ id ∷ []) (number_by first (set numbers i number) paged)) (sym at.1) placed

-- the numbers of a list's Ids, and one more
pub ids_more : (log more : List ℕ) (id : Id) → more ≡ log ++ id.0 ∷ [] → map id_of more ≡ map id_of log ++ id ∷ []
ids_more log more id e = ap (map id_of) e ∙ map-append id_of log (id.0 ∷ [])
