-- Values in pages.
use Rattle.std.proofs.Common.{◌≡◌, ◌≢◌, ◌⊎◌, inl, inr, ℕ, ◌+◌, ◌/◌, ◌%◌, ◌<◌, ◌≤◌, Bool, true, false, ◌==◌, if◌then◌else◌, nat_lt, List, ◌++◌, length, get_or, replicate, refl, sym, ◌∙◌, ap, arith}
use Rattle.std.proofs.lemmas.Grind.{common_steps}
use Rattle.std.proofs.lemmas.List.{get_or_past}
use Rattle.std.proofs.lemmas.Bool.{cases_eq, cases_lt}
use Rattle.life_quad.specs.Pages.{ArePages, place_of, start_in, index_in}

-- no two pages have one place
one_place : (m n : ℕ) → place_of m ≡ place_of n → m / 256 ≡ n / 256
unfolding place_of
one_place m n e = by (m / 256) (n / 256) (m / 256 == 258) (n / 256 == 258) (nat_lt (m / 256) 258) (nat_lt (n / 256) 258) refl refl refl refl e
  where
    by : (p q : ℕ) (a b c d : Bool) → (p == 258) ≡ a → (q == 258) ≡ b → nat_lt p 258 ≡ c → nat_lt q 258 ≡ d
        → (if a then 0 else (if c then p + 1 else p)) ≡ (if b then 0 else (if d then q + 1 else q)) → p ≡ q
    by p q true true _ _ f g _ _ _ = grind (arith, common_steps)
    by p q true false _ true f g h k e = grind (arith, common_steps)
    by p q true false _ false f g h k e = grind (arith, common_steps)
    by p q false true true _ f g h k e = grind (arith, common_steps)
    by p q false true false _ f g h k e = grind (arith, common_steps)
    by p q false false true true f g h k e = grind (arith, common_steps)
    by p q false false true false f g h k e = grind (arith, common_steps)
    by p q false false false true f g h k e = grind (arith, common_steps)
    by p q false false false false f g h k e = e

-- absent values after the others change none
pub filled : {X : Type 0} (values : List X) (n i : ℕ) (absent : X) → get_or (values ++ replicate n absent) i absent ≡ get_or values i absent
filled {X} values n i absent = by (nat_lt i (length values)) refl
  where
    by : (b : Bool) → nat_lt i (length values) ≡ b → get_or (values ++ replicate n absent) i absent ≡ get_or values i absent
    by true e = grind (arith, common_steps)
    by false e = grind (arith, common_steps)

-- an index of a value is below the number of values
inside : (starts : List ℕ) (size n : ℕ) → ArePages starts size → index_in starts n < 4294967295 → index_in starts n < size
inside starts size n h l = let whole = h.whole (place_of n) (omega (arith, l)) in omega (arith, whole)

-- where the page of a number wasn't made, no number of the page has a value
behind : (starts : List ℕ) (size m n : ℕ) → ArePages starts size → place_of n ≡ place_of m → size ≤ index_in starts m → size ≤ index_in starts n
behind starts size m n h place none = by (cases_lt (index_in starts n) size)
  where
    by : (index_in starts n < size) ⊎ (size ≤ index_in starts n) → size ≤ index_in starts n
    by (inl l) =
        let same : start_in starts (place_of n) ≡ start_in starts (place_of m) = ap (start_in starts) place in
        let few = h.few in
        let whole = h.whole (place_of n) (omega (arith, l, few)) in
        absurd (omega (arith, same, whole, none))
    by (inr l) = l

-- one page more
pub one_page : (starts new : List ℕ) (size more place : ℕ) → ArePages starts size → more ≡ size + 256 → more ≤ 4294967295 → start_in new place ≡ size
    → ((p : ℕ) → p ≢ place → start_in new p ≡ start_in starts p) → ArePages new more
one_page starts new size more place h sum space here others = record
    { few = space; whole = λ p l. whole p l (cases_eq p place); apart = λ m n e l. apart m n e l (cases_eq (place_of m) place) (cases_eq (place_of n) place) }
  where
    whole : (p : ℕ) → start_in new p < 4294967295 → (p ≡ place) ⊎ (p ≢ place) → start_in new p + 256 ≤ more
    whole p l (inl same) = let start : start_in new p ≡ size = ap (start_in new) same ∙ here in omega (arith, start, sum)
    whole p l (inr other) = let start = others p other in let old = h.whole p (omega (arith, start, l)) in omega (arith, start, old, sum)

    apart : (m n : ℕ) → index_in new m ≡ index_in new n → index_in new n < more → (place_of m ≡ place) ⊎ (place_of m ≢ place) → (place_of n ≡ place)
        ⊎ (place_of n ≢ place) → m ≡ n
    apart m n e l (inl a) (inl b) =
        let f : start_in new (place_of m) ≡ size = ap (start_in new) a ∙ here in
        let g : start_in new (place_of n) ≡ size = ap (start_in new) b ∙ here in
        let pages = one_place m n (a ∙ sym b) in
        omega (arith, pages, e, f, g)
    apart m n e l (inl a) (inr b) =
        let f : start_in new (place_of m) ≡ size = ap (start_in new) a ∙ here in
        let g = others (place_of n) b in
        let old = inside starts size n h (omega (arith, g, l, sum, space)) in
        omega (arith, e, f, g, old)
    apart m n e l (inr a) (inl b) =
        let f = others (place_of m) a in
        let g : start_in new (place_of n) ≡ size = ap (start_in new) b ∙ here in
        let old = inside starts size m h (omega (arith, e, f, l, sum, space)) in
        omega (arith, e, f, g, old)
    apart m n e l (inr a) (inr b) =
        let f = others (place_of m) a in
        let g = others (place_of n) b in
        h.apart m n (omega (arith, e, f, g)) (inside starts size n h (omega (arith, g, l, sum, space)))

-- and no value is another by it
pub same_values : {X : Type 0} (starts new : List ℕ) (values : List X) (absent : X) (place m n : ℕ) → ArePages starts (length values) → place_of m ≡ place
    → length values ≤ index_in starts m
    → start_in new place ≡ length values → ((p : ℕ) → p ≢ place → start_in new p ≡ start_in starts p)
    → get_or (values ++ replicate 256 absent) (index_in new n) absent ≡ get_or values (index_in starts n) absent
same_values {X} starts new values absent place m n h number none here others = filled values 256 (index_in new n) absent ∙ by (cases_eq (place_of n) place)
  where
    by : (place_of n ≡ place) ⊎ (place_of n ≢ place) → get_or values (index_in new n) absent ≡ get_or values (index_in starts n) absent
    by (inl e) =
        let f : start_in new (place_of n) ≡ length values = ap (start_in new) e ∙ here in
        get_or_past values (index_in new n) absent (omega (arith, f))
        ∙ sym (get_or_past values (index_in starts n) absent (behind starts (length values) m n h (e ∙ sym number) none))
    by (inr o) = ap (λ s. get_or values (s + n % 256) absent) (others (place_of n) o)
