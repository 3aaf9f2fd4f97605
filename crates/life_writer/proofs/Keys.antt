-- What the walk over a store's squares needs.
use Rattle.std.proofs.Common.{◌≡◌, ℕ, ◌+◌, ◌<◌, ◌≤◌, Bool, true, false, ◌||◌, List, [], ◌∷◌, length, map, refl, ap, sym, ◌∙◌, subst, arith, ◌⊎◌, inl, inr, add-one, nat_eq, All, AllPairs, Contains, Decides, ◌≢◌, OnOk, Result, Ok, Err, Some, slice_get, lt-ltb}
use Rattle.std.specs.Prelude.{slice_index_or as get_or}
use Rattle.std.specs.Cmp.{IsEquivalence}
use Rattle.std.proofs.lemmas.List.{get_or-map, length-map}
use Rattle.std.proofs.lemmas.Map.Views.{list_any-from_Contains, Contains-from_any}
use Rattle.std.proofs.lemmas.Option.{slice_get_within, get_or_from_slice_get}
use Rattle.life_quad.specs.declared.id.Id.{Id}
use Rattle.std.proofs.lemmas.List.Elements.{All-head, All-tail}
use Rattle.std.proofs.lemmas.Bool.Decides.{same_from_decides, Decides-eqb}
use Rattle.std.specs.List.{list_any}
use Rattle.life_base.specs.Tree.{Tree, point, quad, depth, IsFull, is_blank_tree as is_blank}
use Rattle.life_writer.specs.Listing.{same_tree, place, number_of_quarter, is_small, walk, is_in, with_new, with_all}
use Rattle.life_writer.specs.Closed.{IsClosed}
use Rattle.life_writer.proofs.SameTrees.{Decides-same_tree}
use Rattle.life_writer.proofs.ListFacts.{place-below, place-is}
use Rattle.life_writer.proofs.Content.{number-place}
use Rattle.life_writer.proofs.Walk.{walk-small, walk-skip, with_walk, walked}

-- nothing is left to add
pub skip : (all : List Tree) (t : Tree) (m : ℕ) → 1 ≤ m → IsClosed m all → (is_small m t ≡ true) ⊎ (is_in all t ≡ true) → all ≡ with_all all (walk t m)
skip all t m le h (inl e) = sym (ap (with_all all) (walk-small t m e))
skip all t m le h (inr e) = sym (walk-skip t m all le h (λ _. e))

-- what was walked leaves the list closed
pub still-closed : (t : Tree) (m : ℕ) (all more : List Tree) → 1 ≤ m → IsClosed m all → more ≡ with_all all (walk t m) → IsClosed m more
still-closed t m all more le h e = subst (IsClosed m) (sym e) (walked t m all le h).closed

-- the walks of the quarters, and then the square
pub step : (t a b c d : Tree) (m : ℕ) (all all1 all2 all3 all4 all5 : List Tree) → is_small m t ≡ false → t ≡ quad a b c d
    → all1 ≡ with_all all (walk a m) → all2 ≡ with_all all1 (walk b m) → all3 ≡ with_all all2 (walk c m) → all4 ≡ with_all all3 (walk d m)
    → all5 ≡ with_new all4 t
    → all5 ≡ with_all all (walk t m)
step t a b c d m all all1 all2 all3 all4 all5 s e p1 p2 p3 p4 p5 =
    let q : all4 ≡ with_all (with_all (with_all (with_all all (walk a m)) (walk b m)) (walk c m)) (walk d m) = cc in
    let s' : is_small m (quad a b c d) ≡ false = subst (λ v. is_small m v ≡ false) e s in
    p5 ∙ ap (λ v. with_new v t) q ∙ ap (with_new _) e ∙ sym (with_walk all a b c d m s') ∙ ap (λ v. with_all all (walk v m)) (sym e)

order : (m n : ℕ) → (m < n) ⊎ (n < m) ⊎ (m ≡ n)
order m n = grind arith

small-below : (m : ℕ) (t : Tree) → depth t < m → is_small m t ≡ true
small-below m t h = let e = lt-ltb (depth t) m h in grind arith

-- the quarters of a square of the least level are small, so that it is added alone
pub least-step : (t : Tree) (m : ℕ) (all more : List Tree) → 1 ≤ m → is_small m t ≡ false → IsFull t → depth t ≡ m → more ≡ with_new all t
    → more ≡ with_all all (walk t m)
least-step (point s) m all more le small full d e = absurd (omega arith)
least-step (quad a b c d) m all more le small full deep e =
    let none : (q : Tree) → depth q < m → all ≡ with_all all (walk q m) = λ q l. sym (ap (with_all all) (walk-small q m (small-below m q l))) in
    let na : depth a < m = omega arith in
    let nb : depth b < m = omega (arith, full.4) in
    let nc : depth c < m = omega (arith, full.5) in
    let nd : depth d < m = omega (arith, full.6) in
    step (quad a b c d) a b c d m all all all all all more small refl (none a na) (none b nb) (none c nc) (none d nd) e

-- two Ids are equal exactly if their numbers are
abbrev eq : Id → Id → Bool
eq a b = nat_eq a.0 b.0

decides : (a b : Id) → Decides (eq a b) (a ≡ b)
decides a b = (
  (λ h. let e : a.0 ≡ b.0 = (Decides-eqb a.0 b.0).0 h in let mk : ℕ → Id = λ n. record { 0 = n } in ap mk e),
  (λ e. (Decides-eqb a.0 b.0).1 (ap (λ (v : Id). v.0) e)),
)

same_eq : (a b : Id) → eq a b ≡ true → a ≡ b
same_eq a b h = (decides a b).0 h

is_equivalence : IsEquivalence eq
is_equivalence = record {
  refl = λ x. (decides x x).1 refl;
  symm = λ x y. same_from_decides (eq x y) (eq y x) (decides x y) (λ h. sym ((decides y x).0 h), λ e. (decides y x).1 (sym e));
  congr = λ x y z h. ap (λ v. eq v z) ((decides x y).0 h);
}

module _ (content : Id → Tree) (id : Id) where
  -- equal contents are equal keys
  pub is_in-keys : (keys : List Id) → All (λ a. content a ≡ content id → a ≡ id) keys → list_any (eq id) keys ≡ is_in (map content keys) (content id)
  is_in-keys [] inj = refl
  is_in-keys (a ∷ keys) inj =
      let one : eq id a ≡ same_tree (content a) (content id) =
      same_from_decides (eq id a) (same_tree (content a) (content id)) (decides id a) (
        (λ h. sym (All-head (λ a. content a ≡ content id → a ≡ id) a keys inj ((Decides-same_tree _ _).0 h))),
        (λ e. (Decides-same_tree _ _).1 (ap content (sym e))),
      ) in
      let rest = is_in-keys keys (All-tail (λ a. content a ≡ content id → a ≡ id) a keys inj) in
      ap (λ v. v || list_any (eq id) keys) one ∙ ap (λ v. same_tree (content a) (content id) || v) rest

  -- the list has a tree exactly if it has its key
  pub in-keys : (keys : List Id) → All (λ a. content a ≡ content id → a ≡ id) keys → Decides (is_in (map content keys) (content id)) (Contains keys id)
  in-keys keys inj =
      let e = is_in-keys keys inj in
      ((λ h. Contains-from_any same_eq id keys (e ∙ h)), (λ c. sym e ∙ list_any-from_Contains is_equivalence id keys c))

  -- the place of a key in a list that has it once is that of its tree
  pub place-keys : (keys : List Id) (i : ℕ) → All (λ a. content a ≡ content id → a ≡ id) keys → AllPairs ◌≢◌ keys → slice_get keys i ≡ Some id
      → place (map content keys) (content id) ≡ i
  place-keys keys i inj once at =
      let l : i < length keys = slice_get_within keys i id at in
      let here : get_or keys i id ≡ id = get_or_from_slice_get keys i id id at in
      let p = place (map content keys) (content id) in
      let isin : is_in (map content keys) (content id) ≡ true = (in-keys keys inj).1 (i, l, here) in
      let k : p < length keys = subst (λ n. p < n) (length-map keys content) (place-below (map content keys) (content id) isin) in
      let first : get_or keys p id ≡ id = inj p id k
      (sym (get_or-map content keys p id (content id) k) ∙ place-is (map content keys) (content id) (content id) isin) in
      elim (order p i) [
        | inl b ↦ absurd (once p i id b l (first ∙ sym here))
        | inr r ↦ elim r [ inl a ↦ absurd (once i p id a k (here ∙ sym first)) | inr e ↦ e ]
      ]

-- the number of a nonblank square of depth 1 or more
pub number-place_of : (all : List Tree) (t : Tree) → 1 ≤ depth t → is_blank t ≡ false → number_of_quarter all t ≡ place all t + 1
number-place_of all (point s) l b = absurd (omega arith)
number-place_of all (quad e f g h) l b = number-place all e f g h b ∙ sym (add-one _)

-- what follows from a clause on success
pub on_ok : {T E : Type 0} (r : Result T E) (P Q : Type 0) → (P → Q) → OnOk r P → OnOk r Q
on_ok (Ok x) P Q f h = f h
on_ok (Err e) P Q f h = h
