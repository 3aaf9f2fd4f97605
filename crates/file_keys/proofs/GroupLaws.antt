-- Files are in one group exactly if they have one key.
use Rattle.std.proofs.Common.{◌≡◌, ◌⊎◌, ◌<◌, ℕ, zero, suc, List, [], ◌∷◌, map, filter, Bool, true, false, cond, ◌||◌, inl, inr, refl, sym, ap, ◌∙◌, subst, length, get_or, lt-ltb, ◌++◌, arith, Contains, Some, slice_get, ltb-true}
use Rattle.std.specs.List.{list_any}
use Rattle.std.specs.Str.{bytes_eq}
use Rattle.std.proofs.lemmas.Option.{slice_get_within, get_or_from_slice_get}
use Rattle.file_keys.specs.Groups.{AreInOneGroup, distinct_keys, files_with, groups_of, GroupsAreByKey, has_key, has_several, HaveOneKey, is_key, key_list, keys_in}
use Rattle.file_keys.specs.KeyRuns.{Processed}
use Rattle.file_keys.specs.declared.keys.outcome.Outcome.{Outcome}
use Rattle.file_keys.specs.declared.keys.outcome.Outcome.TheVariants.{Key, Refused, Unopened}
use Rattle.file_keys.proofs.GroupLemmas.{among_distinct, AreApart, distinct_apart, itself}
use Rattle.life_base.proofs.Texts.{same_bytes}

-- ---- members of lists

-- a list has an item
abbrev In : {X : Type 0} → List X → X → Type 0
In [] x = ⊥
In (y ∷ ys) x = (y ≡ x) ⊎ In ys x

in_from : {X : Type 0} (xs : List X) (x : X) → Contains xs x → In xs x
in_from [] x c = absurd (omega (arith, c.1))
in_from (y ∷ ys) x (zero, lt, is) = inl is
in_from (y ∷ ys) x (suc k, lt, is) = inr (in_from ys x (k, omega (arith, lt), is))

in_to : {X : Type 0} (xs : List X) (x : X) → In xs x → Contains xs x
in_to [] x c = absurd c
in_to (y ∷ ys) x (inl is) = (0, omega arith, is)
in_to (y ∷ ys) x (inr c) = let r = in_to ys x c in (suc r.0, omega (arith, r.1), r.2)

in_at : {X : Type 0} (xs : List X) (i : ℕ) (d : X) → i < length xs → In xs (get_or xs i d)
in_at [] i d lt = absurd (omega (arith, lt))
in_at (x ∷ xs) zero d lt = inl refl
in_at (x ∷ xs) (suc i) d lt = inr (in_at xs i d (omega (arith, lt)))

-- what a filter keeps is of the list, and passes
in_filter : {X : Type 0} (test : X → Bool) (xs : List X) (x : X) → In (filter test xs) x → In xs x × (test x ≡ true)
in_filter test [] x c = absurd c
in_filter test (y ∷ ys) x c = by (test y) refl c (in_filter test ys x)
  where
    by : (b : Bool) → test y ≡ b → In (cond b (y ∷ filter test ys) (filter test ys)) x → (In (filter test ys) x → In ys x × (test x ≡ true))
        → In (y ∷ ys) x × (test x ≡ true)
    by true passes (inl is) rest = (inl is, subst (λ z. test z ≡ true) is passes)
    by true passes (inr c) rest = let r = rest c in (inr r.0, r.1)
    by false fails c rest = let r = rest c in (inr r.0, r.1)

filter_in : {X : Type 0} (test : X → Bool) (xs : List X) (x : X) → In xs x → test x ≡ true → In (filter test xs) x
filter_in test [] x c passes = absurd c
filter_in test (y ∷ ys) x c passes = by (test y) refl c (λ d. filter_in test ys x d passes)
  where
    by : (b : Bool) → test y ≡ b → In (y ∷ ys) x → (In ys x → In (filter test ys) x) → In (cond b (y ∷ filter test ys) (filter test ys)) x
    by true is (inl same) rest = inl same
    by true is (inr c) rest = inr (rest c)
    by false is (inl same) rest = let bad : true ≡ false = sym passes ∙ ap test (sym same) ∙ is in absurd cc
    by false is (inr c) rest = rest c

in_map : {X Y : Type 0} (f : X → Y) (xs : List X) (y : Y) → In (map f xs) y → (x : X) × In xs x × (f x ≡ y)
in_map f [] y c = absurd c
in_map f (x ∷ xs) y (inl is) = (x, inl refl, is)
in_map f (x ∷ xs) y (inr c) = let r = in_map f xs y c in (r.0, inr r.1, r.2)

map_in : {X Y : Type 0} (f : X → Y) (xs : List X) (x : X) → In xs x → In (map f xs) (f x)
map_in f [] x c = absurd c
map_in f (y ∷ ys) x (inl is) = inl (ap f is)
map_in f (y ∷ ys) x (inr c) = inr (map_in f ys x c)

-- a filter keeps an item that passes, and of two both
one_passes : {X : Type 0} (test : X → Bool) (xs : List X) (i : ℕ) (d : X) → i < length xs → test (get_or xs i d) ≡ true → 0 < length (filter test xs)
one_passes test [] i d lt passes = absurd (omega (arith, lt))
one_passes test (x ∷ xs) zero d lt passes =
    subst (λ b. 0 < length (cond b (x ∷ filter test xs) (filter test xs))) (sym passes) (omega arith)
one_passes test (x ∷ xs) (suc i) d lt passes = by (test x) (one_passes test xs i d (omega (arith, lt)) passes)
  where
    by : (b : Bool) → 0 < length (filter test xs) → 0 < length (cond b (x ∷ filter test xs) (filter test xs))
    by true some = omega arith
    by false some = some

two_pass : {X : Type 0} (test : X → Bool) (xs : List X) (i j : ℕ) (d e : X) → i < j → j < length xs → test (get_or xs i d) ≡ true
    → test (get_or xs j e) ≡ true → 1 < length (filter test xs)
two_pass test [] i j d e before lt first second = absurd (omega (arith, lt))
two_pass test (x ∷ xs) i zero d e before lt first second = absurd (omega (arith, before))
two_pass test (x ∷ xs) zero (suc j) d e before lt first second =
    let some = one_passes test xs j e (omega (arith, lt)) second in
    subst (λ b. 1 < length (cond b (x ∷ filter test xs) (filter test xs))) (sym first) (omega (arith, some))
two_pass test (x ∷ xs) (suc i) (suc j) d e before lt first second =
    by (test x) (two_pass test xs i j d e (omega (arith, before)) (omega (arith, lt)) first second)
  where
    by : (b : Bool) → 1 < length (filter test xs) → 1 < length (cond b (x ∷ filter test xs) (filter test xs))
    by true some = omega (arith, some)
    by false some = some

-- ---- keys

any_in : (key : List ℕ) (keys : List (List ℕ)) → list_any (bytes_eq key) keys ≡ true → In keys key
any_in key [] is = absurd (let z : ⊥ = cc in z)
any_in key (own ∷ keys) is = by (bytes_eq key own) refl is (any_in key keys)
  where
    by : (b : Bool) → bytes_eq key own ≡ b → (b || list_any (bytes_eq key) keys) ≡ true → (list_any (bytes_eq key) keys ≡ true → In keys key)
        → In (own ∷ keys) key
    by true same is rest = inl (sym (same_bytes key own same))
    by false other is rest = inr (rest is)

in_any : (key own : List ℕ) (keys : List (List ℕ)) → In keys own → bytes_eq key own ≡ true → list_any (bytes_eq key) keys ≡ true
in_any key own [] c same = absurd c
in_any key own (next ∷ keys) (inl is) same =
    ap (λ b. b || list_any (bytes_eq key) keys) (subst (λ (k : List ℕ). bytes_eq key k ≡ true) (sym is) same)
in_any key own (next ∷ keys) (inr c) same = by (bytes_eq key next) (in_any key own keys c same)
  where
    by : (b : Bool) → list_any (bytes_eq key) keys ≡ true → (b || list_any (bytes_eq key) keys) ≡ true
    by true rest = refl
    by false rest = rest

-- what a file came to where it has a key
key_of : (key : List ℕ) (outcome : Outcome) → is_key key outcome ≡ true → outcome ≡ Key key
key_of key (Key own) is = ap Key (sym (same_bytes key own is))
key_of key (Refused fault) is = absurd (let z : ⊥ = cc in z)
key_of key (Unopened kind) is = absurd (let z : ⊥ = cc in z)

of_key : (key : List ℕ) (outcome : Outcome) → outcome ≡ Key key → is_key key outcome ≡ true
of_key key outcome is = subst (λ (o : Outcome). is_key key o ≡ true) (sym is) (itself key)

-- the key of a file is one of the keys
key_among : (key : List ℕ) (processed : List Processed) (t : Processed) → In processed t → t.outcome ≡ Key key
    → list_any (bytes_eq key) (keys_in processed) ≡ true
key_among key [] t c is = absurd c
key_among key (s ∷ processed) t (inl same) is =
    subst (λ (o : Outcome). list_any (bytes_eq key) (key_list o ++ keys_in processed) ≡ true) (sym (ap (λ (u : Processed). u.outcome) same ∙ is))
    (ap (λ b. b || list_any (bytes_eq key) (keys_in processed)) (itself key))
key_among key (s ∷ processed) t (inr c) is = by s.outcome (key_among key processed t c is)
  where
    by : (o : Outcome) → list_any (bytes_eq key) (keys_in processed) ≡ true → list_any (bytes_eq key) (key_list o ++ keys_in processed) ≡ true
    by (Key own) rest = or (bytes_eq key own) rest
      where
        or : (b : Bool) → list_any (bytes_eq key) (keys_in processed) ≡ true → (b || list_any (bytes_eq key) (keys_in processed)) ≡ true
        or true rest = refl
        or false rest = rest
    by (Refused fault) rest = rest
    by (Unopened kind) rest = rest

-- ---- groups

-- a group is all files with some key, and has more than one
group_is : (processed group : List Processed) → In (groups_of processed) group
    → (key : List ℕ) × (files_with key processed ≡ group) × (has_several group ≡ true)
group_is processed group c =
    let kept = in_filter has_several (map (λ (key : List ℕ). files_with key processed) (distinct_keys (keys_in processed))) group c in
    let made = in_map (λ (key : List ℕ). files_with key processed) (distinct_keys (keys_in processed)) group kept.0 in
    (made.0, made.2, kept.1)

-- a file of a group has its key
member_is : (key : List ℕ) (processed : List Processed) (t : Processed) → In (files_with key processed) t → t.outcome ≡ Key key
member_is key processed t c = key_of key t.outcome (in_filter (has_key key) processed t c).1

-- no two of these groups have a file in common
module _ (F : List ℕ → List Processed) (same : (k l : List ℕ) (t : Processed) → In (F k) t → In (F l) t → bytes_eq k l ≡ true) where
  later : (key : List ℕ) (keys : List (List ℕ)) (t : Processed) (b : ℕ) → In (F key) t → b < length (filter has_several (map F keys))
      → In (get_or (filter has_several (map F keys)) b []) t → list_any (bytes_eq key) keys ≡ true
  later key keys t b first lt second =
      let group = get_or (filter has_several (map F keys)) b [] in
      let kept = in_filter has_several (map F keys) group (in_at (filter has_several (map F keys)) b [] lt) in
      let made = in_map F keys group kept.0 in
      in_any key made.0 keys made.1 (same key made.0 t first (subst (λ (l : List Processed). In l t) (sym made.2) second))

  place_once : (keys : List (List ℕ)) → AreApart keys → (a b : ℕ) (t : Processed) → a < length (filter has_several (map F keys))
      → b < length (filter has_several (map F keys)) → In (get_or (filter has_several (map F keys)) a []) t
      → In (get_or (filter has_several (map F keys)) b []) t → a ≡ b
  place_once [] apart a b t in_a in_b first second = absurd (omega (arith, in_a))
  place_once (key ∷ keys) apart a b t in_a in_b first second =
      by (has_several (F key)) a b in_a in_b first second (λ m n. place_once keys apart.1 m n t)
    where
      by : (several : Bool) (a b : ℕ) → a < length (cond several (F key ∷ filter has_several (map F keys)) (filter has_several (map F keys)))
          → b < length (cond several (F key ∷ filter has_several (map F keys)) (filter has_several (map F keys)))
          → In (get_or (cond several (F key ∷ filter has_several (map F keys)) (filter has_several (map F keys))) a []) t
          → In (get_or (cond several (F key ∷ filter has_several (map F keys)) (filter has_several (map F keys))) b []) t
          → ((m n : ℕ) → m < length (filter has_several (map F keys)) → n < length (filter has_several (map F keys))
          → In (get_or (filter has_several (map F keys)) m []) t → In (get_or (filter has_several (map F keys)) n []) t → m ≡ n)
          → a ≡ b
      by true zero zero in_a in_b first second rest = refl
      by true zero (suc n) in_a in_b first second rest =
          let bad : true ≡ false = sym (later key keys t n first (omega (arith, in_b)) second) ∙ apart.0 in absurd cc
      by true (suc m) zero in_a in_b first second rest =
          let bad : true ≡ false = sym (later key keys t m second (omega (arith, in_a)) first) ∙ apart.0 in absurd cc
      by true (suc m) (suc n) in_a in_b first second rest = ap suc (rest m n (omega (arith, in_a)) (omega (arith, in_b)) first second)
      by false m n in_a in_b first second rest = rest m n in_a in_b first second

same_key : (processed : List Processed) (k l : List ℕ) (t : Processed) → In (files_with k processed) t → In (files_with l processed) t → bytes_eq k l ≡ true
same_key processed k l t first second =
    let both : Key k ≡ Key l = sym (member_is k processed t first) ∙ member_is l processed t second in
    let keys : k ≡ l = cc in
    subst (λ (m : List ℕ). bytes_eq k m ≡ true) keys (itself k)

-- files with one key are in one group
together : (processed : List Processed) (i j : ℕ) (s t : Processed) → i < j → slice_get processed i ≡ Some s → slice_get processed j ≡ Some t → HaveOneKey s t
    → AreInOneGroup processed s t
together processed i j s t before at_i at_j (key, first, second) =
    let in_i = slice_get_within processed i s at_i in
    let in_j = slice_get_within processed j t at_j in
    let is_s = get_or_from_slice_get processed i s s at_i in
    let is_t = get_or_from_slice_get processed j t t at_j in
    let has_s : In processed s = subst (In processed) is_s (in_at processed i s in_i) in
    let has_t : In processed t = subst (In processed) is_t (in_at processed j t in_j) in
    let several : 1 < length (files_with key processed) =
    two_pass (has_key key) processed i j s t before in_j
    (subst (λ (u : Processed). has_key key u ≡ true) (sym is_s) (of_key key s.outcome first))
    (subst (λ (u : Processed). has_key key u ≡ true) (sym is_t) (of_key key t.outcome second)) in
    let there = any_in key (distinct_keys (keys_in processed)) (among_distinct key (keys_in processed) ∙ key_among key processed s has_s first) in (
      files_with key processed,
      in_to (groups_of processed) (files_with key processed)
          (filter_in has_several (map (λ (k : List ℕ). files_with k processed) (distinct_keys (keys_in processed))) (files_with key processed)
          (map_in (λ (k : List ℕ). files_with k processed) (distinct_keys (keys_in processed)) key there)
          (lt-ltb 1 (length (files_with key processed)) several)),
      in_to (files_with key processed) s (filter_in (has_key key) processed s has_s (of_key key s.outcome first)),
      in_to (files_with key processed) t (filter_in (has_key key) processed t has_t (of_key key t.outcome second)),
    )

-- and those in one group have one key
of_one_group : (processed : List Processed) (s t : Processed) → AreInOneGroup processed s t → HaveOneKey s t
of_one_group processed s t (group, there, has_s, has_t) =
    let is = group_is processed group (in_from (groups_of processed) group there) in (
      is.0,
      member_is is.0 processed s (subst (λ (l : List Processed). In l s) (sym is.1) (in_from group s has_s)),
      member_is is.0 processed t (subst (λ (l : List Processed). In l t) (sym is.1) (in_from group t has_t)),
    )

pub groups_are_by_key : GroupsAreByKey
groups_are_by_key processed = record {
  together = λ i j s t before at_i at_j. (of_one_group processed s t, together processed i j s t before at_i at_j);
  several = λ group there. ltb-true 1 (length group) (group_is processed group (in_from (groups_of processed) group there)).2;
  whole = λ group there. let is = group_is processed group (in_from (groups_of processed) group there) in (is.0, sym is.1);
  apart = λ a b group other t at_a at_b first second.
      place_once (λ (key : List ℕ). files_with key processed) (same_key processed) (distinct_keys (keys_in processed))
      (distinct_apart (keys_in processed)) a b t
      (slice_get_within (groups_of processed) a group at_a) (slice_get_within (groups_of processed) b other at_b)
      (subst (λ (l : List Processed). In l t) (sym (get_or_from_slice_get (groups_of processed) a group [] at_a)) (in_from group t first))
      (subst (λ (l : List Processed). In l t) (sym (get_or_from_slice_get (groups_of processed) b other [] at_b)) (in_from other t second));
}
