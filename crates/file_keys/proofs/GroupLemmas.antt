-- Files in classes by their keys, as a run keeps them, and the groups of files.
use Rattle.std.proofs.Common.{Bor, ◌≡◌, ℕ, List, [], ◌∷◌, ◌++◌, map, filter, not, Bool, true, false, cond, ◌||◌, Some, None, refl, sym, ap, ap₂, ◌∙◌, subst, append-nil}
use Rattle.std.specs.List.{list_any}
use Rattle.std.specs.Map.{lookup, set_value}
use Rattle.std.specs.Str.{bytes_eq}
use Rattle.std.proofs.lemmas.Grind.{flat_map-append}
use Rattle.std.proofs.lemmas.List.{map-append}
use Rattle.std.proofs.lemmas.List.Elements.{filter-append}
use Rattle.std.proofs.lemmas.Slice.Eq.{bytes_eq-Decides}
use Rattle.std.proofs.lemmas.Bool.{or_parts}
use Rattle.indexmap.specs.IndexMap.{insert_entry}
use Rattle.file_keys.specs.Duplicates.{Class, classes_of, kept_names, with_name}
use Rattle.file_keys.specs.Groups.{distinct_keys, files_with, has_key, is_key, key_list, keys_in, name_bytes}
use Rattle.file_keys.specs.KeyRuns.{Processed}
use Rattle.file_keys.specs.declared.duplicates.groups.Group.{Group}
use Rattle.file_keys.specs.declared.keys.outcome.Outcome.{Outcome}
use Rattle.file_keys.specs.declared.keys.outcome.Outcome.TheVariants.{Key, Refused, Unopened}
use Rattle.life_base.proofs.Texts.{same_bytes}

-- ---- a map of groups

abbrev pub Entry : Type 0
Entry = List ℕ × Group

abbrev pub class_of : Entry → Class
class_of entry = (entry.0, kept_names entry.1)

-- a group with one name more
pub one_more : (first name : Bor (List ℕ)) (old new : List (Bor (List ℕ))) → new ≡ old ++ name ∷ []
    → first.now ∷ map (λ (n : Bor (List ℕ)). n.now) new ≡ (first.now ∷ map (λ (n : Bor (List ℕ)). n.now) old) ++ name.now ∷ []
one_more first name old new is =
    ap (λ (l : List (Bor (List ℕ))). first.now ∷ map (λ (n : Bor (List ℕ)). n.now) l) is
    ∙ ap (λ (l : List (List ℕ)). first.now ∷ l) (map-append (λ (n : Bor (List ℕ)). n.now) old (name ∷ []))

-- a name that goes to a group which is there
pub pushed : (key name : List ℕ) (es : List Entry) (old new : Group) → lookup (bytes_eq key) es ≡ Some old → kept_names new ≡ kept_names old ++ name ∷ []
    → map class_of (set_value (bytes_eq key) es new) ≡ with_name (map class_of es) key name
pushed key name [] old new is kept = absurd (let z : ⊥ = cc in z)
pushed key name (e ∷ es) old new is kept = by (bytes_eq key e.0) is (λ found. pushed key name es old new found kept)
  where
    by : (b : Bool) → cond b (Some e.1) (lookup (bytes_eq key) es) ≡ Some old
        → (lookup (bytes_eq key) es ≡ Some old → map class_of (set_value (bytes_eq key) es new) ≡ with_name (map class_of es) key name)
        → map class_of (cond b ((e.0, new) ∷ es) (e ∷ set_value (bytes_eq key) es new))
        ≡ cond b ((e.0, kept_names e.1 ++ name ∷ []) ∷ map class_of es) (class_of e ∷ with_name (map class_of es) key name)
    by true found rest =
        let same : e.1 ≡ old = cc in
        ap (λ (names : List (List ℕ)). (e.0, names) ∷ map class_of es) (kept ∙ ap (λ (g : Group). kept_names g ++ name ∷ []) (sym same))
    by false found rest = ap (λ (l : List Class). class_of e ∷ l) (rest found)

-- a group that keeps its names
pub unpushed : (key : List ℕ) (es : List Entry) (old new : Group) → lookup (bytes_eq key) es ≡ Some old → kept_names new ≡ kept_names old
    → map class_of (set_value (bytes_eq key) es new) ≡ map class_of es
unpushed key [] old new is kept = refl
unpushed key (e ∷ es) old new is kept = by (bytes_eq key e.0) is (λ found. unpushed key es old new found kept)
  where
    by : (b : Bool) → cond b (Some e.1) (lookup (bytes_eq key) es) ≡ Some old
        → (lookup (bytes_eq key) es ≡ Some old → map class_of (set_value (bytes_eq key) es new) ≡ map class_of es)
        → map class_of (cond b ((e.0, new) ∷ es) (e ∷ set_value (bytes_eq key) es new)) ≡ class_of e ∷ map class_of es
    by true found rest =
        let same : e.1 ≡ old = cc in
        ap (λ (names : List (List ℕ)). (e.0, names) ∷ map class_of es) (kept ∙ ap kept_names (sym same))
    by false found rest = ap (λ (l : List Class). class_of e ∷ l) (rest found)

-- a name with a key that no group has
pub inserted : (key name : List ℕ) (es : List Entry) (new : Group) → lookup (bytes_eq key) es ≡ None → kept_names new ≡ name ∷ []
    → map class_of (insert_entry bytes_eq es key new) ≡ with_name (map class_of es) key name
inserted key name [] new none kept = ap (λ (names : List (List ℕ)). (key, names) ∷ []) kept
inserted key name (e ∷ es) new none kept = by (bytes_eq key e.0) none (λ found. inserted key name es new found kept)
  where
    by : (b : Bool) → cond b (Some e.1) (lookup (bytes_eq key) es) ≡ None
        → (lookup (bytes_eq key) es ≡ None → map class_of (insert_entry bytes_eq es key new) ≡ with_name (map class_of es) key name)
        → map class_of (cond b ((e.0, new) ∷ es) (e ∷ insert_entry bytes_eq es key new))
        ≡ cond b ((e.0, kept_names e.1 ++ name ∷ []) ∷ map class_of es) (class_of e ∷ with_name (map class_of es) key name)
    by true found rest = absurd (let z : ⊥ = cc in z)
    by false found rest = ap (λ (l : List Class). class_of e ∷ l) (rest found)

-- ---- keys, each once

pub itself : (a : List ℕ) → bytes_eq a a ≡ true
itself a = (bytes_eq-Decides a a).1 refl

either_way : (a b : List ℕ) (r : Bool) → bytes_eq a b ≡ r → bytes_eq b a ≡ r
either_way a b true is = subst (λ c. bytes_eq c a ≡ true) (same_bytes a b is) (itself a)
either_way a b false is = by (bytes_eq b a) refl
  where
    by : (r : Bool) → bytes_eq b a ≡ r → r ≡ false
    by true found = sym (subst (λ c. bytes_eq a c ≡ true) (sym (same_bytes b a found)) (itself a)) ∙ is
    by false found = refl

-- keys that are all different
abbrev pub AreApart : List (List ℕ) → Type 0
AreApart [] = Unit {0}
AreApart (key ∷ keys) = (list_any (bytes_eq key) keys ≡ false) × AreApart keys

abbrev others : List ℕ → List (List ℕ) → List (List ℕ)
others key keys = filter (λ (other : List ℕ). not (bytes_eq key other)) keys

-- what no key of a list passes, none of some of them passes
none_of_some : (test keep : List ℕ → Bool) (keys : List (List ℕ)) → list_any test keys ≡ false → list_any test (filter keep keys) ≡ false
none_of_some test keep [] none = refl
none_of_some test keep (key ∷ keys) none =
    let both = or_parts (test key) (list_any test keys) none in by (keep key) both.0 (none_of_some test keep keys both.1)
  where
    by : (b : Bool) → test key ≡ false → list_any test (filter keep keys) ≡ false
        → list_any test (cond b (key ∷ filter keep keys) (filter keep keys)) ≡ false
    by true here rest = ap (λ c. c || list_any test (filter keep keys)) here ∙ rest
    by false here rest = rest

-- no other key is equal
none_other : (key : List ℕ) (keys : List (List ℕ)) → list_any (bytes_eq key) (others key keys) ≡ false
none_other key [] = refl
none_other key (next ∷ keys) = by (bytes_eq key next) refl (none_other key keys)
  where
    by : (b : Bool) → bytes_eq key next ≡ b → list_any (bytes_eq key) (others key keys) ≡ false
        → list_any (bytes_eq key) (cond (not b) (next ∷ others key keys) (others key keys)) ≡ false
    by true is rest = rest
    by false is rest = ap (λ c. c || list_any (bytes_eq key) (others key keys)) is ∙ rest

apart_kept : (keep : List ℕ → Bool) (keys : List (List ℕ)) → AreApart keys → AreApart (filter keep keys)
apart_kept keep [] apart = tt
apart_kept keep (key ∷ keys) apart = by (keep key) (apart_kept keep keys apart.1)
  where
    by : (b : Bool) → AreApart (filter keep keys) → AreApart (cond b (key ∷ filter keep keys) (filter keep keys))
    by true rest = (none_of_some (bytes_eq key) keep keys apart.0, rest)
    by false rest = rest

pub distinct_apart : (keys : List (List ℕ)) → AreApart (distinct_keys keys)
distinct_apart [] = tt
distinct_apart (key ∷ keys) =
    (none_other key (distinct_keys keys), apart_kept (λ (other : List ℕ). not (bytes_eq key other)) (distinct_keys keys) (distinct_apart keys))

-- a key is among others if it is another one
among_others : (key own : List ℕ) (keys : List (List ℕ)) → bytes_eq own key ≡ false → list_any (bytes_eq own) (others key keys) ≡ list_any (bytes_eq own) keys
among_others key own [] differ = refl
among_others key own (next ∷ keys) differ = by (bytes_eq key next) refl (among_others key own keys differ)
  where
    by : (b : Bool) → bytes_eq key next ≡ b → list_any (bytes_eq own) (others key keys) ≡ list_any (bytes_eq own) keys
        → list_any (bytes_eq own) (cond (not b) (next ∷ others key keys) (others key keys)) ≡ (bytes_eq own next || list_any (bytes_eq own) keys)
    by true is rest =
        rest
        ∙ ap (λ c. c || list_any (bytes_eq own) keys) (sym (subst (λ (k : List ℕ). bytes_eq own k ≡ false) (same_bytes key next is) differ))
    by false is rest = ap (λ c. bytes_eq own next || c) rest

-- the keys of which each is there once are the same keys
pub among_distinct : (own : List ℕ) (keys : List (List ℕ)) → list_any (bytes_eq own) (distinct_keys keys) ≡ list_any (bytes_eq own) keys
among_distinct own [] = refl
among_distinct own (key ∷ keys) = by (bytes_eq own key) refl (among_distinct own keys)
  where
    by : (b : Bool) → bytes_eq own key ≡ b → list_any (bytes_eq own) (distinct_keys keys) ≡ list_any (bytes_eq own) keys
        → (b || list_any (bytes_eq own) (others key (distinct_keys keys))) ≡ (b || list_any (bytes_eq own) keys)
    by true is rest = refl
    by false is rest = among_others key own (distinct_keys keys) is ∙ rest

-- one key more
pub distinct_more : (keys : List (List ℕ)) (own : List ℕ)
    → distinct_keys (keys ++ own ∷ []) ≡ cond (list_any (bytes_eq own) keys) (distinct_keys keys) (distinct_keys keys ++ own ∷ [])
distinct_more [] own = refl
distinct_more (key ∷ keys) own =
    ap (λ (l : List (List ℕ)). key ∷ others key l) (distinct_more keys own) ∙ by (bytes_eq own key) (list_any (bytes_eq own) keys) refl
  where
    by : (c b : Bool) → bytes_eq own key ≡ c
        → key ∷ others key (cond b (distinct_keys keys) (distinct_keys keys ++ own ∷ []))
        ≡ cond (c || b) (key ∷ others key (distinct_keys keys)) (key ∷ others key (distinct_keys keys) ++ own ∷ [])
    by true true is = refl
    by false true is = refl
    by true false is =
        ap (λ (l : List (List ℕ)). key ∷ l) (filter-append (λ (other : List ℕ). not (bytes_eq key other)) (distinct_keys keys) (own ∷ [])
        ∙ ap (λ c. others key (distinct_keys keys) ++ cond (not c) (own ∷ []) []) (either_way own key true is)
        ∙ append-nil (others key (distinct_keys keys)))
    by false false is =
        ap (λ (l : List (List ℕ)). key ∷ l) (filter-append (λ (other : List ℕ). not (bytes_eq key other)) (distinct_keys keys) (own ∷ [])
        ∙ ap (λ c. others key (distinct_keys keys) ++ cond (not c) (own ∷ []) []) (either_way own key false is))

-- ---- classes of files

-- the classes of files by these keys: the names of each are by `names`
abbrev classes_by : (List ℕ → List (List ℕ)) → List (List ℕ) → List Class
classes_by names keys = map (λ (key : List ℕ). (key, names key)) keys

-- a file more has a key that none of these equals
with_name_new : (names : List ℕ → List (List ℕ)) (keys : List (List ℕ)) (own name : List ℕ) → list_any (bytes_eq own) keys ≡ false
    → with_name (classes_by names keys) own name ≡ classes_by names keys ++ (own, name ∷ []) ∷ []
with_name_new names [] own name none = refl
with_name_new names (key ∷ keys) own name none =
    let both = or_parts (bytes_eq own key) (list_any (bytes_eq own) keys) none in
    ap (λ b. cond b ((key, names key ++ name ∷ []) ∷ classes_by names keys) ((key, names key) ∷ with_name (classes_by names keys) own name)) both.0
    ∙ ap (λ (l : List Class). (key, names key) ∷ l) (with_name_new names keys own name both.1)

-- the names of one more file with this key
abbrev more_names : (List ℕ → List (List ℕ)) → (own name : List ℕ) → List ℕ → List (List ℕ)
more_names names own name key = names key ++ cond (bytes_eq key own) (name ∷ []) []

-- are the same where none of the keys is its own
with_none : (names : List ℕ → List (List ℕ)) (keys : List (List ℕ)) (own name : List ℕ) → list_any (bytes_eq own) keys ≡ false
    → classes_by names keys ≡ classes_by (more_names names own name) keys
with_none names [] own name none = refl
with_none names (key ∷ keys) own name none =
    let both = or_parts (bytes_eq own key) (list_any (bytes_eq own) keys) none in
    ap₂ (λ (l : List (List ℕ)) (rest : List Class). (key, l) ∷ rest)
    (sym (append-nil (names key)) ∙ ap (λ b. names key ++ cond b (name ∷ []) []) (sym (either_way own key false both.0)))
    (with_none names keys own name both.1)

-- or it is that of one of these
with_name_there : (names : List ℕ → List (List ℕ)) (keys : List (List ℕ)) (own name : List ℕ) → AreApart keys → list_any (bytes_eq own) keys ≡ true
    → with_name (classes_by names keys) own name ≡ classes_by (more_names names own name) keys
with_name_there names [] own name apart there = absurd (let z : ⊥ = cc in z)
with_name_there names (key ∷ keys) own name apart there =
    by (bytes_eq own key) refl there (λ rest. with_name_there names keys own name apart.1 rest)
  where
    by : (b : Bool) → bytes_eq own key ≡ b → (b || list_any (bytes_eq own) keys) ≡ true
        → (list_any (bytes_eq own) keys ≡ true → with_name (classes_by names keys) own name ≡ classes_by (more_names names own name) keys)
        → cond b ((key, names key ++ name ∷ []) ∷ classes_by names keys) ((key, names key) ∷ with_name (classes_by names keys) own name)
        ≡ (key, more_names names own name key) ∷ classes_by (more_names names own name) keys
    by true is there rest =
        let none : list_any (bytes_eq own) keys ≡ false = subst (λ (k : List ℕ). list_any (bytes_eq k) keys ≡ false) (sym (same_bytes own key is)) apart.0 in
        ap₂ (λ (l : List (List ℕ)) (more : List Class). (key, l) ∷ more)
        (ap (λ b. names key ++ cond b (name ∷ []) []) (sym (either_way own key true is))) (with_none names keys own name none)
    by false is there rest =
        ap₂ (λ (l : List (List ℕ)) (more : List Class). (key, l) ∷ more)
        (sym (append-nil (names key)) ∙ ap (λ b. names key ++ cond b (name ∷ []) []) (sym (either_way own key false is))) (rest there)

-- the names of the files with a key
abbrev names_with : List Processed → List ℕ → List (List ℕ)
names_with processed key = map name_bytes (files_with key processed)

-- of one file more
names_more : (processed : List Processed) (t : Processed) (own : List ℕ) → t.outcome ≡ Key own → (key : List ℕ)
    → names_with (processed ++ t ∷ []) key ≡ more_names (names_with processed) own (name_bytes t) key
names_more processed t own is key =
    ap (map name_bytes) (filter-append (has_key key) processed (t ∷ [])) ∙ map-append name_bytes (files_with key processed) (cond (has_key key t) (t ∷ []) [])
    ∙ ap (λ (l : List (List ℕ)). names_with processed key ++ l) (by (has_key key t) ∙ ap (λ (o : Outcome). cond (is_key key o) (name_bytes t ∷ []) []) is)
  where
    by : (b : Bool) → map name_bytes (cond b (t ∷ []) []) ≡ cond b (name_bytes t ∷ []) []
    by true = refl
    by false = refl

-- a key that no file has
no_names : (processed : List Processed) (own : List ℕ) → list_any (bytes_eq own) (keys_in processed) ≡ false → names_with processed own ≡ []
no_names [] own none = refl
no_names (t ∷ processed) own none = by t.outcome none (λ rest. no_names processed own rest)
  where
    by : (o : Outcome) → list_any (bytes_eq own) (key_list o ++ keys_in processed) ≡ false
        → (list_any (bytes_eq own) (keys_in processed) ≡ false → names_with processed own ≡ [])
        → map name_bytes (cond (is_key own o) (t ∷ files_with own processed) (files_with own processed)) ≡ []
    by (Key key) none rest =
        let both = or_parts (bytes_eq own key) (list_any (bytes_eq own) (keys_in processed)) none in
        ap (λ b. map name_bytes (cond b (t ∷ files_with own processed) (files_with own processed))) both.0 ∙ rest both.1
    by (Refused fault) none rest = rest none
    by (Unopened kind) none rest = rest none

-- the keys of one file more
keys_more : (processed : List Processed) (t : Processed) → keys_in (processed ++ t ∷ []) ≡ keys_in processed ++ key_list t.outcome
keys_more processed t =
    flat_map-append (λ (s : Processed). key_list s.outcome) processed (t ∷ [])
    ∙ ap (λ (l : List (List ℕ)). keys_in processed ++ l) (append-nil (key_list t.outcome))

classes_same : (f g : List ℕ → List (List ℕ)) (keys : List (List ℕ)) → ((key : List ℕ) → f key ≡ g key) → classes_by f keys ≡ classes_by g keys
classes_same f g [] same = refl
classes_same f g (key ∷ keys) same = ap₂ (λ (l : List (List ℕ)) (more : List Class). (key, l) ∷ more) (same key) (classes_same f g keys same)

-- the classes with one file more that has a key
pub classes_more : (processed : List Processed) (t : Processed) (own : List ℕ) → t.outcome ≡ Key own
    → classes_of (processed ++ t ∷ []) ≡ with_name (classes_of processed) own (name_bytes t)
classes_more processed t own is =
    ap (λ (keys : List (List ℕ)). classes_by (names_with (processed ++ t ∷ [])) (distinct_keys keys))
    (keys_more processed t ∙ ap (λ (o : Outcome). keys_in processed ++ key_list o) is)
    ∙ classes_same (names_with (processed ++ t ∷ [])) more (distinct_keys (keys_in processed ++ own ∷ [])) (names_more processed t own is)
    ∙ ap (classes_by more) (distinct_more (keys_in processed) own)
    ∙ by (list_any (bytes_eq own) (keys_in processed)) refl
  where
    more : List ℕ → List (List ℕ)
    more = more_names (names_with processed) own (name_bytes t)

    by : (b : Bool) → list_any (bytes_eq own) (keys_in processed) ≡ b
        → classes_by more (cond b (distinct_keys (keys_in processed)) (distinct_keys (keys_in processed) ++ own ∷ []))
        ≡ with_name (classes_of processed) own (name_bytes t)
    by true there = sym (with_name_there (names_with processed) (distinct_keys (keys_in processed)) own (name_bytes t) (distinct_apart (keys_in processed))
        (among_distinct own (keys_in processed) ∙ there))
    by false none =
        let other : list_any (bytes_eq own) (distinct_keys (keys_in processed)) ≡ false = among_distinct own (keys_in processed) ∙ none in
        map-append (λ (key : List ℕ). (key, more key)) (distinct_keys (keys_in processed)) (own ∷ [])
        ∙ ap₂ (λ (l : List Class) (names : List (List ℕ)). l ++ (own, names) ∷ [])
        (sym (with_none (names_with processed) (distinct_keys (keys_in processed)) own (name_bytes t) other))
        (ap₂ (λ (l : List (List ℕ)) b. l ++ cond b (name_bytes t ∷ []) []) (no_names processed own none) (itself own))
        ∙ sym (with_name_new (names_with processed) (distinct_keys (keys_in processed)) own (name_bytes t) other)

-- and with one that has none
pub classes_other : (processed : List Processed) (t : Processed) → key_list t.outcome ≡ [] → ((key : List ℕ) → has_key key t ≡ false)
    → classes_of (processed ++ t ∷ []) ≡ classes_of processed
classes_other processed t none lacks =
    ap (λ (keys : List (List ℕ)). classes_by (names_with (processed ++ t ∷ [])) (distinct_keys keys))
    (keys_more processed t ∙ ap (λ (l : List (List ℕ)). keys_in processed ++ l) none ∙ append-nil (keys_in processed))
    ∙ classes_same (names_with (processed ++ t ∷ [])) (names_with processed) (distinct_keys (keys_in processed)) (λ key.
    ap (map name_bytes) (filter-append (has_key key) processed (t ∷ []) ∙ ap (λ b. files_with key processed ++ cond b (t ∷ []) []) (lacks key)
    ∙ append-nil (files_with key processed)))
