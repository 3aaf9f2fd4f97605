-- The names that a run of the command `duplicates` prints.
use Rattle.std.proofs.Common.{◌≡◌, ℕ, suc, ◌<◌, List, [], ◌∷◌, ◌++◌, map, filter, Bool, true, false, cond, Bor, Option, drop, get_or, ◌+◌, inl, inr, refl, sym, ap, ◌∙◌, subst, length, nat_lt, arith, lt-ltb, flat_map, if◌then◌else◌, append_assoc, append-nil}
use Rattle.std.specs.Io.KnownBytes.{Appends}
use Rattle.std.specs.Map.{values_of}
use Rattle.std.proofs.KnownBytes.{Appends-trans}
use Rattle.std.proofs.lemmas.Grind.{flat_map-append}
use Rattle.std.proofs.lemmas.List.{drop_more, length-map}
use Rattle.life_base.specs.Text.{is_empty}
use Rattle.life_base.specs.Writing.{WritesPrefix}
use Rattle.life_base.proofs.WritingLemmas.{prefix-after, prefix-grows}
use Rattle.file_keys.specs.Duplicates.{Class, classes_in, classes_of, kept_groups, kept_names, next_names}
use Rattle.file_keys.specs.Groups.{distinct_keys, ended_name, files_with, group_names, groups_of, has_several, IsGroupStatus, keys_in, name_bytes, names_text, printed_names, status_by}
use Rattle.file_keys.specs.KeyRuns.{Processed}
use Rattle.file_keys.specs.Keys.{IsStatus}
use Rattle.file_keys.specs.declared.duplicates.groups.Group.{Group}
use Rattle.file_keys.specs.declared.duplicates.groups.Groups.{Groups}
use Rattle.file_keys.proofs.GroupLemmas.{class_of, Entry}

-- ---- which groups are printed

-- the groups of a run that are printed, from those of a list of groups
abbrev pub several_of : List Group → List (List (List ℕ))
several_of groups = filter has_several (map kept_names groups)

-- a group of two files or more is printed
pub several_next : (group : Group) (groups : List Group) → 0 < length group.more.items
    → several_of (group ∷ groups) ≡ kept_names group ∷ several_of groups
several_next group groups some =
    let more : 1 < suc (length (map (λ (n : Bor (List ℕ)). n.now) group.more.items)) =
    omega (arith, some, length-map group.more.items (λ (n : Bor (List ℕ)). n.now)) in
    ap (λ b. cond b (kept_names group ∷ several_of groups) (several_of groups))
    (lt-ltb 1 (suc (length (map (λ (n : Bor (List ℕ)). n.now) group.more.items))) more)

-- the groups that a map keeps are those of its classes
names_of_entries : (es : List Entry) → map kept_names (values_of es) ≡ map (λ (class : Class). class.1) (map class_of es)
names_of_entries [] = refl
names_of_entries (e ∷ es) = ap (λ (l : List (List (List ℕ))). kept_names e.1 ∷ l) (names_of_entries es)

-- of files: those that are in groups
names_of_groups : (F : List ℕ → List Processed) (keys : List (List ℕ))
    → map (map name_bytes) (filter has_several (map F keys))
    ≡ filter has_several (map (λ (class : Class). class.1) (map (λ (key : List ℕ). (key, map name_bytes (F key))) keys))
names_of_groups F [] = refl
names_of_groups F (key ∷ keys) =
    by (has_several (F key)) (names_of_groups F keys)
    ∙ ap (λ n. cond (nat_lt 1 n) (map name_bytes (F key) ∷ rest) rest) (sym (length-map (F key) name_bytes))
  where
    rest : List (List (List ℕ))
    rest = filter has_several (map (λ (class : Class). class.1) (map (λ (k : List ℕ). (k, map name_bytes (F k))) keys))

    by : (b : Bool) → map (map name_bytes) (filter has_several (map F keys)) ≡ rest
        → map (map name_bytes) (cond b (F key ∷ filter has_several (map F keys)) (filter has_several (map F keys)))
        ≡ cond b (map name_bytes (F key) ∷ rest) rest
    by true same = ap (λ (l : List (List (List ℕ))). map name_bytes (F key) ∷ l) same
    by false same = same

-- what a run keeps of files is what it prints of them
pub kept_is : (groups : Groups) (processed : List Processed) → classes_in groups ≡ classes_of processed → kept_groups groups ≡ group_names processed
kept_is groups processed is =
    ap (filter has_several) (names_of_entries groups.by_key.entries ∙ ap (map (λ (class : Class). class.1)) is)
    ∙ sym (names_of_groups (λ (key : List ℕ). files_with key processed) (distinct_keys (keys_in processed)))

pub none_is : (processed : List Processed) → is_empty (group_names processed) ≡ is_empty (groups_of processed)
none_is processed = by (groups_of processed)
  where
    by : (groups : List (List Processed)) → is_empty (map (map name_bytes) groups) ≡ is_empty groups
    by [] = refl
    by (group ∷ groups) = refl

-- ---- what was written of names

-- the text of these names was written, but for that of the last ones, `rest`
abbrev pub Printed : Option (List ℕ) → Option (List ℕ) → Bool → (names rest : List (List ℕ)) → Type 0
Printed a b zero names rest = (prefix : List ℕ) × (names_text zero names ≡ prefix ++ names_text zero rest) × Appends a b prefix

pub text_both : (zero : Bool) (names more : List (List ℕ)) → names_text zero (names ++ more) ≡ names_text zero names ++ names_text zero more
text_both zero names more = flat_map-append (ended_name zero) names more

-- the text of one name
pub one_text : (zero : Bool) (name : List ℕ) → ended_name zero name ≡ names_text zero (name ∷ [])
one_text zero name = sym (append-nil (ended_name zero name))

module _ (a b c : Option (List ℕ)) (zero : Bool) (names rest next behind : List (List ℕ)) (printed : Printed a b zero names rest)
    (split : rest ≡ next ++ behind) where
  whole : names_text zero names ≡ (printed.0 ++ names_text zero next) ++ names_text zero behind
  whole =
      printed.1 ∙ ap (λ (l : List (List ℕ)). printed.0 ++ names_text zero l) split ∙ ap (λ (l : List ℕ). printed.0 ++ l) (text_both zero next behind)
      ∙ sym (append_assoc printed.0 (names_text zero next) (names_text zero behind))

  -- and then that of the next ones
  pub printed_further : Appends b c (names_text zero next) → Printed a c zero names behind
  printed_further more = (printed.0 ++ names_text zero next, whole, Appends-trans a b c printed.0 (names_text zero next) printed.2 more)

  -- or a prefix of it
  pub printed_broken : WritesPrefix b c (names_text zero next) → WritesPrefix a c (names_text zero names)
  printed_broken broken =
      subst (WritesPrefix a c) (sym whole) (prefix-grows a c (printed.0 ++ names_text zero next) (names_text zero behind)
      (prefix-after a b c printed.0 (names_text zero next) printed.2 broken))

-- the names from one of them on
pub names_left : (names : List (Bor (List ℕ))) (i : ℕ) (d : Bor (List ℕ)) → i < length names
    → map (λ (name : Bor (List ℕ)). name.now) (drop i names)
    ≡ ((get_or names i d).now ∷ []) ++ map (λ (name : Bor (List ℕ)). name.now) (drop (i + 1) names)
names_left names i d lt = ap (map (λ (name : Bor (List ℕ)). name.now)) (drop_more names i d lt)

-- one name after another
module _ (a b c : Option (List ℕ)) (zero : Bool) (all : List (Bor (List ℕ))) (i : ℕ) (d : Bor (List ℕ))
    (printed : Printed a b zero (map (λ (name : Bor (List ℕ)). name.now) all) (map (λ (name : Bor (List ℕ)). name.now) (drop i all)))
    (lt : i < length all) where
  pub name_further : Appends b c (ended_name zero (get_or all i d).now)
      → Printed a c zero (map (λ (name : Bor (List ℕ)). name.now) all) (map (λ (name : Bor (List ℕ)). name.now) (drop (i + 1) all))
  name_further more = printed_further a b c zero _ _ ((get_or all i d).now ∷ []) _ printed (names_left all i d lt)
      (subst (Appends b c) (one_text zero (get_or all i d).now) more)

  pub name_broken : WritesPrefix b c (ended_name zero (get_or all i d).now)
      → WritesPrefix a c (names_text zero (map (λ (name : Bor (List ℕ)). name.now) all))
  name_broken broken = printed_broken a b c zero _ _ ((get_or all i d).now ∷ []) (map (λ (name : Bor (List ℕ)). name.now) (drop (i + 1) all)) printed
      (names_left all i d lt) (subst (WritesPrefix b c) (one_text zero (get_or all i d).now) broken)

-- all was written
pub printed_all : (a b : Option (List ℕ)) (zero : Bool) (names rest : List (List ℕ)) → rest ≡ [] → Printed a b zero names rest
    → Appends a b (names_text zero names)
printed_all a b zero names rest none printed =
    subst (Appends a b) (sym (printed.1 ∙ ap (λ (l : List (List ℕ)). printed.0 ++ names_text zero l) none ∙ append-nil printed.0)) printed.2

-- the names that are left to print where these groups are left
abbrev pub left_names : Bool → List (List (List ℕ)) → List (List ℕ)
left_names is_first groups = if is_first then printed_names groups else flat_map (λ (next : List (List ℕ)). [] ∷ next) groups

pub left_next : (is_first : Bool) (group : List (List ℕ)) (groups : List (List (List ℕ)))
    → left_names is_first (group ∷ groups) ≡ next_names is_first group ++ left_names false groups
left_next true group groups = refl
left_next false group groups = refl

-- ---- statuses

-- the status of a run whose groups were printed is one of the command
pub group_status : (greatest : ℕ) (has_none : Bool) → IsStatus greatest → IsGroupStatus (status_by greatest has_none)
group_status greatest has_none (inl is) = subst (λ (n : ℕ). IsGroupStatus (status_by n has_none)) (sym is) (by has_none)
  where
    by : (b : Bool) → IsGroupStatus (status_by 0 b)
    by true = inl refl
    by false = inr (inl refl)
group_status greatest has_none (inr (inl is)) = subst (λ (n : ℕ). IsGroupStatus (status_by n has_none)) (sym is) (inr (inr (inl refl)))
group_status greatest has_none (inr (inr (inl is))) = subst (λ (n : ℕ). IsGroupStatus (status_by n has_none)) (sym is) (inr (inr (inr (inl refl))))
group_status greatest has_none (inr (inr (inr is))) = subst (λ (n : ℕ). IsGroupStatus (status_by n has_none)) (sym is) (inr (inr (inr (inr refl))))
