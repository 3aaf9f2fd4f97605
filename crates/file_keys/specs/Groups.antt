-- Groups of files with equal keys, and how the command `duplicates` prints them. The project's own; the form is that of `fdupes`.
use Rattle.std.specs.Prelude.{◌≡◌, ◌⊎◌, ◌↔◌, ◌<◌, ◌==◌, ℕ, Bool, true, false, not, nat_lt, List, [], ◌∷◌, ◌++◌, map, filter, flat_map, length, slice_get, Contains, Some, codes, if◌then◌else◌}
use Rattle.std.specs.Str.{bytes_eq}
use Rattle.life_base.specs.Text.{is_empty}
use Rattle.file_keys.specs.KeyRuns.{bytes_of_name, greatest_status, Processed}
use Rattle.file_keys.specs.Keys.{escaped_name, IsStatus}
use Rattle.file_keys.specs.declared.keys.outcome.Outcome.{Outcome}
use Rattle.file_keys.specs.declared.keys.outcome.Outcome.TheVariants.{Key, Refused, Unopened}

-- the key of a file, as a list; it is empty if the file has none
abbrev pub key_list : Outcome → List (List ℕ)
key_list (Key key) = key ∷ []
key_list (Refused fault) = []
key_list (Unopened kind) = []

-- the keys of the files that have one, in the order of the files
abbrev pub keys_in : List Processed → List (List ℕ)
keys_in processed = flat_map (λ (t : Processed). key_list t.outcome) processed

-- whether a file has this key
abbrev pub is_key : List ℕ → Outcome → Bool
is_key key (Key own) = bytes_eq key own
is_key key (Refused fault) = false
is_key key (Unopened kind) = false

abbrev pub has_key : List ℕ → Processed → Bool
has_key key t = is_key key t.outcome

-- the files with this key, in their order
abbrev pub files_with : List ℕ → List Processed → List Processed
files_with key processed = filter (has_key key) processed

-- each of these keys once, in the order in which they come first
abbrev pub distinct_keys : List (List ℕ) → List (List ℕ)
distinct_keys [] = []
distinct_keys (key ∷ keys) = key ∷ filter (λ (other : List ℕ). not (bytes_eq key other)) (distinct_keys keys)

-- more than one
abbrev pub has_several : {X : Type 0} → List X → Bool
has_several xs = nat_lt 1 (length xs)

-- The groups: for each key that more than one file has, all files with it, in their order. They are in the order of their first files.
abbrev pub groups_of : List Processed → List (List Processed)
groups_of processed = filter has_several (map (λ (key : List ℕ). files_with key processed) (distinct_keys (keys_in processed)))

-- the name of a file that was processed
abbrev pub name_bytes : Processed → List ℕ
name_bytes t = bytes_of_name t.name

-- the names in each group
abbrev pub group_names : List Processed → List (List (List ℕ))
group_names processed = map (map name_bytes) (groups_of processed)

-- the names that are printed: those of each group, and an empty one between two groups
abbrev pub printed_names : List (List (List ℕ)) → List (List ℕ)
printed_names [] = []
printed_names (group ∷ groups) = group ++ flat_map (λ (next : List (List ℕ)). [] ∷ next) groups

-- a printed name: escaped, and it ends in LF; or, with --zero, as it is, and it ends in NUL
abbrev pub ended_name : Bool → List ℕ → List ℕ
ended_name false name = escaped_name name ++ codes "\n"
ended_name true name = name ++ 0 ∷ []

-- the text of names, one after another
abbrev pub names_text : Bool → List (List ℕ) → List ℕ
names_text zero names = flat_map (ended_name zero) names

-- the text of the groups
abbrev pub groups_text : Bool → List (List (List ℕ)) → List ℕ
groups_text zero groups = names_text zero (printed_names groups)

-- the status of a run by the greatest one of a file: that, or if it is 0, whether there is no group
abbrev pub status_by : ℕ → Bool → ℕ
status_by greatest has_none = if greatest == 0 then (if has_none then 1 else 0) else greatest

-- the status of a run whose groups were printed: the greatest one of a file, or else 0 if there is a group and 1 if there is none
abbrev pub printed_status : List Processed → ℕ
printed_status processed = status_by (greatest_status processed) (is_empty (groups_of processed))

-- a status of the command: no two files have one key, or it is one of `keys`
abbrev pub IsGroupStatus : ℕ → Type 0
IsGroupStatus status = (status ≡ 1) ⊎ IsStatus status

-- both files have a key, and it is the same
abbrev pub HaveOneKey : Processed → Processed → Type 0
HaveOneKey s t = (key : List ℕ) × (s.outcome ≡ Key key) × (t.outcome ≡ Key key)

-- there is a group with both files
abbrev pub AreInOneGroup : List Processed → Processed → Processed → Type 0
AreInOneGroup processed s t = (group : List Processed) × Contains (groups_of processed) group × Contains group s × Contains group t

-- what the groups of files are, by their keys alone
pub record AreByKey (processed : List Processed) : Type 0 where
  -- two files of a run are in one group exactly if both have a key and the keys are equal
  pub together : (i j : ℕ) (s t : Processed) → i < j → slice_get processed i ≡ Some s → slice_get processed j ≡ Some t
      → AreInOneGroup processed s t ↔ HaveOneKey s t
  -- a group has two files or more
  pub several : (group : List Processed) → Contains (groups_of processed) group → 1 < length group
  -- it is all files with some key, in their order
  pub whole : (group : List Processed) → Contains (groups_of processed) group → (key : List ℕ) × (group ≡ files_with key processed)
  -- no file is in two groups
  pub apart : (a b : ℕ) (group other : List Processed) (t : Processed) → slice_get (groups_of processed) a ≡ Some group
      → slice_get (groups_of processed) b ≡ Some other → Contains group t → Contains other t → a ≡ b

-- this holds of all files that a run can take
abbrev pub GroupsAreByKey : Type 0
GroupsAreByKey = (processed : List Processed) → AreByKey processed
