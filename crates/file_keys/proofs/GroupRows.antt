-- The definitions of the command `duplicates` at worked examples, by computation.
use Rattle.std.proofs.Common.{◌≡◌, List, [], ◌∷◌, ◌++◌, true, false, refl, codes}
use Rattle.std.specs.declared.io.ErrorKind.TheVariants as io
use Rattle.life_base.specs.Refusal.{fault_of}
use Rattle.life_base.specs.declared.kind.Kind.TheVariants.{Full}
use Rattle.file_keys.specs.Groups.{distinct_keys, group_names, groups_text, keys_in, printed_status}
use Rattle.file_keys.specs.KeyRuns.{Listed, Processed, Word}
use Rattle.file_keys.specs.Keys.{without_advice}
use Rattle.file_keys.specs.declared.keys.outcome.Outcome.TheVariants.{Key, Refused, Unopened}

-- two files with the key 1 171, two with the key 16, one with the key 7, and one that was refused
abbrev processed : List Processed
processed = record { name = Word (codes "a"); outcome = Key (1 ∷ 171 ∷ []) } ∷ record { name = Word (codes "b"); outcome = Key (16 ∷ []) }
    ∷ record { name = Word (codes "bad"); outcome = Refused (without_advice (fault_of Full)) } ∷ record { name = Word (codes "c"); outcome = Key (7 ∷ []) }
    ∷ record { name = Listed (codes "d\ne"); outcome = Key (16 ∷ []) } ∷ record { name = Listed (codes "a"); outcome = Key (1 ∷ 171 ∷ []) } ∷ []

keys : distinct_keys (keys_in processed) ≡ (1 ∷ 171 ∷ []) ∷ (16 ∷ []) ∷ (7 ∷ []) ∷ []
keys = refl

-- a name that is given twice is in its group twice, and a file that is alone is in none
names : group_names processed ≡ (codes "a" ∷ codes "a" ∷ []) ∷ (codes "b" ∷ codes "d\ne" ∷ []) ∷ []
names = refl

lines : groups_text false (group_names processed) ≡ codes "a\na\n\nb\nd\\ne\n"
lines = refl

zeros : groups_text true (group_names processed) ≡ codes "a" ++ (0 ∷ codes "a") ++ (0 ∷ 0 ∷ codes "b") ++ (0 ∷ codes "d\ne") ++ 0 ∷ []
zeros = refl

nothing : groups_text false [] ≡ []
nothing = refl

-- a file that was refused decides the status, before that there is a group
refused : printed_status processed ≡ 4
refused = refl

abbrev pair : List Processed
pair = record { name = Word (codes "a"); outcome = Key (1 ∷ []) } ∷ record { name = Word (codes "b"); outcome = Key (1 ∷ []) } ∷ []

found : printed_status pair ≡ 0
found = refl

-- keys that begin alike are different
abbrev different : List Processed
different = record { name = Word (codes "a"); outcome = Key (1 ∷ 2 ∷ []) } ∷ record { name = Word (codes "b"); outcome = Key (1 ∷ 3 ∷ []) } ∷ []

apart : group_names different ≡ []
apart = refl

none : printed_status different ≡ 1
none = refl

unopened : printed_status (record { name = Word (codes "x"); outcome = Unopened io.NotFound } ∷ pair) ≡ 3
unopened = refl
