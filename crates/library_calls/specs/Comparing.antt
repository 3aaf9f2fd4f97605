-- What the comparison of two files tells.
use Rattle.std.specs.Prelude.{◌≡◌, ◌⊎◌, ◌+◌, ◌<◌, ℕ, List, length}
use Rattle.life_base.specs.Kinds.{kind_number}
use Rattle.life_base.specs.Tree.{Tree}
use Rattle.life_base.specs.declared.cell.TheConstants.{MAX_LEVEL}
use Rattle.life_base.specs.declared.fault.Fault.{Fault}
use Rattle.life_pattern.specs.Files.{Accepted, Same, Refuses}
use Rattle.life_reader.specs.Space.{sufficient_for}
use Rattle.library_calls.specs.Texts.{NeedsMore, SomeToRead, IsLimitShortage}
pub use Rattle.library_calls.specs.declared.compared.Compared.{Compared}

-- the status and the numbers that are reported
abbrev pub comparison_of : (status is_same line : ℕ) → Compared
comparison_of status is_same line = record { status = status; is_same = is_same; line = line }

-- 1 where the files are one pattern, and 0 where they aren't
abbrev pub IsAnswerOf : List ℕ → List ℕ → ℕ → Type 0
IsAnswerOf first second is_same = ((is_same ≡ 1) × Same MAX_LEVEL first second) ⊎ ((is_same ≡ 0) × (¬ Same MAX_LEVEL first second))

-- a square that is needed to read one of the two files has a property
abbrev pub SomeToReadBoth : List ℕ → List ℕ → (Tree → Type 0) → Type 0
SomeToReadBoth first second P = SomeToRead first P ⊎ SomeToRead second P

-- the limit is too low to read the first file, or, where that is a file, to read both; and below the squares for both
abbrev pub IsTooLowForBoth : List ℕ → List ℕ → ℕ → Type 0
IsTooLowForBoth first second most =
    (NeedsMore (SomeToRead first) most ⊎ (Accepted MAX_LEVEL first × NeedsMore (SomeToReadBoth first second) most))
    × (most < sufficient_for (length first) + sufficient_for (length second))

-- why two files aren't compared: the first is none, or the second, or the store is full or memory is refused
abbrev pub RefusesEither : ℕ → List ℕ → List ℕ → Fault → Type 0
RefusesEither limit first second fault =
    Refuses MAX_LEVEL first fault ⊎ (Accepted MAX_LEVEL first × Refuses MAX_LEVEL second fault)
    ⊎ IsLimitShortage (IsTooLowForBoth first second) limit fault

-- both are files, and the answer is reported; or the fault that keeps it from being found
pub data ComparesWithin (limit : ℕ) (first second : List ℕ) (reported : Compared) : Type 0 where
  by_answer : reported.status ≡ 0 → reported.line ≡ 0 → Accepted MAX_LEVEL first → Accepted MAX_LEVEL second → IsAnswerOf first second reported.is_same
      → ComparesWithin limit first second reported
  by_fault : (fault : Fault) → reported.status ≡ kind_number fault.kind → reported.line ≡ fault.place.line → reported.is_same ≡ 0
      → RefusesEither limit first second fault → ComparesWithin limit first second reported
