-- The laws of files.
use Rattle.std.proofs.Common.{◌≡◌, ℕ, Bool, true, false, List, [], ◌∷◌, ◌++◌, Some, MatchBool, suc, ◌≤◌}
use Rattle.life_base.specs.declared.kind.Kind.{Kind}
use Rattle.life_base.proofs.Refusals.{one_refusal}
use Rattle.life_base.proofs.Basics.{some_same}
use Rattle.life_mc.specs.Reading.{broken_rule}
use Rattle.life_rle.specs.Grammar.{BreaksRle}
use Rattle.life_rle.proofs.FormatLaws.{broken_for_good}
use Rattle.life_pattern.specs.Files.{Accepts, is_macrocell, Breaks, missing_file_part}
use Rattle.life_pattern.specs.Laws.{BlankOutside, FaultsAreUnique, FilesAreOnPlane}
use Rattle.life_pattern.proofs.Formats.{reads-plane}

breaks-once : (top : ℕ) (prefix : List (List ℕ)) (line : List ℕ) (a b : Kind) → Breaks top prefix line a → Breaks top prefix line b → a ≡ b
breaks-once top prefix line a b = by (is_macrocell (prefix ++ line ∷ []))
  where
    by : (m : Bool) → MatchBool m (broken_rule top prefix line ≡ Some a) (BreaksRle top prefix line a)
        → MatchBool m (broken_rule top prefix line ≡ Some b) (BreaksRle top prefix line b) → a ≡ b
    by true p q = some_same a b (broken_rule top prefix line) p q
    by false p q = (broken_for_good top prefix line b q).1 a p

pub faults_are_unique : (top : ℕ) → FaultsAreUnique top
faults_are_unique top = λ lines a b p q. one_refusal (Accepts top) (Breaks top) missing_file_part (breaks-once top) lines a b p q

-- what a file says fits the plane
pub files_are_on_plane : (top : ℕ) → 3 ≤ suc top → FilesAreOnPlane (suc top)
files_are_on_plane top high = λ bytes u r. reads-plane top bytes u high r

pub blank_outside : (top : ℕ) → 3 ≤ suc top → BlankOutside (suc top)
blank_outside top high = λ bytes u r. (reads-plane top bytes u high r).outside
