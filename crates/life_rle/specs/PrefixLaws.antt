-- What the prefixes of RLE files are, and which rule their first line and a line that is too long break.
use Rattle.std.specs.Prelude.{◌≡◌, ◌↔◌, ◌⊎◌, ℕ, true, false, List, [], ◌∷◌, ◌++◌, codes, if◌then◌else◌}
use Rattle.life_base.specs.declared.kind.Kind.{Kind}
use Rattle.life_base.specs.declared.kind.Kind.TheVariants.{LineTooLong, NoHeader}
use Rattle.life_base.specs.Refusal.{Prefix}
use Rattle.life_base.specs.Text.{begins_with, is_too_long}
use Rattle.life_rle.specs.Pattern.{Rle}
use Rattle.life_rle.specs.Grammar.{IsMarked, IsUnmarked, IsSomeRle, BreaksRle}
use Rattle.life_rle.specs.Decided.{LacksHeader}

-- after `!` any lines may follow: the file stays as it is, and none of them breaks a rule
abbrev pub LinesAfterMarkAreFree : Type 0
LinesAfterMarkAreFree =
    (level : ℕ) (lines more : List (List ℕ)) (file : Rle) → IsMarked level lines file
    → IsMarked level (lines ++ more) file × ((line : List ℕ) (kind : Kind) → BreaksRle level (lines ++ more) line kind → ⊥)

-- no lines are a file with `!` and one without
abbrev pub IsMarkDecided : Type 0
IsMarkDecided = (level : ℕ) (lines : List (List ℕ)) (file other : Rle) → IsUnmarked level lines file → IsMarked level lines other → ⊥

-- a prefix of a prefix is a prefix
abbrev pub PrefixesOfPrefixes : Type 0
PrefixesOfPrefixes = (level : ℕ) (lines more : List (List ℕ)) → Prefix (IsSomeRle level) (lines ++ more) → Prefix (IsSomeRle level) lines

-- a prefix is a file, with `!` or without, or lacks its header
abbrev pub RlePrefixesAreFiles : Type 0
RlePrefixesAreFiles = (level : ℕ) (lines : List (List ℕ)) → Prefix (IsSomeRle level) lines ↔ (IsSomeRle level lines ⊎ LacksHeader level lines)

-- a prefix doesn't begin with the first line of a macrocell file
abbrev pub BeginsAsRle : Type 0
BeginsAsRle =
    (level : ℕ) (line : List ℕ) (lines : List (List ℕ)) → Prefix (IsSomeRle level) (line ∷ lines) → begins_with line (codes "[M2]") ≡ false

-- which rule such a line breaks as the first
abbrev pub MacrocellLineBreaks : Type 0
MacrocellLineBreaks =
    (level : ℕ) (line : List ℕ) → begins_with line (codes "[M2]") ≡ true → BreaksRle level [] line (if is_too_long line then LineTooLong else NoHeader)

-- LineTooLong is the kind of lines that are too long alone, and after a prefix without `!` it is the only one that they break.
abbrev pub LongRleLinesBreak : Type 0
LongRleLinesBreak =
    (level : ℕ) (prefix : List (List ℕ)) (line : List ℕ)
    → (BreaksRle level prefix line LineTooLong → is_too_long line ≡ true)
    × (is_too_long line ≡ true → Prefix (IsSomeRle level) prefix → ((file : Rle) → IsMarked level prefix file → ⊥)
    → (kind : Kind) → BreaksRle level prefix line kind ↔ (kind ≡ LineTooLong))
