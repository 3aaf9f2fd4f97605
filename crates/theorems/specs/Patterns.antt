-- Which patterns files say.
use Rattle.std.specs.Prelude.{◌≡◌, ◌^◌, ◌<◌, ◌≤◌, ℕ, ℤ, false, ◌&&◌, List, Ok}
use Rattle.claims.specs.Rules.{claimed_rule_of, claimed_rule_text, claimed_largest_state}
use Rattle.claims.specs.Pattern.{Pattern, is_claimed_coordinate}
use Rattle.claims.specs.Files.{pattern_of}
use Rattle.claims.specs.Canonical.{IsTextOfPattern}
use Rattle.claims.specs.RleText.{IsRleOfPattern}

-- the rule is that of its own text, the generation is below 2 ^ 64, the states are those of the rule, and cells outside the plane have state 0
pub record FitsFormats (pattern : Pattern) : Type 0 where
  pub rule : claimed_rule_of (claimed_rule_text pattern.rule) ≡ Ok pattern.rule
  pub generation : pattern.generation < 2 ^ 64
  pub states : (x y : ℤ) → pattern.cell x y ≤ claimed_largest_state pattern.rule
  pub outside : (x y : ℤ) → (is_claimed_coordinate x && is_claimed_coordinate y) ≡ false → pattern.cell x y ≡ 0

-- the bytes are a file of this pattern
pub record IsFileOf (pattern : Pattern) (bytes : List ℕ) : Type 0 where
  pub said : Pattern
  pub is : pattern_of bytes ≡ Ok said
  pub rule : said.rule ≡ pattern.rule
  pub generation : said.generation ≡ pattern.generation
  pub cells : (x y : ℤ) → said.cell x y ≡ pattern.cell x y

-- the bytes are a file, and the text is the canonical text of its pattern
abbrev pub IsTextOfFile : (file text : List ℕ) → Type 0
IsTextOfFile file text = (pattern : Pattern) × (pattern_of file ≡ Ok pattern) × IsTextOfPattern pattern text

-- the bytes are a file, and the text is that of its pattern in extended RLE
abbrev pub IsRleOfFile : (file text : List ℕ) → Type 0
IsRleOfFile file text = (pattern : Pattern) × (pattern_of file ≡ Ok pattern) × IsRleOfPattern pattern text

-- each pattern that fits is that of some file
abbrev pub PatternsHaveFiles : Type 0
PatternsHaveFiles = (pattern : Pattern) → FitsFormats pattern → (bytes : List ℕ) × IsFileOf pattern bytes

-- and the pattern of each file fits
abbrev pub PatternsOfFilesFit : Type 0
PatternsOfFilesFit = (bytes : List ℕ) (pattern : Pattern) → pattern_of bytes ≡ Ok pattern → FitsFormats pattern
