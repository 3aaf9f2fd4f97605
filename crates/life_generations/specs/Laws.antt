-- The laws of later generations.
use Rattle.std.specs.Prelude.{◌≡◌, ◌↔◌, ℕ, ◌+◌, List}
use Rattle.life_base.specs.declared.cell.TheConstants.{MAX_LEVEL}
use Rattle.life_writer.specs.Texts.{IsCanonical}
use Rattle.life_pattern.specs.Universe.{Universe}
use Rattle.life_step.specs.Stepped.{IsStepped}
use Rattle.life_generations.specs.Later.{IsLaterBy, IsTextLater}

-- a file has one text n generations later
abbrev pub LaterTextsAreUnique : Type 0
LaterTextsAreUnique = (n : ℕ) (bytes a b : List ℕ) → IsTextLater n bytes a → IsTextLater n bytes b → a ≡ b

-- no generation later a file has its canonical text
abbrev pub NoGenerationIsCanonical : Type 0
NoGenerationIsCanonical = (bytes text : List ℕ) → IsTextLater 0 bytes text ↔ IsCanonical MAX_LEVEL bytes text

-- one generation later a file has the text of its step, wherever it can be stepped
abbrev pub OneGenerationIsStep : Type 0
OneGenerationIsStep = (bytes text : List ℕ) → IsStepped bytes text → IsTextLater 1 bytes text

-- n generations after m are m + n
abbrev pub LaterAdds : Type 0
LaterAdds = (m n : ℕ) (u v w : Universe) → IsLaterBy m u v → IsLaterBy n v w → IsLaterBy (m + n) u w
