-- What holds of every RLE file. The project's own.
use Rattle.std.specs.Prelude.{◌≡◌, ℕ, ◌^◌, ◌<◌, true, List}
use Rattle.life_base.specs.Rules.{IsRule}
use Rattle.life_rle.specs.Plane.{is_coordinate}
use Rattle.life_rle.specs.Pattern.{Rle}
use Rattle.life_rle.specs.Grammar.{IsRle}

-- its rule is one, its generation is below 2 ^ 64, and its corner lies in the plane
pub record IsValidRle (level : ℕ) (file : Rle) : Type 0 where
  pub rule : IsRule file.rule
  pub generation : file.position.generation < 2 ^ 64
  pub x : is_coordinate level file.position.x ≡ true
  pub y : is_coordinate level file.position.y ≡ true

abbrev pub RlesAreValid : Type 0
RlesAreValid = (level : ℕ) (lines : List (List ℕ)) (file : Rle) → IsRle level lines file → IsValidRle level file
