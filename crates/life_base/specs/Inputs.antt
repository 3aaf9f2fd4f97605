-- What was read of a source, where it tells its bytes (of another source these say nothing). The project's own.
use Rattle.std.specs.Prelude.{◌<◌, ◌≤◌, ℕ, List, Option, length}
use Rattle.std.specs.Io.KnownBytes.{Consumes, IsAtEnd}

-- these bytes were read, they were all, and at most `most`
pub record ReadAll (most : ℕ) (old new : Option (List ℕ)) (bytes : List ℕ) : Type 0 where
  pub consumed : Consumes old new bytes
  pub ended : IsAtEnd new
  pub within : length bytes ≤ most

-- more than `most` bytes came
pub record CameBeyond (most : ℕ) (old new : Option (List ℕ)) : Type 0 where
  pub bytes : List ℕ
  pub consumed : Consumes old new bytes
  pub long : most < length bytes
