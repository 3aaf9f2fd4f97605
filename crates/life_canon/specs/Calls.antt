-- What a call leaves in a store into which it reads two files.
use Rattle.std.specs.Prelude.{◌≡◌, ◌⊎◌, ℕ, ◌+◌, ◌<◌, List, length, Result, Err, OnOk}
use Rattle.life_base.specs.Refusal.{fault_of}
use Rattle.life_base.specs.Text.{lines_of}
use Rattle.life_base.specs.declared.cell.TheConstants.{MAX_LEVEL}
use Rattle.life_base.specs.declared.fault.Fault.{Fault}
use Rattle.life_base.specs.declared.kind.Kind.TheVariants.{Full}
use Rattle.life_quad.specs.Keeping.{AddsOnly}
use Rattle.life_quad.specs.Store.{Nodes, stored_squares}
use Rattle.life_pattern.specs.Files.{Accepted}
use Rattle.life_reader.specs.Needs.{LacksFor, SomeOfFile}
use Rattle.life_reader.specs.Space.{HoldsFile, sufficient_for}
use Rattle.life_pattern.specs.Store.{Keeps}

-- a call that reads two files, one after the other
pub record ReadsBothInto {A : Type 0} (first second : List ℕ) (old new : Nodes) (result : Result A Fault) : Type 0 where
  pub all : OnOk result (HoldsFile first (stored_squares new) × HoldsFile second (stored_squares new))
  pub needed : result ≡ Err (fault_of Full) → LacksFor MAX_LEVEL first new ⊎ (Accepted MAX_LEVEL first × LacksFor MAX_LEVEL second new)
  pub adds : AddsOnly stored_squares (λ P. SomeOfFile MAX_LEVEL P (lines_of first) ⊎ SomeOfFile MAX_LEVEL P (lines_of second)) old new
  pub space : result ≡ Err (fault_of Full) → old.limit < length (stored_squares old) + (sufficient_for (length first) + sufficient_for (length second))
  pub keeps : Keeps old new
