-- What a call leaves in the store that reads an input to its end.
use Rattle.std.specs.Prelude.{ℕ, List}
use Rattle.life_base.specs.DeviceRuns.{SourceRun}
use Rattle.life_base.specs.Inputs.{ReadAll}
use Rattle.life_base.specs.declared.cell.TheConstants.{MAX_LEVEL}
use Rattle.life_quad.specs.Store.{Nodes}
use Rattle.life_reader.specs.Space.{AddsFile}
use Rattle.life_pattern.specs.Store.{IsRead}
use Rattle.life_pattern.specs.declared.pattern.Pattern.{Pattern}

-- all was read, the pattern in the store is what was read, and no square was stored but such as that file needs
pub record ReadsWhole (most : ℕ) (old new : Nodes) (source : SourceRun) (pattern : Pattern) : Type 0 where
  pub bytes : List ℕ
  pub read : ReadAll most source.before source.after bytes
  pub is : IsRead MAX_LEVEL bytes new pattern
  pub adds : AddsFile bytes old new
