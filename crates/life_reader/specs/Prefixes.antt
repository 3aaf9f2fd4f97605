-- What the lines and the pieces of a file leave in a reader and in the store that is lent to it.
use Rattle.std.specs.Prelude.{◌≡◌, ◌⊎◌, ℕ, ◌+◌, ◌-◌, ◌^◌, min, List, [], ◌∷◌, ◌++◌, Result, IfErr, OnOk}
use Rattle.life_base.specs.declared.cell.TheConstants.{MAX_LEVEL}
use Rattle.life_base.specs.declared.fault.Fault.{Fault}
use Rattle.life_quad.specs.Store.{Nodes}
use Rattle.life_reader.specs.Calls.{StoresLines}
use Rattle.life_pattern.specs.Store.{IsKnown, IsShortageOf, content}
use Rattle.life_reader.specs.Taking.{IsFilePrefixOf, IsLineFault, IsOpen, StandsFor, bytes_of, consumed_lines}
use Rattle.life_reader.specs.declared.progress.Progress.{Progress}
use Rattle.life_reader.specs.declared.prefix.FilePrefix.{FilePrefix}

-- lines that can be continued to a file, with their squares in the store
pub record IsOpenIn (store : Nodes) (progress : Progress) : Type 0 where
  pub begun : IsOpen progress
  pub stands : StandsFor (IsKnown store) (content store) progress

-- a prefix of a file, with its squares in the store
pub record IsFilePrefixIn (store : Nodes) (prefix : FilePrefix) : Type 0 where
  pub is : IsFilePrefixOf prefix
  pub stands : StandsFor (IsKnown store) (content store) prefix.progress

-- the line was taken after so many others, and counted
pub record HasConsumedLine (line : List ℕ) (store : Nodes) (before : Progress) (ended : ℕ) (after : Progress) (now_ended : ℕ) : Type 0 where
  pub lines : consumed_lines after ≡ consumed_lines before ++ line ∷ []
  pub progress : IsOpenIn store after
  pub count : now_ended ≡ min (ended + 1) (2 ^ 64 - 1)

-- a call that takes a line, by what it changes of a prefix
pub record TakesLineOf {A : Type 0} (line : List ℕ) (old new : Nodes) (before : Progress) (ended : ℕ) (after : Progress) (now_ended : ℕ)
    (result : Result A Fault) : Type 0 where
  pub line_consumed : OnOk result (HasConsumedLine line new before ended after now_ended)
  pub fault : IfErr result (λ fault. IsShortageOf new fault ⊎ IsLineFault MAX_LEVEL (consumed_lines before) line ended fault)
  pub stores : StoresLines (consumed_lines before ++ line ∷ []) old new result

-- the same by the prefixes before and after
abbrev pub TakesLine : {A : Type 0} → List ℕ → Nodes → Nodes → FilePrefix → FilePrefix → Result A Fault → Type 0
TakesLine line old new before after result = TakesLineOf line old new before.progress before.ended after.progress after.ended result

-- the bytes came after those before
pub record HasBytes (bytes : List ℕ) (store : Nodes) (before after : FilePrefix) : Type 0 where
  pub prefix : IsFilePrefixIn store after
  pub came : bytes_of after.pieces.lines ≡ bytes_of before.pieces.lines ++ bytes
