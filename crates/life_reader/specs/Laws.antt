-- The laws of files that come in pieces, and of inputs that are too long.
use Rattle.std.specs.Prelude.{ℕ, ◌≤◌, List, ◌++◌, length, take, Option, Some}
use Rattle.life_base.specs.Inputs.{ReadAll, CameBeyond}
use Rattle.life_base.specs.Lines.{whole_lines}
use Rattle.life_base.specs.declared.fault.Fault.{Fault}
use Rattle.life_pattern.specs.Files.{Refuses}
use Rattle.life_reader.specs.Feeding.{Fed, KeepsIdsOf, RefusesPrefix, Stands}
use Rattle.life_quad.specs.Store.{Nodes}

-- while each Id that a reader keeps names the square that it named, the reader stands in the store, whatever became of the others
abbrev pub ReadersStand : Type 0
ReadersStand = (old new : Nodes) (fed : Fed) → KeepsIdsOf fed old new → Stands old fed → Stands new fed

-- A fault that can be reported of bytes is the fault of every longer input: it can be reported of these bytes with any others after them.
abbrev pub FaultsStay : ℕ → Type 0
FaultsStay top = (bytes more : List ℕ) (fault : Fault) → RefusesPrefix top bytes fault → RefusesPrefix top (bytes ++ more) fault

-- An input of which more bytes came than may be read stays too long, whatever bytes follow: none that begins so is read to its end.
abbrev pub LengthsStay : Type 0
LengthsStay =
    (most : ℕ) (input more : List ℕ) (after later : Option (List ℕ)) (bytes : List ℕ) → CameBeyond most (Some input) after
    → ReadAll most (Some (input ++ more)) later bytes → ⊥

-- What the first bytes of an input, as many as may be read, say of its fault: a fault that can be reported of them is the fault of the whole, and that
-- of the whole, where its line ends in them, can be reported of them.
pub record IsReportedWithin (top most : ℕ) (input : List ℕ) (fault : Fault) : Type 0 where
  pub stays : RefusesPrefix top (take most input) fault → Refuses top input fault
  pub reported : (refuses : Refuses top input fault) → refuses.n ≤ length (whole_lines (take most input)) → RefusesPrefix top (take most input) fault

-- the length of an input hides no fault of a line that ended before: its first bytes, as many as may be read, have that fault
abbrev pub LengthHidesNoFault : ℕ → Type 0
LengthHidesNoFault top = (most : ℕ) (input : List ℕ) (fault : Fault) → IsReportedWithin top most input fault
