-- What a memory of neighbourhoods recalls.
use Rattle.std.specs.Prelude.{◌<◌, ℕ, List, map, Contains}
use Rattle.life_quad.specs.declared.id.Id.{Id}
use Rattle.life_quad.specs.declared.memory.Slot.{Slot}

-- the number of an Id
abbrev pub number_of_id : Id → ℕ
number_of_id id = id.0

-- a slot holds an answer, and it is this one
pub record SlotHolds (slots : List Slot) (slot : Slot) : Type 0 where
  pub some : 0 < slot.answer
  pub here : Contains slots slot

-- the answer for these squares
abbrev pub Recalls : List Slot → List Id → Id → Type 0
Recalls slots ids answer = SlotHolds slots (record { around = map number_of_id ids; answer = number_of_id answer })
