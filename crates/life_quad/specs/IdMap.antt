-- Values kept at the numbers of Ids.
use Rattle.std.specs.Prelude.{◌≡◌, ◌≢◌, ◌<◌, ◌⊎◌, length, slice_index_or, Result, OnOk, OnErr, IfErr}
use Rattle.life_base.specs.Refusal.{IsMemory}
use Rattle.life_base.specs.declared.kind.Kind.{Kind}
use Rattle.life_quad.specs.declared.id.Id.{Id}
use Rattle.life_quad.specs.Pages.{Pages, index_in}

-- the value of an Id
abbrev pub value_of_id : {X : Type 0} → Pages X → Id → X
value_of_id pages q = slice_index_or pages.values (index_in pages.starts q.0) pages.absent

-- whether the page of an Id was made
abbrev pub HasPage : {X : Type 0} → Pages X → Id → Type 0
HasPage pages q = index_in pages.starts q.0 < length pages.values

-- The value of an Id is set and no other is changed. A refusal, by `Memory` alone, leaves each value as it was.
pub record SetsValue {X A : Type 0} (old new : Pages X) (id : Id) (value : X) (r : Result A Kind) : Type 0 where
  pub only : (q : Id) → (value_of_id new q ≡ value_of_id old q) ⊎ ((q ≡ id) × (value_of_id new q ≡ value))
  pub set : OnOk r (value_of_id new id ≡ value)
  pub others : (q : Id) → q ≢ id → value_of_id new q ≡ value_of_id old q
  pub same : OnErr r ((q : Id) → value_of_id new q ≡ value_of_id old q)
  pub refusals : IfErr r IsMemory
