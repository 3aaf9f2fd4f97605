-- Runs of a file that are put into a store row by row.
use Rattle.std.specs.Prelude.{List}
use Rattle.life_base.specs.Tree.{Tree}
use Rattle.life_base.specs.declared.cell.Run.{Run}
use Rattle.life_quad.specs.declared.id.Id.{Id}
use Rattle.life_strip.specs.Filling.{Building, IsFilling}

-- a builder was given such runs, and the store knows what it keeps
pub record IsBuilt (knows : Id → Type 0) (content : Id → Tree) (Runs : List Run → Type 0) (builder : Building) : Type 0 where
  pub are : Runs builder.runs
  pub filling : IsFilling knows content builder
