-- Laws over the definitions alone.
use Rattle.std.specs.Prelude.{◌≡◌, ℕ, List, length, ◌↔◌, Ok, Err}
use Rattle.life_base.specs.Text.{lines_of}
use Rattle.life_base.specs.declared.fault.Fault.{Fault}
use Rattle.claims.specs.Table.{Table, table_of, claimed_decision}
use Rattle.life_table.specs.Meaning.{Answer, Decides}
use Rattle.life_table.specs.Reading.{AreTable, RefusesTable}
use Rattle.life_table.specs.Valid.{neighbour_count}
use Rattle.life_table.specs.declared.table.Table.{Table as LayerTable}
use Rattle.claims.specs.Tables.{IsTable, answer_in}

-- what a table decides for a cell and its neighbours is what the layer says that it decides
abbrev pub TablesDecide : Type 0
TablesDecide = (layer : LayerTable) (table : Table) → IsTable layer table → (centre : ℕ) (others : List ℕ) →
    length others ≡ neighbour_count layer.neighborhood → (answer : Answer) →
    Decides layer.symmetry layer.vars centre others layer.lines answer ↔ (claimed_decision table centre others table.transitions ≡ answer_in answer)

-- a rule file that is a table's in the layer says that table, and one that says a table is a table's there
abbrev pub TablesRead : Type 0
TablesRead = (bytes : List ℕ) →
    ((layer : LayerTable) → AreTable (lines_of bytes) layer → (table : Table) × (table_of bytes ≡ Ok table) × IsTable layer table)
    × ((table : Table) → table_of bytes ≡ Ok table → (layer : LayerTable) × AreTable (lines_of bytes) layer × IsTable layer table)

-- a rule file is refused at the line and with the kind with which the layer refuses it
abbrev pub TablesRefuse : Type 0
TablesRefuse = (bytes : List ℕ) (fault : Fault) → RefusesTable (lines_of bytes) fault ↔ (table_of bytes ≡ Err fault)
