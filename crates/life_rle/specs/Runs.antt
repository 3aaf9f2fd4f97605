-- The runs of an RLE file: its items of nonzero state. The project's own; the texts of states are of Golly Help (File Formats, Extended RLE
-- format).
use Rattle.std.specs.Prelude.{ℕ, Bool, ◌==◌, ◌||◌, ◌&&◌, nat_le, zero, suc, List, [], ◌∷◌, ℤ}
use Rattle.std.specs.Str.{byte}
use Rattle.life_base.specs.declared.cell.Run.{Run}
use Rattle.life_rle.specs.declared.item.Item.{Item}
use Rattle.life_rle.specs.declared.item.Item.TheVariants.{Cells, RowEnds}
use Rattle.life_rle.specs.Pattern.{PlacedItem}

-- the run of an item, if its state is nonzero, before runs
abbrev pub with_run : ℤ → ℤ → Item → List Run → List Run
with_run row column (Cells count zero) runs = runs
with_run row column (Cells count (suc n)) runs = record { x = column; y = row; len = count; state = suc n } ∷ runs
with_run row column (RowEnds count) runs = runs

-- one run for each item of nonzero state, at its row and first column
abbrev pub runs_of : List PlacedItem → List Run
runs_of [] = []
runs_of (p ∷ ps) = with_run p.row p.column p.item (runs_of ps)

-- the last byte of the text of a nonzero state: `o`, or `A` to `X`
abbrev pub is_run_end : ℕ → Bool
is_run_end b = b == byte "o" || (nat_le (byte "A") b && nat_le b (byte "X"))
