-- Short items of a line: cells whose count has at most one digit.
use Rattle.std.specs.Prelude.{◌≡◌, ℕ, ◌+◌, ◌-◌, ◌*◌, ◌≤◌, ◌<◌, ◌&&◌, nat_le, if◌then◌else◌, List, Some, length, drop, pos, ◌+ℤ◌, ◌≤ℤ◌}
use Rattle.std.specs.Str.{byte}
use Rattle.life_base.specs.declared.cell.Run.{Run}
use Rattle.life_base.specs.declared.rule.Rule.{Rule}
use Rattle.life_rle.specs.declared.cursor.Cursor.{Cursor}
use Rattle.life_rle.specs.declared.item.Item.TheVariants.{Cells}
use Rattle.life_rle.specs.Items.{Spelled, next_of}
use Rattle.life_rle.specs.Cursor.{IsNear, row_limit}
use Rattle.life_rle.specs.States.{leading_state}
use Rattle.life_rle.specs.Reader.{ReadsItems}

-- the count of a short item that begins with this byte: that of a digit `1` to `9`, and 1 without a digit
abbrev pub short_count : ℕ → ℕ
short_count b = if nat_le (byte "1") b && nat_le b (byte "9") then b - byte "0" else 1

-- how many digits a short item has that begins with this byte
abbrev pub short_digits : ℕ → ℕ
short_digits b = if nat_le (byte "1") b && nat_le b (byte "9") then 1 else 0

-- a state at `last` ends an item that begins at the place, with this count
pub record IsShortItem (level : ℕ) (line : List ℕ) (at count last : ℕ) : Type 0 where
  pub inside : (at ≤ last) × (last ≤ at + 1)
  pub few : count ≤ 9
  pub spelled : (state : ℕ) (rest : List ℕ) → leading_state (drop last line) ≡ Some (state, rest)
      → next_of level (drop at line) ≡ Spelled (Cells count state) rest

-- a state is at a place of the line, and ends at another
pub record IsStateAt (line : List ℕ) (place state behind : ℕ) : Type 0 where
  pub inside : (place < behind) × (behind ≤ place + 2)
  pub small : state ≤ 255
  pub read : leading_state (drop place line) ≡ Some (state, drop behind line)

-- cells of this count and state are an item at a place of the line, which ends at another
pub record AreShortCells (level : ℕ) (line : List ℕ) (at count state behind : ℕ) : Type 0 where
  pub inside : (at < behind) × (behind ≤ at + 3)
  pub few : count ≤ 9
  pub small : state ≤ 255
  pub read : next_of level (drop at line) ≡ Spelled (Cells count state) (drop behind line)

-- from here on the row has space for nine cells at each byte of the line
pub record RowHasSpace (level : ℕ) (line : List ℕ) (at : ℕ) (here : Cursor) : Type 0 where
  pub near : IsNear level here
  pub space : (here.x +ℤ pos (9 * (length line - at))) ≤ℤ row_limit level here.y

-- whatever was read up to a place of the line is read up to another one, with more runs
abbrev pub ReadsOn : ℕ → Rule → List ℕ → ℕ → Cursor → List Run → ℕ → Cursor → List Run → Type 0
ReadsOn level rule line at here found behind there more =
    (from : Cursor) (before : List Run) → ReadsItems level rule from line (next_of level (drop at line)) here before found
    → ReadsItems level rule from line (next_of level (drop behind line)) there before more

-- an item of dead cells at most was passed
pub record PassesDead (level : ℕ) (line : List ℕ) (at : ℕ) (here : Cursor) (behind : ℕ) (there : Cursor) : Type 0 where
  pub inside : (at ≤ behind) × (behind ≤ at + 2)
  pub row : there.y ≡ here.y
  pub space : RowHasSpace level line behind there
  pub read : (rule : Rule) (found : List Run) → ReadsOn level rule line at here found behind there found
