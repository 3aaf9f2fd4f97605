-- What holds of each macrocell file.
use Rattle.std.specs.Prelude.{◌≡◌, ℕ, ◌-◌, ◌^◌, ◌⊎◌, List, drop, count_by, ℤ, pos, neg_ℤ, ◌≤ℤ◌, ◌<ℤ◌}
use Rattle.life_base.specs.Text.{lines_of}
use Rattle.life_mc.specs.Macrocell.{Macrocell, IsValidMacrocell}
use Rattle.life_mc.specs.Cells.{macrocell_cell, node_lines}
use Rattle.life_mc.specs.Reading.{AreMacrocell, IsMacrocell, is_node_line}

-- what the bytes of a file say is valid
abbrev pub MacrocellsAreValid : ℕ → Type 0
MacrocellsAreValid top = (bytes : List ℕ) (file : Macrocell) → IsMacrocell top bytes file → IsValidMacrocell top file

-- what the lines of a file say is valid
abbrev pub LinesAreValid : ℕ → Type 0
LinesAreValid top = (lines : List (List ℕ)) (file : Macrocell) → AreMacrocell top lines file → IsValidMacrocell top file

-- the first coordinate east and south of the plane, which is 2 ^ top cells wide and high
abbrev pub macrocell_plane_end : ℕ → ℤ
macrocell_plane_end top = pos (2 ^ (top - 1))

-- a cell lies outside the plane
abbrev pub IsOutsideMacrocellPlane : ℕ → ℤ → ℤ → Type 0
IsOutsideMacrocellPlane top x y = (x <ℤ neg_ℤ (macrocell_plane_end top)) ⊎ (macrocell_plane_end top ≤ℤ x) ⊎ (y <ℤ neg_ℤ (macrocell_plane_end top))
    ⊎ (macrocell_plane_end top ≤ℤ y)

-- every cell outside the plane has state 0
abbrev pub MacrocellsAreBlankOutside : ℕ → Type 0
MacrocellsAreBlankOutside top = (file : Macrocell) (x y : ℤ) → IsValidMacrocell top file → IsOutsideMacrocellPlane top x y → macrocell_cell file x y ≡ 0

-- each node line after the header counts, whether the root reaches its square or not
abbrev pub NodeLinesCounted : ℕ → Type 0
NodeLinesCounted top = (bytes : List ℕ) (file : Macrocell) → IsMacrocell top bytes file → node_lines file ≡ count_by is_node_line (drop 1 (lines_of bytes))
