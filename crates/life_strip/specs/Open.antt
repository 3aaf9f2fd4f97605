-- The blocks of a row while runs are put into it.
use Rattle.std.specs.Prelude.{◌≡◌, ◌<◌, ◌*◌, List, [], ◌∷◌, ◌++◌, pos, ◌+ℤ◌}
use Rattle.std.specs.Vec.{vec_len, vec_capacity}
use Rattle.life_strip.specs.declared.blocks.Block.{Block}
use Rattle.life_strip.specs.declared.open_blocks.OpenBlocks.{OpenBlocks}
use Rattle.life_strip.specs.Blocks.{AreRowBlocks}
use Rattle.life_strip.specs.Given.{half_plane}

-- all blocks of the row
abbrev pub blocks_of : OpenBlocks → List Block
blocks_of row = row.blocks.items ++ row.last ∷ []

-- The blocks are those of a row, the last one begins at the coordinate that is kept, and there is capacity for it.
pub record AreOpen (row : OpenBlocks) : Type 0 where
  pub blocks : AreRowBlocks (blocks_of row)
  pub west : row.west +ℤ pos half_plane ≡ pos (64 * row.last.start)
  pub space : vec_len row.blocks < vec_capacity row.blocks
