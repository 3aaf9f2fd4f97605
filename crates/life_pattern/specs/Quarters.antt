-- The quarters of a square.
use Rattle.life_base.specs.Tree.{Tree, point, quad}

-- the quarters in the north-west, north-east, south-west and south-east; a cell is its own quarter
abbrev pub quarters_of : Tree → Tree × Tree × Tree × Tree
quarters_of (point state) = (point state, point state, point state, point state)
quarters_of (quad nw ne sw se) = (nw, ne, sw, se)

-- what holds of each of the four quarters
pub record Quarters (P : Tree → Type 0) (t : Tree) : Type 0 where
  pub nw : P (quarters_of t).0
  pub ne : P (quarters_of t).1
  pub sw : P (quarters_of t).2
  pub se : P (quarters_of t).3
