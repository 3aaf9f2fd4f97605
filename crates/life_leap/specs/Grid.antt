-- Squares of one level side by side, as pieces of a plane of cells.
use Rattle.std.specs.Prelude.{◌≡◌, ℕ, ◌+◌, ◌-◌, ◌^◌, ℤ}
use Rattle.life_base.specs.Tree.{Tree}
use Rattle.life_quad.specs.declared.id.Id.{Id}
use Rattle.life_quad.specs.declared.moves.Quarters.{Quarters}
use Rattle.life_quad.specs.Moves.{quad_of}
use Rattle.life_pieces.specs.Pieces.{IsOfLevel, IsPiece, step_ahead}
use Rattle.life_leap.specs.declared.grid.Triple.{Triple}
use Rattle.life_leap.specs.declared.grid.Row.{Row}

-- three rows of three squares, and four rows of four
abbrev pub NineIds : Type 0
NineIds = Triple (Triple Id)

abbrev pub SixteenIds : Type 0
SixteenIds = Row (Row Id)

-- each of the values has a property
pub record InTriple {T : Type 0} (P : T → Type 0) (triple : Triple T) : Type 0 where
  pub first : P triple.first
  pub second : P triple.second
  pub third : P triple.third

pub record InRow {T : Type 0} (P : T → Type 0) (row : Row T) : Type 0 where
  pub first : P row.first
  pub second : P row.second
  pub third : P row.third
  pub fourth : P row.fourth

pub record InFourIds (P : Id → Type 0) (block : Quarters) : Type 0 where
  pub nw : P block.nw
  pub ne : P block.ne
  pub sw : P block.sw
  pub se : P block.se

-- each of the values has a property that depends on its place: the first is at this place, and each of the others one side length after the one before
module _ {T : Type 0} (P : ℤ → T → Type 0) (side : ℕ) (place : ℤ) where
  pub record AreTripleFrom (triple : Triple T) : Type 0 where
    pub first : P place triple.first
    pub second : P (step_ahead place side) triple.second
    pub third : P (step_ahead (step_ahead place side) side) triple.third

  pub record AreRowFrom (row : Row T) : Type 0 where
    pub first : P place row.first
    pub second : P (step_ahead place side) row.second
    pub third : P (step_ahead (step_ahead place side) side) row.third
    pub fourth : P (step_ahead (step_ahead (step_ahead place side) side) side) row.fourth

-- squares with one side length that are pieces of the plane, of which the north-western one begins in column x and row y
module _ (content : Id → Tree) (cells : ℤ → ℤ → ℕ) (side : ℕ) (x : ℤ) where
  abbrev pub AreThreeSquares : ℤ → Triple Id → Type 0
  AreThreeSquares y = AreTripleFrom (λ column id. IsPiece cells column y (content id)) side x

  abbrev pub AreNineSquares : ℤ → NineIds → Type 0
  AreNineSquares = AreTripleFrom AreThreeSquares side

  abbrev pub AreFourSquares : ℤ → Row Id → Type 0
  AreFourSquares y = AreRowFrom (λ column id. IsPiece cells column y (content id)) side x

  abbrev pub AreSixteenSquares : ℤ → SixteenIds → Type 0
  AreSixteenSquares = AreRowFrom AreFourSquares side

  pub record IsTwoAt (y : ℤ) (a b : Id) : Type 0 where
    pub west : IsPiece cells x y (content a)
    pub east : IsPiece cells (step_ahead x side) y (content b)

  pub record IsBlockAt (y : ℤ) (block : Quarters) : Type 0 where
    pub nw : IsPiece cells x y (content block.nw)
    pub ne : IsPiece cells (step_ahead x side) y (content block.ne)
    pub sw : IsPiece cells x (step_ahead y side) (content block.sw)
    pub se : IsPiece cells (step_ahead x side) (step_ahead y side) (content block.se)

-- three blocks of two by two squares, each one square further east than the one before
abbrev pub AreThreeBlocks : (content : Id → Tree) (cells : ℤ → ℤ → ℕ) (side : ℕ) (x y : ℤ) → Triple Quarters → Type 0
AreThreeBlocks content cells side x y = AreTripleFrom (λ column block. IsBlockAt content cells side column y block) side x

-- the blocks of two by two squares of two rows of three
abbrev pub western_block : Triple Id → Triple Id → Quarters
western_block north south = record { nw = north.first; ne = north.second; sw = south.first; se = south.second }

abbrev pub eastern_block : Triple Id → Triple Id → Quarters
eastern_block north south = record { nw = north.second; ne = north.third; sw = south.second; se = south.third }

-- the same of two rows of four
abbrev pub blocks_of_rows : Row Id → Row Id → Triple Quarters
blocks_of_rows north south = record {
  first = record { nw = north.first; ne = north.second; sw = south.first; se = south.second };
  second = record { nw = north.second; ne = north.third; sw = south.second; se = south.third };
  third = record { nw = north.third; ne = north.fourth; sw = south.third; se = south.fourth };
}

abbrev pub NineBlocks : Type 0
NineBlocks = Triple (Triple Quarters)

-- the same of four rows of four
abbrev pub nine_blocks_of : SixteenIds → NineBlocks
nine_blocks_of s = record { first = blocks_of_rows s.first s.second; second = blocks_of_rows s.second s.third; third = blocks_of_rows s.third s.fourth }

-- the squares are those of the four blocks at the corners
pub record AreCorners (content : Id → Tree) (blocks : NineBlocks) (corners : Quarters) : Type 0 where
  pub nw : content corners.nw ≡ quad_of content blocks.first.first
  pub ne : content corners.ne ≡ quad_of content blocks.first.third
  pub sw : content corners.sw ≡ quad_of content blocks.third.first
  pub se : content corners.se ≡ quad_of content blocks.third.third

-- so they are, of blocks of squares of level k, and they are known
pub record AreKnownCorners (knows : Id → Type 0) (content : Id → Tree) (k : ℕ) (blocks : NineBlocks) (corners : Quarters) : Type 0 where
  pub known : InFourIds (IsOfLevel knows content (k + 1)) corners
  pub are : AreCorners content blocks corners

-- each of the squares is joined of the four squares of a block
module _ (old next : Id → Tree) where
  pub record AreThreeJoined (blocks : Triple Quarters) (ids : Triple Id) : Type 0 where
    pub first : next ids.first ≡ quad_of old blocks.first
    pub second : next ids.second ≡ quad_of old blocks.second
    pub third : next ids.third ≡ quad_of old blocks.third

  pub record AreNineJoined (blocks : NineBlocks) (ids : NineIds) : Type 0 where
    pub first : AreThreeJoined blocks.first ids.first
    pub second : AreThreeJoined blocks.second ids.second
    pub third : AreThreeJoined blocks.third ids.third

  pub record AreFourJoined (nine : NineIds) (ids : Quarters) : Type 0 where
    pub nw : next ids.nw ≡ quad_of old (western_block nine.first nine.second)
    pub ne : next ids.ne ≡ quad_of old (eastern_block nine.first nine.second)
    pub sw : next ids.sw ≡ quad_of old (western_block nine.second nine.third)
    pub se : next ids.se ≡ quad_of old (eastern_block nine.second nine.third)

-- the four squares around the middle of a block of two by two squares of level k, wherever on a plane the block is
pub record IsInnerBlock (content : Id → Tree) (k : ℕ) (block inner : Quarters) : Type 0 where
  pub at : (cells : ℤ → ℤ → ℕ) (x y : ℤ) → IsBlockAt content cells (2 ^ k) x y block
      → IsBlockAt content cells (2 ^ (k - 1)) (step_ahead x (2 ^ (k - 1))) (step_ahead y (2 ^ (k - 1))) inner

pub record AreThreeInner (content : Id → Tree) (k : ℕ) (blocks inner : Triple Quarters) : Type 0 where
  pub first : IsInnerBlock content k blocks.first inner.first
  pub second : IsInnerBlock content k blocks.second inner.second
  pub third : IsInnerBlock content k blocks.third inner.third
