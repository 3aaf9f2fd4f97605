-- Squares side by side, and their cells row by row.
use Rattle.std.specs.Prelude.{◌≡◌, ◌==◌, ℕ, zero, suc, ◌^◌, Bool, false, if◌then◌else◌, ℤ, pos, neg_ℤ, ◌+ℤ◌, ◌≤ℤ◌, List, [], ◌∷◌, ◌++◌, map}
use Rattle.std.specs.List.{flat_map}
use Rattle.life_base.specs.declared.cell.Cell.{Cell}
use Rattle.life_base.specs.Tree.{Tree, point, quad, depth, is_blank_tree, state_at, IsFull}
use Rattle.life_quad.specs.declared.id.Id.{Id}
use Rattle.life_quad.specs.declared.listing.Placed.{Placed}

-- a square and the column of its western side
pub record Piece : Type 0 where
  pub square : Tree
  pub column : ℤ

-- the square, unless it is blank
abbrev pub piece_unless_blank : Tree → ℤ → List Piece
piece_unless_blank t column = if is_blank_tree t then [] else record { square = t; column = column } ∷ []

-- the northern quarters of a square without blank ones, where half a side has this many columns
abbrev pub northern : ℕ → Tree → ℤ → List Piece
northern half (point s) column = []
northern half (quad nw ne sw se) column = piece_unless_blank nw column ++ piece_unless_blank ne (column +ℤ pos half)

-- and the southern ones
abbrev pub southern : ℕ → Tree → ℤ → List Piece
southern half (point s) column = []
southern half (quad nw ne sw se) column = piece_unless_blank sw column ++ piece_unless_blank se (column +ℤ pos half)

-- the upper and the lower half of a band of squares
abbrev pub upper : ℕ → List Piece → List Piece
upper half band = flat_map (λ p. northern half p.square p.column) band

abbrev pub lower : ℕ → List Piece → List Piece
lower half band = flat_map (λ p. southern half p.square p.column) band

-- the cells of a band of single cells
abbrev pub row_cells : ℤ → List Piece → List Cell
row_cells top band = map (λ p. record { x = p.column; y = top; state = state_at p.square 0 0 }) band

-- the cells of a band of squares of level k whose first row is `top`: those of its upper half before those of its lower half
abbrev pub band_cells : ℕ → ℤ → List Piece → List Cell
band_cells zero top band = row_cells top band
band_cells (suc k) top band =
    band_cells k top (upper (2 ^ k) band) ++ band_cells k (top +ℤ pos (2 ^ k)) (lower (2 ^ k) band)

-- the squares of a store that are named side by side
abbrev pub pieces : (Id → Tree) → List Placed → List Piece
pieces content band = map (λ p. record { square = content p.square; column = p.column }) band

-- a known square of level k that lies between the columns -2^61 and 2^61
pub record IsPlaced (knows : Id → Type 0) (content : Id → Tree) (k : ℕ) (p : Placed) : Type 0 where
  pub known : knows p.square
  pub level : depth (content p.square) ≡ k
  pub not_blank : is_blank_tree (content p.square) ≡ false
  pub west : neg_ℤ (pos (2 ^ 61)) ≤ℤ p.column
  pub east : (p.column +ℤ pos (2 ^ k)) ≤ℤ pos (2 ^ 61)

-- full squares of one level that aren't blank, none of them west of a column or of the end of the one before it
abbrev pub IsBand : ℕ → ℤ → List Piece → Type 0
IsBand k west [] = Unit
IsBand k west (p ∷ band) =
    IsFull p.square × (depth p.square ≡ k) × (is_blank_tree p.square ≡ false) × (west ≤ℤ p.column) × IsBand k (p.column +ℤ pos (2 ^ k)) band

-- the same, from some column on
abbrev pub InBand : ℕ → List Piece → Type 0
InBand k band = (west : ℤ) × IsBand k west band

-- the states of the lower or of the upper row of a square of level 1
abbrev pub pair_of : Bool → Tree → List ℕ
pair_of low (point s) = []
pair_of low (quad nw ne sw se) =
    if low then state_at sw 0 0 ∷ state_at se 0 0 ∷ []
    else state_at nw 0 0 ∷ state_at ne 0 0 ∷ []

-- the states of a row of a square of level 2: in the southern or in the northern half, the lower or the upper one
abbrev pub row_states : Bool → Bool → Tree → List ℕ
row_states south low (point s) = []
row_states south low (quad nw ne sw se) = if south then pair_of low sw ++ pair_of low se else pair_of low nw ++ pair_of low ne

-- the cells of states side by side from (x, y) on, without those of state 0
abbrev pub live_cells : ℤ → ℤ → List ℕ → List Cell
live_cells x y [] = []
live_cells x y (s ∷ states) = (if s == 0 then [] else record { x = x; y = y; state = s } ∷ []) ++ live_cells (x +ℤ pos 1) y states

-- the cells of such a row of a band of level 2
abbrev pub part_cells : Bool → Bool → ℤ → List Piece → List Cell
part_cells south low y band = flat_map (λ p. live_cells p.column y (row_states south low p.square)) band
