-- Squares, turned about their middle.
use Rattle.std.specs.Prelude.{◌≡◌, ℕ, ◌/◌, ◌%◌, Bool, true, false, not, if◌then◌else◌, Option, Some}
use Rattle.life_base.specs.Tree.{Tree, point, quad}
use Rattle.life_quad.specs.declared.id.Id.{Id}
use Rattle.life_quad.specs.declared.moves.Quarters.{Quarters}
use Rattle.life_quad.specs.declared.turning.Turn.{Turn}

-- whether exactly one of the two is true
abbrev pub exactly_one : Bool → Bool → Bool
exactly_one false b = b
exactly_one true b = not b

-- one of four, by whether it is in the east and in the south
abbrev pub one_of_four : Bool → Bool → Tree → Tree → Tree → Tree → Tree
one_of_four false false nw ne sw se = nw
one_of_four true false nw ne sw se = ne
one_of_four false true nw ne sw se = sw
one_of_four true true nw ne sw se = se

abbrev pub id_of_four : Bool → Bool → Quarters → Id
id_of_four false false four = four.nw
id_of_four true false four = four.ne
id_of_four false true four = four.sw
id_of_four true true four = four.se

-- whether the quarter that a turn brings there was in the east, and in the south
abbrev pub side_of : Turn → Bool → Bool → Bool
side_of turn east south = exactly_one turn.columns (if turn.exchange then south else east)

abbrev pub turned_half : Turn → Bool → Bool → Bool
turned_half turn east south = exactly_one turn.rows (if turn.exchange then east else south)

-- the image of a square about its middle: each quarter is the image of the quarter that the turn brings there
abbrev pub turned_tree : Turn → Tree → Tree
turned_tree turn (point state) = point state
turned_tree turn (quad nw ne sw se) =
    quad
    (one_of_four (side_of turn false false) (turned_half turn false false) (turned_tree turn nw) (turned_tree turn ne) (turned_tree turn sw)
    (turned_tree turn se))
    (one_of_four (side_of turn true false) (turned_half turn true false) (turned_tree turn nw) (turned_tree turn ne) (turned_tree turn sw)
    (turned_tree turn se))
    (one_of_four (side_of turn false true) (turned_half turn false true) (turned_tree turn nw) (turned_tree turn ne) (turned_tree turn sw)
    (turned_tree turn se))
    (one_of_four (side_of turn true true) (turned_half turn true true) (turned_tree turn nw) (turned_tree turn ne) (turned_tree turn sw) (turned_tree turn se))

-- the four cells of one quarter among the sixteen of a square of level 2 of the states 0 and 1, as a number below 16
abbrev pub digit_in : Bool → Bool → ℕ → ℕ
digit_in false false cells = cells / 4096
digit_in true false cells = cells / 256 % 16
digit_in false true cells = cells / 16 % 16
digit_in true true cells = cells % 16

-- the image of the square of an Id that is remembered, if any, is right
abbrev pub IsRememberedImage : (Id → Type 0) → (Id → Tree) → (Id → Tree) → Turn → Id → Option Id → Type 0
IsRememberedImage knows to from turn id image = (other : Id) → image ≡ Some other → knows other × (to other ≡ turned_tree turn (from id))

-- so is each
abbrev pub AreImages : (Id → Type 0) → (Id → Tree) → (Id → Tree) → Turn → (Id → Option Id) → Type 0
AreImages knows to from turn image = (id : Id) → IsRememberedImage knows to from turn id (image id)
