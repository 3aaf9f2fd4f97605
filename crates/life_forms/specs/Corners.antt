-- Small patterns: the cells in a corner of their box, and the roots of the images that begin there.
use Rattle.std.specs.Prelude.{◌≡◌, ℕ, Bool, false, true, List, ℤ, pos, neg_ℤ, ◌+ℤ◌, ◌≤ℤ◌, ◌<ℤ◌, if◌then◌else◌}
use Rattle.life_base.specs.Tree.{Tree, quad, blank, depth, is_blank_tree}
use Rattle.life_base.specs.declared.bounds.Bounds.{Bounds}
use Rattle.life_base.specs.declared.cell.TheConstants.{MAX_LEVEL}
use Rattle.life_quad.specs.Store.{eight}
use Rattle.life_quad.specs.Turning.{turned_tree}
use Rattle.life_writer.specs.Lesser.{IsLesserText}
use Rattle.life_writer.specs.Listing.{rows_of, square_text, with_new}
use Rattle.life_pattern.specs.Universe.{Universe, is_life, square}
use Rattle.life_mc.specs.declared.line.Line.{Line}
use Rattle.life_mc.specs.declared.line.Line.TheVariants.{Leaf}
use Rattle.life_forms.specs.Images.{AreSmall, IsImageText}
use Rattle.life_forms.specs.Turns.{Turn, turn_of}
use Rattle.life_forms.specs.declared.corners.Block.{Block}
use Rattle.life_forms.specs.declared.corners.Corner.{Corner}
use Rattle.life_forms.specs.declared.corners.Corner.TheVariants.{Four, Eight, Sixteen}

-- the list, and after it the square if it isn't blank and isn't there yet
abbrev pub with_leaf : List Tree → Tree → List Tree
with_leaf known t = if is_blank_tree t then known else with_new known t

-- the line of a leaf
abbrev pub leaf_line : ℕ → Line
leaf_line leaf = Leaf (rows_of (eight leaf))

-- the square whose south-eastern quarter this one is, and whose other quarters are blank
abbrev pub seated : Tree → Tree
seated t = quad (blank (depth t)) (blank (depth t)) (blank (depth t)) t

-- the square of level 4 of four leaves
abbrev pub block_tree : Block → Tree
block_tree block = quad (eight block.nw) (eight block.ne) (eight block.sw) (eight block.se)

-- the square of the cells in a corner
abbrev pub corner_tree : Corner → Tree
corner_tree (Four leaf) = eight leaf
corner_tree (Eight leaf) = eight leaf
corner_tree (Sixteen block) = block_tree block

-- the root of the image by a turn that begins in that corner
abbrev pub corner_root : Turn → Corner → Tree
corner_root turn (Four leaf) = turned_tree turn (eight leaf)
corner_root turn (Eight leaf) = seated (turned_tree turn (eight leaf))
corner_root turn (Sixteen block) = seated (turned_tree turn (block_tree block))

-- where columns or rows begin at one end of a side of a box: so many before the first one, or so many before the last one
abbrev pub square_start : Bool → ℤ → ℤ → ℕ → ℕ → ℤ
square_start false low high before_first before_last = low +ℤ neg_ℤ (pos before_first)
square_start true low high before_first before_last = high +ℤ neg_ℤ (pos before_last)

-- a place that isn't far out of the plane
pub record IsNearPlane (place : ℤ) : Type 0 where
  pub low : neg_ℤ (pos 4611686018427387904) ≤ℤ place
  pub high : place <ℤ pos 4611686018427387904

-- the sides of a box have at most so many cells
pub record HasSidesUpTo (cells : ℤ) (box : Bounds) : Type 0 where
  pub wide : box.right <ℤ (box.left +ℤ cells)
  pub tall : box.bottom <ℤ (box.top +ℤ cells)

-- the square of this level that begins there, which isn't blank
pub record IsSquareAt (u : Universe) (level : ℕ) (x y : ℤ) (t : Tree) : Type 0 where
  pub at : t ≡ square u.cell level x y
  pub live : is_blank_tree t ≡ false

-- The cells in this corner are all of a pattern under a B/S rule: the texts of the two images that begin there are those of their roots. Neither has a
-- larger form.
pub record IsCorner (most : ℕ) (u : Universe) (columns rows : Bool) (corner : Corner) : Type 0 where
  pub small : AreSmall most u columns rows
  pub life : is_life u.rule ≡ true
  pub live : is_blank_tree (corner_tree corner) ≡ false
  pub text : (exchange : Bool)
      → IsImageText MAX_LEVEL u (turn_of exchange columns rows) (square_text u.rule u.generation (corner_root (turn_of exchange columns rows) corner))

-- the text is the least of a text and two others, found two at a time
pub record IsLesserOfThree (best first second text : List ℕ) : Type 0 where
  pub lesser : List ℕ
  pub one : IsLesserText best first lesser
  pub two : IsLesserText lesser second text
