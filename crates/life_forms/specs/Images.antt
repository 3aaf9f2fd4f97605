-- The texts of a pattern's images.
use Rattle.std.specs.Prelude.{◌≡◌, ◌⊎◌, ℕ, ◌^◌, Bool, true, false, List, ℤ, pos, neg_ℤ, ◌+ℤ◌, ◌≤ℤ◌, ◌<ℤ◌}
use Rattle.life_base.specs.Tree.{Tree, is_blank_tree}
use Rattle.life_base.specs.declared.bounds.Bounds.{Bounds}
use Rattle.life_writer.specs.Lesser.{IsUpTo}
use Rattle.life_writer.specs.Listing.{canon_text}
use Rattle.life_pattern.specs.Universe.{Universe, square}
use Rattle.life_forms.specs.Turns.{Turn, image, turn_of}
use Rattle.life_forms.specs.Forms.{IsMoved, IsTurned}
use Rattle.life_forms.specs.Needed.{HasLargerForm}

-- the text is the canonical text of this image, moved
pub record IsImageText (top : ℕ) (u : Universe) (turn : Turn) (text : List ℕ) : Type 0 where
  pub form : Universe
  pub moved : IsMoved top (image turn u) form
  pub is : text ≡ canon_text top form

-- the text is that of this image or of the one with columns and rows exchanged too, and no greater than either
pub record IsLeastOfTwo (top : ℕ) (u : Universe) (columns rows : Bool) (text : List ℕ) : Type 0 where
  pub exchange : Bool
  pub of_image : IsImageText top u (turn_of exchange columns rows) text
  pub least : (also : Bool) (other : List ℕ) → IsImageText top u (turn_of also columns rows) other → IsUpTo text other

-- the text is another one or that of one of the two images, and no greater than any of the three
pub record IsLesserOfTwo (top : ℕ) (u : Universe) (columns rows : Bool) (best text : List ℕ) : Type 0 where
  pub one : (text ≡ best) ⊎ ((exchange : Bool) × IsImageText top u (turn_of exchange columns rows) text)
  pub first : IsUpTo text best
  pub second : (also : Bool) (other : List ℕ) → IsImageText top u (turn_of also columns rows) other → IsUpTo text other

-- neither of the two images has a larger form
abbrev pub AreSmall : ℕ → Universe → Bool → Bool → Type 0
AreSmall most u columns rows = (exchange : Bool) → ¬ HasLargerForm most (image (turn_of exchange columns rows) u)

-- the text is the canonical text of the turned form
pub record IsTurnedText (top : ℕ) (u : Universe) (text : List ℕ) : Type 0 where
  pub form : Universe
  pub turned : IsTurned top (canon_text top) u form
  pub is : text ≡ canon_text top form

-- neither of the two images has a larger form or a lesser text than this one
pub record IsLowerBound (top most : ℕ) (u : Universe) (columns rows : Bool) (text : List ℕ) : Type 0 where
  pub small : AreSmall most u columns rows
  pub least : (also : Bool) (other : List ℕ) → IsImageText top u (turn_of also columns rows) other → IsUpTo text other

-- a box with sides of 2^12 cells at most, of which one has more than four
pub record IsMiddling (box : Bounds) : Type 0 where
  pub wide : box.right <ℤ (box.left +ℤ pos (2 ^ 12))
  pub tall : box.bottom <ℤ (box.top +ℤ pos (2 ^ 12))
  pub far : ((box.left +ℤ pos 4) ≤ℤ box.right) ⊎ ((box.top +ℤ pos 4) ≤ℤ box.bottom)

-- where eight columns or rows begin at one end of a side of a box
abbrev pub leaf_start : Bool → ℤ → ℤ → ℤ
leaf_start false low high = low
leaf_start true low high = high +ℤ neg_ℤ (pos 7)

-- the square of level 3 in this corner of a box, which isn't blank
pub record IsCornerLeaf (u : Universe) (box : Bounds) (columns rows : Bool) (t : Tree) : Type 0 where
  pub at : t ≡ square u.cell 3 (leaf_start columns box.left box.right) (leaf_start rows box.top box.bottom)
  pub live : is_blank_tree t ≡ false
