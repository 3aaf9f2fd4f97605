-- The corner of an image's moved form, and the leaf that stands there.
use Rattle.std.proofs.Common.{◌≡◌, ◌≢◌, ◌⊎◌, inl, inr, ℕ, suc, ◌+◌, ◌^◌, ◌<◌, ◌≤◌, Bool, true, false, List, refl, sym, ap, ◌∙◌, subst, true≢false, ◌-◌, ℤ, pos, neg_ℤ, ◌+ℤ◌, ◌≤ℤ◌, ◌<ℤ◌, arith, pow_mono, lit≤}
use Rattle.std.proofs.lemmas.Int.{ints}
use Rattle.life_base.specs.Tree.{Tree, quad, blank, depth, half_side, is_blank_tree, tree_cell, IsFull}
use Rattle.life_base.proofs.Basics.{zero_unless}
use Rattle.life_base.specs.declared.bounds.Bounds.{Bounds}
use Rattle.life_base.specs.declared.cell.TheConstants.{MAX_LEVEL}
use Rattle.life_base.specs.declared.rule.Rule.{Rule}
use Rattle.life_base.specs.declared.rule.Rule.TheVariants.{Life, Named}
use Rattle.life_mc.specs.Squares.{HasStatesUpTo}
use Rattle.life_quad.specs.Cells.{IsBoundingBoxOfTree}
use Rattle.life_quad.specs.Store.{eight}
use Rattle.life_quad.proofs.LawLemmas.{cells_lie_inside}
use Rattle.life_slide.specs.Pieces.{IsNearMiddle}
use Rattle.life_quad.specs.Moves.{trimmed_square}
use Rattle.life_quad.specs.Turning.{turned_tree}
use Rattle.life_quad.proofs.TurningLemmas.{blank-image}
use Rattle.life_pattern.specs.Laws.{SquaresAreCentred}
use Rattle.life_writer.specs.Lesser.{IsUpTo}
use Rattle.life_writer.specs.Listing.{canon_text, canonical_file, square_text}
use Rattle.life_writer.specs.Texts.{IsBoundingBox}
use Rattle.life_pattern.specs.Universe.{Universe, IsBlankOutside, centred_square, is_life, least_level, square, whole}
use Rattle.life_writer.proofs.OrderFacts.{up-to-on}
use Rattle.life_slide.proofs.MovedLemmas.{column-near, row-near, square-from}
use Rattle.life_forms.specs.Corners.{seated}
use Rattle.life_forms.specs.Forms.{IsInPlace, IsMoved, at_edge, at_zero}
use Rattle.life_forms.specs.Images.{IsCornerLeaf, IsImageText, IsLowerBound, leaf_start}
use Rattle.life_forms.specs.Needed.{HasLargerForm}
use Rattle.life_forms.specs.Turns.{Turn, counted_coordinate, image, opposite_coordinate, turn_of}
use Rattle.life_forms.proofs.AreaFacts.{most_parts, no-larger}
use Rattle.life_forms.proofs.LeafFacts.{IsAtCorner, HasFarCell, no-cells, from, full-root, higher, leaf-alone, level-of, lower, root-about, root-at, root-begins, root-states, up-to-first}
use Rattle.life_forms.proofs.ImageFacts.{begin, turned-square}
use Rattle.life_forms.proofs.MovedFacts.{square-same}
use Rattle.life_forms.proofs.PlaneFacts.{high-end}
use Rattle.life_forms.proofs.ShiftFacts.{box-shifted, has-box, moved-exists}
use Rattle.life_forms.proofs.TransposeFacts.{box-transposed, transposed_box}
use Rattle.life_forms.proofs.TurnFacts.{backwards-is, backwards-twice, image-outside, image_cells}

-- ---- the box of an image

abbrev pub low_side : Bool → ℤ → ℤ → ℤ
low_side false low high = low
low_side true low high = opposite_coordinate high

abbrev pub high_side : Bool → ℤ → ℤ → ℤ
high_side false low high = high
high_side true low high = opposite_coordinate low

abbrev pub counted_box : Bool → Bool → Bounds → Bounds
counted_box c r box = record {
  left = low_side c box.left box.right;
  top = low_side r box.top box.bottom;
  right = high_side c box.left box.right;
  bottom = high_side r box.top box.bottom;
}

columns-box : (cell : ℤ → ℤ → ℕ) (box : Bounds) → IsBoundingBox cell box → IsBoundingBox (λ x y. cell (opposite_coordinate x) y) (counted_box true false box)
columns-box cell box least = record {
  inside = λ x y some.
      let i = least.inside (opposite_coordinate x) y some in
      let w = i.0 in
      let e = i.1 in
      let b = backwards-is x in
      let l = backwards-is box.left in
      let r = backwards-is box.right in
      (omega (arith, ints, b, r, e), omega (arith, ints, b, l, w), i.2, i.3);
  at_left = (least.at_right.0, λ e. least.at_right.1 (ap (λ (z : ℤ). cell z least.at_right.0) (sym (backwards-twice box.right)) ∙ e));
  at_right = (least.at_left.0, λ e. least.at_left.1 (ap (λ (z : ℤ). cell z least.at_left.0) (sym (backwards-twice box.left)) ∙ e));
  at_top = (opposite_coordinate least.at_top.0, λ e. least.at_top.1 (ap (λ (z : ℤ). cell z box.top) (sym (backwards-twice least.at_top.0)) ∙ e));
  at_bottom = (
    opposite_coordinate least.at_bottom.0,
    λ e. least.at_bottom.1 (ap (λ (z : ℤ). cell z box.bottom) (sym (backwards-twice least.at_bottom.0)) ∙ e),
  );
}

-- rows are the columns of the other image
rows-box : (cell : ℤ → ℤ → ℕ) (box : Bounds) → IsBoundingBox cell box → IsBoundingBox (λ x y. cell x (opposite_coordinate y)) (counted_box false true box)
rows-box cell box least =
    box-transposed (λ x y. cell x (opposite_coordinate y)) (counted_box true false (transposed_box box))
    (columns-box (λ x y. cell y x) (transposed_box box) (box-transposed (λ x y. cell y x) box least))

counted-is : (c r : Bool) (cell : ℤ → ℤ → ℕ) (box : Bounds) → IsBoundingBox cell box
    → IsBoundingBox (λ x y. cell (counted_coordinate c x) (counted_coordinate r y)) (counted_box c r box)
counted-is false false cell box least = least
counted-is true false cell box least = columns-box cell box least
counted-is false true cell box least = rows-box cell box least
counted-is true true cell box least = rows-box (λ x y. cell (opposite_coordinate x) y) (counted_box true false box) (columns-box cell box least)

abbrev image_box : Bool → Bool → Bool → Bounds → Bounds
image_box false c r box = counted_box c r box
image_box true c r box = transposed_box (counted_box c r box)

pub image-box : (e c r : Bool) (cell : ℤ → ℤ → ℕ) (box : Bounds) → IsBoundingBox cell box → IsBoundingBox (image_cells (turn_of e c r) cell)
    (image_box e c r box)
image-box false c r cell box least = counted-is c r cell box least
image-box true c r cell box least =
    box-transposed (image_cells (turn_of true c r) cell) (counted_box c r box) (counted-is c r cell box least)

pub side-counted : (c : Bool) (low high : ℤ) (n : ℕ) → high <ℤ (low +ℤ pos n) → high_side c low high <ℤ (low_side c low high +ℤ pos n)
side-counted false low high n h = h
side-counted true low high n h = let a = backwards-is low in let b = backwards-is high in omega (arith, ints, a, b, h)

pub side-long : (c : Bool) (low high : ℤ) (n : ℕ) → (low +ℤ pos n) ≤ℤ high → (low_side c low high +ℤ pos n) ≤ℤ high_side c low high
side-long false low high n h = h
side-long true low high n h = let a = backwards-is low in let b = backwards-is high in omega (arith, ints, a, b, h)

-- the sides of a box have at most 2^k cells
pub record IsLittle (k : ℕ) (box : Bounds) : Type 0 where
  pub wide : box.right <ℤ (box.left +ℤ pos (2 ^ k))
  pub tall : box.bottom <ℤ (box.top +ℤ pos (2 ^ k))

-- one of them has more than so many
abbrev pub IsFar : ℕ → Bounds → Type 0
IsFar n box = ((box.left +ℤ pos n) ≤ℤ box.right) ⊎ ((box.top +ℤ pos n) ≤ℤ box.bottom)

counted-far : (c r : Bool) (n : ℕ) (box : Bounds) → IsFar n box → IsFar n (counted_box c r box)
counted-far c r n box (inl h) = inl (side-long c box.left box.right n h)
counted-far c r n box (inr h) = inr (side-long r box.top box.bottom n h)

counted-little : (c r : Bool) (k : ℕ) (box : Bounds) → IsLittle k box → IsLittle k (counted_box c r box)
counted-little c r k box m = record {
  wide = side-counted c box.left box.right (2 ^ k) m.wide;
  tall = side-counted r box.top box.bottom (2 ^ k) m.tall;
}

swapped : {A B : Type 0} → A ⊎ B → B ⊎ A
swapped (inl a) = inr a
swapped (inr b) = inl b

image-far : (e c r : Bool) (n : ℕ) (box : Bounds) → IsFar n box → IsFar n (image_box e c r box)
image-far false c r n box far = counted-far c r n box far
image-far true c r n box far = swapped (counted-far c r n box far)

image-little : (e c r : Bool) (k : ℕ) (box : Bounds) → IsLittle k box → IsLittle k (image_box e c r box)
image-little false c r k box m = counted-little c r k box m
image-little true c r k box m =
    let there = counted-little c r k box m in
    record { wide = there.tall; tall = there.wide }

-- ---- its moved form

side-at : (k : ℕ) (low high a : ℤ) → k ≤ 12 → high <ℤ (low +ℤ pos (2 ^ k)) → IsInPlace MAX_LEVEL (low +ℤ a) (high +ℤ a) → low +ℤ a ≡ pos 0
side-at k low high a to_twelve short (at_zero e f) = e
side-at k low high a to_twelve short (at_edge first end) =
    let h = high-end in
    let side : 2 ^ k ≤ 2 ^ 61 = pow_mono {i = k} {j = 61} (omega (arith, to_twelve)) in
    absurd (omega (arith, ints, h, side, first, end, short))

module _ (w v : Universe) (moved : IsMoved MAX_LEVEL w v) (box : Bounds) (least : IsBoundingBox w.cell box) (k : ℕ) (to_twelve : k ≤ 12)
    (little : IsLittle k box) where
  at-left : box.left +ℤ moved.shift.columns ≡ pos 0
  at-left = side-at k _ _ _ to_twelve little.wide (moved.form _ (box-shifted w v moved.shift box least)).0

  at-top : box.top +ℤ moved.shift.rows ≡ pos 0
  at-top = side-at k _ _ _ to_twelve little.tall (moved.form _ (box-shifted w v moved.shift box least)).1

  form-cells : (x y : ℤ) → v.cell x y ≡ w.cell (x +ℤ box.left) (y +ℤ box.top)
  form-cells x y =
      let l = at-left in
      let t = at-top in
      let ex : (x +ℤ box.left) +ℤ moved.shift.columns ≡ x = omega (arith, ints, l) in
      let ey : (y +ℤ box.top) +ℤ moved.shift.rows ≡ y = omega (arith, ints, t) in
      sym (λ i. v.cell (ex i) (ey i)) ∙ moved.shift.cells _ _

  -- a cell of the pattern, in the form
  form-cell : (x y : ℤ) → w.cell x y ≢ 0 → v.cell (x +ℤ neg_ℤ box.left) (y +ℤ neg_ℤ box.top) ≢ 0
  form-cell x y some e =
      let ex : (x +ℤ neg_ℤ box.left) +ℤ box.left ≡ x = omega (arith, ints) in
      let ey : (y +ℤ neg_ℤ box.top) +ℤ box.top ≡ y = omega (arith, ints) in
      some (sym (λ i. w.cell (ex i) (ey i)) ∙ sym (form-cells _ _) ∙ e)

  form-inside : (x y : ℤ) → v.cell x y ≢ 0 → (pos 0 ≤ℤ x) × (x <ℤ pos (2 ^ k)) × (pos 0 ≤ℤ y) × (y <ℤ pos (2 ^ k))
  form-inside x y some =
      let i = least.inside _ _ (λ e. some (form-cells x y ∙ e)) in
      let a = i.0 in
      let b = i.1 in
      let c = i.2 in
      let d = i.3 in
      let wide = little.wide in
      let tall = little.tall in
      (omega (arith, ints, a), omega (arith, ints, b, wide), omega (arith, ints, c), omega (arith, ints, d, tall))

  form-states : ((x y : ℤ) → w.cell x y < 256) → (x y : ℤ) → v.cell x y < 256
  form-states states x y = subst (λ (n : ℕ). n < 256) (sym (form-cells x y)) (states _ _)

  form-corner : ((x y : ℤ) → w.cell x y < 256) → IsAtCorner v.cell k
  form-corner states = record { states = form-states states; inside = form-inside }

  form-far : (n : ℕ) → IsFar n box → HasFarCell v.cell n
  form-far n (inl far) = record {
    column = box.right +ℤ neg_ℤ box.left;
    row = least.at_right.0 +ℤ neg_ℤ box.top;
    some = form-cell box.right least.at_right.0 least.at_right.1;
    far = inl (omega (arith, ints, far));
  }
  form-far n (inr far) = record {
    column = least.at_bottom.0 +ℤ neg_ℤ box.left;
    row = box.bottom +ℤ neg_ℤ box.top;
    some = form-cell least.at_bottom.0 box.bottom least.at_bottom.1;
    far = inr (omega (arith, ints, far));
  }

  -- a square near its corner is the one that is as near to where the box begins
  form-square : (j : ℕ) (x y : ℤ) → square v.cell j x y ≡ square w.cell j (x +ℤ box.left) (y +ℤ box.top)
  form-square j x y =
      (λ i. square (λ a b. form-cells a b i) j x y)
      ∙ sym (sym (square-same w.cell j _ _) ∙ square-from w.cell box.left box.top j x y ∙ square-same _ j x y)

-- ---- squares near the corner

square-turned : (e c r : Bool) (cell : ℤ → ℤ → ℕ) (box : Bounds) (j : ℕ) (a x y : ℤ) → begin c j (a +ℤ low_side c box.left box.right) ≡ x
    → begin r j (a +ℤ low_side r box.top box.bottom) ≡ y
    → turned_tree (turn_of e c r) (square cell j x y)
    ≡ square (image_cells (turn_of e c r) cell) j (a +ℤ (image_box e c r box).left) (a +ℤ (image_box e c r box).top)
square-turned false c r cell box j a x y ex ey =
    (λ i. turned_tree (turn_of false c r) (square cell j (sym ex i) (sym ey i))) ∙ turned-square (turn_of false c r) cell j _ _
square-turned true c r cell box j a x y ex ey =
    (λ i. turned_tree (turn_of true c r) (square cell j (sym ex i) (sym ey i)))
    ∙ turned-square (turn_of true c r) cell j (a +ℤ low_side r box.top box.bottom) (a +ℤ low_side c box.left box.right)

begin-start : (c : Bool) (low high : ℤ) → begin c 3 (pos 0 +ℤ low_side c low high) ≡ leaf_start c low high
begin-start false low high = omega (arith, ints)
begin-start true low high = let b = backwards-is high in omega (arith, ints, b)

module _ (centre : SquaresAreCentred) (u : Universe) (life : is_life u.rule ≡ true) (low : least_level u.rule ≡ 3) (states : (x y : ℤ) → u.cell x y < 256)
    (binary : (x y : ℤ) → u.cell x y ≤ 1)
    (outside : IsBlankOutside MAX_LEVEL u.cell) (box : Bounds) (least : IsBoundingBox u.cell box) (k : ℕ) (from_two : 2 ≤ k) (to_twelve : k ≤ 12)
    (little : IsLittle k box) where
  module _ (e c r : Bool) where
    abbrev turn : Turn
    turn = turn_of e c r

    -- its root is that of its cells
    whole-is : (v : Universe) → IsMoved MAX_LEVEL (image turn u) v → whole MAX_LEVEL v ≡ trimmed_square (centred_square v.cell MAX_LEVEL) 3
    unfolding whole
    whole-is v moved =
        ap (λ (rule : Rule). trimmed_square (centred_square v.cell MAX_LEVEL) (least_level rule)) (sym moved.shift.rule)
        ∙ ap (trimmed_square (centred_square v.cell MAX_LEVEL)) low

    module _ (v : Universe) (moved : IsMoved MAX_LEVEL (image turn u) v) where
      abbrev root : Tree
      root = trimmed_square (centred_square v.cell MAX_LEVEL) 3

      there : IsLittle k (image_box e c r box)
      there = image-little e c r k box little

      here : IsBoundingBox (image_cells turn u.cell) (image_box e c r box)
      here = image-box e c r u.cell box least

      corner-of : IsAtCorner v.cell k
      corner-of = form-corner (image turn u) v moved (image_box e c r box) here k to_twelve there (λ x y. states _ _)

      far-of : (n : ℕ) → IsFar n box → HasFarCell v.cell n
      far-of n far = form-far (image turn u) v moved (image_box e c r box) here k to_twelve there n (image-far e c r n box far)

      form-binary : (x y : ℤ) → v.cell x y ≤ 1
      form-binary x y =
          subst (λ (n : ℕ). n ≤ 1) (sym (form-cells (image turn u) v moved (image_box e c r box) here k to_twelve there x y)) (binary _ _)

      -- a square near its corner is the image of one near the corner of the box
      square-there : (j : ℕ) (a x y : ℤ) → begin c j (a +ℤ low_side c box.left box.right) ≡ x → begin r j (a +ℤ low_side r box.top box.bottom) ≡ y
          → turned_tree turn (square u.cell j x y) ≡ square v.cell j a a
      square-there j a x y ex ey =
          square-turned e c r u.cell box j a x y ex ey ∙ sym (form-square (image turn u) v moved (image_box e c r box) here k to_twelve there j a a)

      -- the text of its root is its own
      root-text : square_text u.rule u.generation root ≡ canon_text MAX_LEVEL v
      unfolding canon_text canonical_file
      root-text =
          ap (square_text u.rule u.generation) (sym (whole-is v moved))
          ∙ (λ i. square_text (moved.shift.rule i) (moved.shift.generation i) (whole MAX_LEVEL v))

    -- no form of the image has more squares than a square of level 13 of two states
    pub image-small : (most : ℕ) → 65552 + most_parts 11 ≤ most → ¬ HasLargerForm most (image turn u)
    image-small most enough =
        no-larger 11 most (image turn u) (image-outside MAX_LEVEL (lit≤ tt) turn u.cell outside)
        (λ v moved. let at = corner-of v moved in let is = sym (whole-is v moved) in let level = lower v.cell k from_two to_twelve at in (
          subst IsFull is (full-root v.cell k from_two to_twelve at),
          subst (λ (t : Tree). depth t ≤ 13) is (omega (arith, level, to_twelve)),
          subst (HasStatesUpTo 1) is (root-states v.cell k from_two to_twelve at centre 1 (form-binary v moved)),
        )) enough

    -- the text of the leaf at its corner is no greater than its own
    pub up-to-image-text : IsFar 4 box → (leaf : Tree) → leaf ≡ square u.cell 3 (leaf_start c box.left box.right) (leaf_start r box.top box.bottom)
        → is_blank_tree leaf ≡ false → (text : List ℕ) → IsImageText MAX_LEVEL u turn text
        → IsUpTo (square_text u.rule u.generation (turned_tree turn leaf)) text
    up-to-image-text far leaf at live text of_image =
        let v = of_image.form in
        let moved = of_image.moved in
        let first = square v.cell 3 (pos 0) (pos 0) in
        let same : turned_tree turn leaf ≡ first = ap (turned_tree turn) at
        ∙ square-there v moved 3 (pos 0) _ _ (begin-start c box.left box.right) (begin-start r box.top box.bottom) in
        let some : is_blank_tree first ≡ false = ap is_blank_tree (sym same) ∙ blank-image turn leaf ∙ live in
        let root = trimmed_square (centred_square v.cell MAX_LEVEL) 3 in
        let whole-text : square_text u.rule u.generation root ≡ text = root-text v moved ∙ sym of_image.is in
        subst (IsUpTo (square_text u.rule u.generation (turned_tree turn leaf))) whole-text
        (subst (λ (t : Tree). IsUpTo (square_text u.rule u.generation t) (square_text u.rule u.generation root)) (sym same)
        (up-to-first u.rule life low u.generation first (level-of v.cell 3 (pos 0) (pos 0)) root (leaf-alone v.cell (pos 0) (pos 0) some)
        (root-begins v.cell k from_two to_twelve (corner-of v moved) centre (far-of v moved 4 far) some)))

    -- ---- an image of a small pattern

    -- it has a form
    form-exists : (v : Universe) × IsMoved MAX_LEVEL (image turn u) v
    form-exists =
        let there = image-outside MAX_LEVEL (lit≤ tt) turn u.cell outside in
        moved-exists MAX_LEVEL (image turn u) there (has-box MAX_LEVEL (image turn u) there)

    -- the text of its root is that of the image
    text-of-root : (t : Tree) → ((v : Universe) (moved : IsMoved MAX_LEVEL (image turn u) v) → t ≡ trimmed_square (centred_square v.cell MAX_LEVEL) 3)
        → IsImageText MAX_LEVEL u turn (square_text u.rule u.generation t)
    text-of-root t is =
        let v = form-exists.0 in
        let moved = form-exists.1 in
        record { form = v; moved = moved; is = ap (square_text u.rule u.generation) (is v moved) ∙ root-text v moved }

    -- of four columns and rows at most: the root is the leaf about the corner
    pub leaf-image : k ≡ 2 → (x y : ℤ) (t : Tree) → t ≡ square u.cell 3 x y → begin c 3 (neg_ℤ (pos 4) +ℤ low_side c box.left box.right) ≡ x
        → begin r 3 (neg_ℤ (pos 4) +ℤ low_side r box.top box.bottom) ≡ y
        → IsImageText MAX_LEVEL u turn (square_text u.rule u.generation (turned_tree turn t))
    leaf-image two x y t at ex ey =
        text-of-root (turned_tree turn t) (λ v moved.
        let most = lower v.cell k from_two to_twelve (corner-of v moved) in
        let least = from v.cell k from_two to_twelve (corner-of v moved) in
        ap (turned_tree turn) at ∙ square-there v moved 3 (neg_ℤ (pos 4)) x y ex ey
        ∙ sym (root-about v.cell k from_two to_twelve (corner-of v moved) centre (omega (arith, two, most, least))))

    -- of more: its south-eastern quarter is the square in the corner
    pub seated-image : (j : ℕ) → k ≡ suc j → IsFar (2 ^ j) box → (x y : ℤ) (t : Tree) → t ≡ square u.cell k x y
        → begin c k (pos 0 +ℤ low_side c box.left box.right) ≡ x → begin r k (pos 0 +ℤ low_side r box.top box.bottom) ≡ y
        → IsImageText MAX_LEVEL u turn (square_text u.rule u.generation (seated (turned_tree turn t)))
    seated-image j is far x y t at ex ey =
        text-of-root (seated (turned_tree turn t)) (λ v moved.
        let most = lower v.cell k from_two to_twelve (corner-of v moved) in
        let least = higher v.cell k from_two to_twelve (corner-of v moved) j (far-of v moved (2 ^ j) far) in
        let same : turned_tree turn t ≡ square v.cell k (pos 0) (pos 0) = ap (turned_tree turn) at ∙ square-there v moved k (pos 0) x y ex ey in
        let level = level-of v.cell k (pos 0) (pos 0) in
        ap seated same ∙ (λ i. quad (blank (level i)) (blank (level i)) (blank (level i)) (square v.cell k (pos 0) (pos 0)))
        ∙ sym (root-at v.cell k from_two to_twelve (corner-of v moved) centre (omega (arith, is, most, least))))

  -- so is the lesser of the texts of the leaf, turned by both turns
  pub bound-of-leaf : IsFar 4 box → (c r : Bool) (most : ℕ) → 65552 + most_parts 11 ≤ most → (leaf : Tree) → IsCornerLeaf u box c r leaf → (text : List ℕ)
      → IsUpTo text (square_text u.rule u.generation (turned_tree (turn_of false c r) leaf))
      → IsUpTo text (square_text u.rule u.generation (turned_tree (turn_of true c r) leaf)) → IsLowerBound MAX_LEVEL most u c r text
  bound-of-leaf far c r most enough leaf is text first second = record {
    small = λ e. image-small e c r most enough;
    least = λ e other of_image. elim e as (λ e. IsImageText MAX_LEVEL u (turn_of e c r) other → IsUpTo text other) [
      | false ↦ λ it. up-to-on _ _ _ first (up-to-image-text false c r far leaf is.at is.live other it)
      | true ↦ λ it. up-to-on _ _ _ second (up-to-image-text true c r far leaf is.at is.live other it)
    ] of_image;
  }

-- ---- the leaf as a pattern

pub life-low : (rule : Rule) → is_life rule ≡ true → least_level rule ≡ 3
life-low (Life sets) life = refl
life-low (Named name) life = absurd (true≢false (sym life))

module _ (t : Tree) (box : Bounds) (least : IsBoundingBoxOfTree t box) (deep : 3 ≤ depth t) where
  half-long : 2 ^ 2 ≤ half_side t
  half-long = pow_mono {i = 2} {j = depth t - 1} (omega (arith, deep))

  -- it begins near the middle
  pub column-start : (c : Bool) → IsNearMiddle (depth t) (leaf_start c box.left box.right)
  column-start false = column-near t box least (omega (arith, deep))
  column-start true =
      let right = cells_lie_inside t _ _ least.at_right.1 in
      let w = right.0 in
      let e = right.1 in
      let half = half-long in
      record { low = omega (arith, ints, w, half); high = omega (arith, ints, e) }

  pub row-start : (r : Bool) → IsNearMiddle (depth t) (leaf_start r box.top box.bottom)
  row-start false = row-near t box least (omega (arith, deep))
  row-start true =
      let bottom = cells_lie_inside t _ _ least.at_bottom.1 in
      let n = bottom.2 in
      let s = bottom.3 in
      let half = half-long in
      record { low = omega (arith, ints, n, half); high = omega (arith, ints, s) }

  -- so does each square of level 3 that meets the box
  pub near-column : (x : ℤ) → x ≤ℤ box.right → box.left ≤ℤ (x +ℤ pos 7) → IsNearMiddle (depth t) x
  near-column x to from =
      let w = (cells_lie_inside t _ _ least.at_left.1).0 in
      let e = (cells_lie_inside t _ _ least.at_right.1).1 in
      let half = half-long in
      record { low = omega (arith, ints, w, from, half); high = omega (arith, ints, e, to) }

  pub near-row : (y : ℤ) → y ≤ℤ box.bottom → box.top ≤ℤ (y +ℤ pos 7) → IsNearMiddle (depth t) y
  near-row y to from =
      let n = (cells_lie_inside t _ _ least.at_top.1).2 in
      let s = (cells_lie_inside t _ _ least.at_bottom.1).3 in
      let half = half-long in
      record { low = omega (arith, ints, n, from, half); high = omega (arith, ints, s, to) }

  -- and one that doesn't is blank
  pub adjacent-columns : (x y : ℤ) → (box.right <ℤ x) ⊎ ((x +ℤ pos 7) <ℤ box.left) → eight 0 ≡ square (tree_cell t) 3 x y
  adjacent-columns x y out = no-cells (tree_cell t) 3 x y (λ u v w e n s. zero_unless _ (λ some.
      let i = least.inside u v some in
      let from = i.0 in
      let to = i.1 in
      elim out [
        | inl a ↦ omega (arith, ints, w, e, a, from, to)
        | inr a ↦ omega (arith, ints, w, e, a, from, to)
      ]))

  pub adjacent-rows : (x y : ℤ) → (box.bottom <ℤ y) ⊎ ((y +ℤ pos 7) <ℤ box.top) → eight 0 ≡ square (tree_cell t) 3 x y
  adjacent-rows x y out = no-cells (tree_cell t) 3 x y (λ u v w e n s. zero_unless _ (λ some.
      let i = least.inside u v some in
      let from = i.2 in
      let to = i.3 in
      elim out [
        | inl a ↦ omega (arith, ints, n, s, a, from, to)
        | inr a ↦ omega (arith, ints, n, s, a, from, to)
      ]))
