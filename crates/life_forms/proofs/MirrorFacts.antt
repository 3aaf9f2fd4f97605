-- A square whose image with columns and rows counted from the other side or not is in its place: the image of its root is the root of the image's form.
use Rattle.std.proofs.Common.{◌≡◌, ◌⊎◌, inl, inr, ℕ, ◌^◌, ◌<◌, ◌≤◌, Bool, true, false, refl, sym, ap, ap₂, ◌∙◌, subst, subst₂, ℤ, pos, neg_ℤ, ◌+ℤ◌, ◌≤ℤ◌, ◌<ℤ◌, arith, lit≤, to_z, of_z, w64, SFits}
use Rattle.std.proofs.lemmas.Int.{ints, to_z-of_z}
use Rattle.life_base.specs.Tree.{Tree, depth, tree_cell, IsFull}
use Rattle.life_base.specs.declared.bounds.Bounds.{Bounds}
use Rattle.life_base.specs.declared.cell.TheConstants.{MAX_LEVEL}
use Rattle.life_base.specs.declared.rule.Rule.{Rule}
use Rattle.life_mc.specs.Macrocell.{largest_state}
use Rattle.life_quad.specs.Cells.{IsBoundingBoxOfTree}
use Rattle.life_quad.specs.Moves.{trimmed_square}
use Rattle.life_quad.specs.Refused.{SomePart}
use Rattle.life_quad.specs.Store.{Nodes}
use Rattle.life_quad.specs.Turning.{turned_tree}
use Rattle.life_quad.proofs.LawLemmas.{trimming_stops}
use Rattle.life_quad.specs.declared.id.Id.{Id}
use Rattle.life_quad.proofs.TurningLemmas.{depth-turned, full-turned, part-of-image}
use Rattle.life_pattern.specs.Laws.{SquaresAreCentred, CentredSquaresTellCells}
use Rattle.life_pattern.specs.Store.{IsKnown, IsTrimmed, content}
use Rattle.life_writer.specs.Texts.{IsBoundingBox, IsOrdered}
use Rattle.life_pattern.specs.Universe.{Universe, centred_square, least_level, square_universe}
use Rattle.life_slide.specs.Pieces.{cells_from, plane_from, root_from, side_origin}
use Rattle.life_slide.proofs.MovedLemmas.{cell-below}
use Rattle.life_forms.specs.Forms.{IsInPlace, IsMoved, at_edge, at_zero}
use Rattle.life_forms.specs.Needed.{IsMovedRoot}
use Rattle.life_forms.specs.Turns.{Turn, counted_coordinate, image, opposite_coordinate, turn_of}
use Rattle.life_forms.proofs.CornerFacts.{counted_box, high_side, image-box, low_side, side-long}
use Rattle.life_forms.proofs.ImageFacts.{turned-centred}
use Rattle.life_forms.proofs.MovedFacts.{cells-centred, centred-is, depth-centred, full-centred, root-moved}
use Rattle.life_forms.proofs.PatternFacts.{least-low, least-one, plane-trimmed, shift-up-to}
use Rattle.life_forms.proofs.PlaneFacts.{form-outside, high-end}
use Rattle.life_forms.proofs.SizeFacts.{turned-twice}
use Rattle.life_forms.proofs.TransposeFacts.{cells-of, trimmed-of-turned}
use Rattle.life_forms.proofs.TurnFacts.{backwards-is, image-outside, image_cells}

-- ---- coordinates

-- counted from the other side, columns that begin at the end of a side begin at the side
from-origin : (last : Bool) (low high u : ℤ) → counted_coordinate last (u +ℤ low_side last low high) ≡ counted_coordinate last u +ℤ side_origin last low high
from-origin false low high u = refl
from-origin true low high u =
    let a = backwards-is (u +ℤ opposite_coordinate high) in
    let b = backwards-is u in
    let c = backwards-is high in
    omega (arith, ints, a, b, c)

-- so far the image of a side moves
abbrev pub image_way : Bool → ℤ → ℤ
image_way false way = way
image_way true way = neg_ℤ way

from-way : (last : Bool) (way u : ℤ) → counted_coordinate last (u +ℤ neg_ℤ (image_way last way)) ≡ counted_coordinate last u +ℤ neg_ℤ way
from-way false way u = refl
from-way true way u =
    let a = backwards-is (u +ℤ neg_ℤ (neg_ℤ way)) in
    let b = backwards-is u in
    omega (arith, ints, a, b)

-- ---- the image of a square

module _ (centre : SquaresAreCentred) (tell : CentredSquaresTellCells) (columns rows : Bool) (t : Tree) (full : IsFull t) (high : 1 ≤ depth t) where
  abbrev turn : Turn
  turn = turn_of false columns rows

  abbrev pub mirrored : Tree
  mirrored = turned_tree turn t

  pub full-mirrored : IsFull mirrored
  full-mirrored = full-turned turn t full

  pub depth-mirrored : depth mirrored ≡ depth t
  depth-mirrored = depth-turned turn t full

  pub low-mirrored : depth t ≤ MAX_LEVEL → depth mirrored ≤ MAX_LEVEL
  low-mirrored low = let deep = depth-mirrored in omega (arith, deep, low)

  cells-mirrored : (x y : ℤ) → tree_cell mirrored x y ≡ tree_cell t (counted_coordinate columns x) (counted_coordinate rows y)
  cells-mirrored = cells-of centre tell turn t full high

  -- as a pattern it is the image of the pattern
  pub mirrored-universe : (rule : Rule) (generation : ℕ) → square_universe rule generation mirrored ≡ image turn (square_universe rule generation t)
  mirrored-universe rule generation = λ i. record { rule = rule; generation = generation; cell = λ x y. cells-mirrored x y i }

  pub mirrored-box : (box : Bounds) → IsBoundingBox (tree_cell t) box → IsBoundingBoxOfTree mirrored (counted_box columns rows box)
  mirrored-box box least =
      let is = subst (λ (f : ℤ → ℤ → ℕ). IsBoundingBox f (counted_box columns rows box)) (λ i x y. sym (cells-mirrored x y) i)
      (image-box false columns rows (tree_cell t) box least) in
      record { inside = is.inside; at_left = is.at_left; at_right = is.at_right; at_top = is.at_top; at_bottom = is.at_bottom }

  -- the plane of its moved cells is the image of theirs
  plane-mirrored : (a b c d : ℤ) → ((u : ℤ) → counted_coordinate columns (u +ℤ c) ≡ counted_coordinate columns u +ℤ a)
      → ((v : ℤ) → counted_coordinate rows (v +ℤ d) ≡ counted_coordinate rows v +ℤ b) → turned_tree turn (plane_from t a b) ≡ plane_from mirrored c d
  plane-mirrored a b c d ex ey =
      ap (turned_tree turn) (centred-is (cells_from t a b)) ∙ turned-centred turn (cells_from t a b) MAX_LEVEL (lit≤ tt)
      ∙ (λ i. centred_square (λ u v. (sym (cells-mirrored (u +ℤ c) (v +ℤ d) ∙ ap₂ (tree_cell t) (ex u) (ey v))) i) MAX_LEVEL)
      ∙ sym (centred-is (cells_from mirrored c d))

  pub way-mirrored : (a b : ℤ) → turned_tree turn (plane_from t (neg_ℤ a) (neg_ℤ b))
      ≡ plane_from mirrored (neg_ℤ (image_way columns a)) (neg_ℤ (image_way rows b))
  way-mirrored a b = plane-mirrored _ _ _ _ (from-way columns a) (from-way rows b)

  below-from : (a b x y : ℤ) → cells_from t a b x y < 256
  below-from a b x y = cell-below t full _ _

  pub root-mirrored : (box : Bounds) (m : ℕ) → 1 ≤ m → m ≤ 62
      → turned_tree turn (root_from t (side_origin columns box.left box.right) (side_origin rows box.top box.bottom) m)
      ≡ root_from mirrored (counted_box columns rows box).left (counted_box columns rows box).top m
  root-mirrored box m positive le =
      let a = side_origin columns box.left box.right in
      let b = side_origin rows box.top box.bottom in
      let is = centred-is (cells_from t a b) in
      let plane-full : IsFull (plane_from t a b) = subst IsFull (sym is) (full-centred (cells_from t a b) (below-from a b)) in
      let deep : depth (plane_from t a b) ≡ 62 = ap depth is ∙ depth-centred (cells_from t a b) (below-from a b) in
      sym (trimmed-of-turned centre tell turn (plane_from t a b) m plane-full positive (omega (arith, deep, le)))
      ∙ ap (λ (s : Tree). trimmed_square s m)
      (plane-mirrored a b (counted_box columns rows box).left (counted_box columns rows box).top (from-origin columns box.left box.right)
      (from-origin rows box.top box.bottom))

-- a part of a square is, turned, one of its image
pub part-mirrored : (columns rows : Bool) (P : Tree → Type 0) (s : Tree) → SomePart P s
    → SomePart (λ w. P (turned_tree (turn_of false columns rows) w)) (turned_tree (turn_of false columns rows) s)
part-mirrored columns rows P s some =
    part-of-image (turn_of false columns rows) P (turned_tree (turn_of false columns rows) s)
    (subst (SomePart P) (sym (turned-twice columns rows s)) some)

-- ---- its side in its place

pub way-of-side : (last : Bool) (low high way : ℤ) → (last ≡ false → IsInPlace MAX_LEVEL (low +ℤ way) (high +ℤ way))
    → (last ≡ true → IsInPlace MAX_LEVEL (opposite_coordinate (high +ℤ way)) (opposite_coordinate (low +ℤ way)))
    → IsInPlace MAX_LEVEL (low_side last low high +ℤ image_way last way) (high_side last low high +ℤ image_way last way)
way-of-side false low high way first second = first refl
way-of-side true low high way first second = subst₂ (IsInPlace MAX_LEVEL) (same high) (same low) (second refl)
  where
    same : (z : ℤ) → opposite_coordinate (z +ℤ way) ≡ opposite_coordinate z +ℤ neg_ℤ way
    same z = let a = backwards-is (z +ℤ way) in let b = backwards-is z in omega (arith, ints, a, b)

-- what the code computes with is the number
pub side-read : (last : Bool) (low high r : ℤ) → IsOrdered low high → SFits w64 r
    → (last ≡ false → IsInPlace MAX_LEVEL (to_z w64 (of_z w64 low) +ℤ r) (to_z w64 (of_z w64 high) +ℤ r))
    → (last ≡ true
    → IsInPlace MAX_LEVEL (opposite_coordinate (to_z w64 (of_z w64 high) +ℤ r)) (opposite_coordinate (to_z w64 (of_z w64 low) +ℤ r)))
    → IsInPlace MAX_LEVEL (low_side last low high +ℤ image_way last (to_z w64 (of_z w64 r))) (high_side last low high +ℤ image_way last (to_z w64 (of_z w64 r)))
side-read last low high r order fits first second =
    let a = order.least in
    let b = order.order in
    let d = order.most in
    let l : to_z w64 (of_z w64 low) ≡ low = omega (arith, ints, a, b, d) in
    let h : to_z w64 (of_z w64 high) ≡ high = omega (arith, ints, a, b, d) in
    let e = to_z-of_z w64 r fits in
    way-of-side last low high _
    (λ is. subst₂ (IsInPlace MAX_LEVEL) (λ i. l i +ℤ sym e i) (λ i. h i +ℤ sym e i) (first is))
    (λ is. subst₂ (IsInPlace MAX_LEVEL) (λ i. opposite_coordinate (h i +ℤ sym e i)) (λ i. opposite_coordinate (l i +ℤ sym e i)) (second is))

-- no side moves so far
pub way-below : (low high way : ℤ) → IsInPlace MAX_LEVEL (low +ℤ way) (high +ℤ way) → neg_ℤ (pos (2 ^ 61)) ≤ℤ low → neg_ℤ (pos (2 ^ 61)) ≤ℤ high
    → way <ℤ pos (2 ^ 62)
way-below low high way (at_zero e f) a b = omega (arith, ints, a, e)
way-below low high way (at_edge f e) a b = let end = high-end in omega (arith, ints, b, e, end)

pub long-mirrored : (columns rows : Bool) (box : Bounds) → ((box.left +ℤ pos (2 ^ 61)) ≤ℤ box.right) ⊎ ((box.top +ℤ pos (2 ^ 61)) ≤ℤ box.bottom)
    → (((counted_box columns rows box).left +ℤ pos (2 ^ 61)) ≤ℤ (counted_box columns rows box).right)
    ⊎ (((counted_box columns rows box).top +ℤ pos (2 ^ 61)) ≤ℤ (counted_box columns rows box).bottom)
long-mirrored columns rows box (inl l) = inl (side-long columns box.left box.right (2 ^ 61) l)
long-mirrored columns rows box (inr l) = inr (side-long rows box.top box.bottom (2 ^ 61) l)

-- ---- the pattern of the root

-- the root has quarters
pub root-deep : SquaresAreCentred → CentredSquaresTellCells → (columns rows : Bool) (t : Tree) → IsFull t → 1 ≤ depth t → (rule : Rule) (generation : ℕ)
    (root : Tree) → IsFull root
    → IsMovedRoot (image (turn_of false columns rows) (square_universe rule generation t)) (least_level rule) (turned_tree (turn_of false columns rows) root)
    → 1 ≤ depth root
root-deep centre tell columns rows t full high rule generation root known is =
    let form = is.form.cell in
    let states : (x y : ℤ) → form x y < 256 = λ x y.
    let most = shift-up-to 255 (image (turn_of false columns rows) (square_universe rule generation t)) is.form is.moved.shift
    (λ a b. let l = cell-below t full (counted_coordinate columns a) (counted_coordinate rows b) in omega (arith, l)) x y in omega (arith, most) in
    let deep = depth-centred form states in
    let low = least-low rule in
    let one = least-one rule in
    let from = (trimming_stops (centred_square form MAX_LEVEL) (least_level rule) (full-centred form states) one).0 (omega (arith, deep, low)) in
    let same : depth (turned_tree (turn_of false columns rows) root) ≡ depth root = depth-turned (turn_of false columns rows) root known in
    let e = ap depth is.square in
    omega (arith, from, one, same, e)

module _ (centre : SquaresAreCentred) (tell : CentredSquaresTellCells) (columns rows : Bool) (t : Tree) (full : IsFull t) (low : depth t ≤ MAX_LEVEL)
    (high : 1 ≤ depth t) (rule : Rule) (generation : ℕ) (root : Tree)
    (known : IsFull root) (some : 1 ≤ depth root)
    (is : IsMovedRoot (image (turn_of false columns rows) (square_universe rule generation t)) (least_level rule)
    (turned_tree (turn_of false columns rows) root)) where
  abbrev about : Turn
  about = turn_of false columns rows

  abbrev image-square : Tree
  image-square = turned_tree about t

  full-image : IsFull image-square
  full-image = full-turned about t full

  low-image : depth image-square ≤ MAX_LEVEL
  low-image = let deep = depth-turned about t full in omega (arith, deep, low)

  -- the same, of the image as a square
  pub is-of-image : IsMovedRoot (square_universe rule generation image-square) (least_level rule) (turned_tree about root)
  is-of-image =
      subst (λ (u : Universe). IsMovedRoot u (least_level rule) (turned_tree about root))
      (sym (mirrored-universe centre tell columns rows t full high rule generation)) is

  pub image-moved : IsMoved MAX_LEVEL (image about (square_universe rule generation t)) (image about (square_universe rule generation root))
  image-moved =
      subst₂ (IsMoved MAX_LEVEL) (mirrored-universe centre tell columns rows t full high rule generation)
      (mirrored-universe centre tell columns rows root known some rule generation)
      (root-moved image-square full-image low-image rule generation (turned_tree about root) is-of-image)

  -- its cells, turned back
  abbrev cells : ℤ → ℤ → ℕ
  cells = image_cells about is-of-image.form.cell

  upto : (most : ℕ) → ((x y : ℤ) → tree_cell t x y ≤ most) → (x y : ℤ) → cells x y ≤ most
  unfolding is-of-image
  upto most states x y =
      shift-up-to most (image about (square_universe rule generation t)) is.form is.moved.shift (λ a b. states _ _) _ _

  below : (x y : ℤ) → cells x y < 256
  below x y =
      let most = upto 255 (λ a b. let l = cell-below t full a b in omega (arith, l)) x y in
      omega (arith, most)

  root-is : root ≡ trimmed_square (centred_square cells MAX_LEVEL) (least_level rule)
  root-is =
      let form = is-of-image.form.cell in
      let states : (x y : ℤ) → form x y < 256 = λ x y.
      let most = shift-up-to 255 (square_universe rule generation image-square) is-of-image.form is-of-image.moved.shift
      (λ a b. let l = cell-below image-square full-image a b in omega (arith, l)) x y in omega (arith, most) in
      let deep = depth-centred form states in
      let low = least-low rule in
      sym (turned-twice columns rows root) ∙ ap (turned_tree about) is-of-image.square
      ∙ sym (trimmed-of-turned centre tell about (centred_square form MAX_LEVEL) (least_level rule)
      (full-centred form states) (least-one rule) (omega (arith, deep, low)))
      ∙ ap (λ (s : Tree). trimmed_square s (least_level rule)) (turned-centred about form MAX_LEVEL (lit≤ tt))

  pub image-trimmed : (store : Nodes) (id : Id) → IsKnown store id → content store id ≡ root → ((x y : ℤ) → tree_cell t x y ≤ largest_state rule)
      → IsTrimmed store (record { rule = rule; generation = generation; root = id })
  image-trimmed store id named e states =
      let outside = image-outside MAX_LEVEL (lit≤ tt) about is-of-image.form.cell
      (form-outside image-square rule generation is-of-image.form low-image is-of-image.moved) in
      plane-trimmed centre store rule generation id (centred_square cells MAX_LEVEL) named (e ∙ root-is) (full-centred cells below)
      (depth-centred cells below)
      (λ x y. subst (λ (n : ℕ). n ≤ largest_state rule) (sym (cells-centred cells below outside x y)) (upto (largest_state rule) states x y))
