-- Images with columns and rows exchanged: that of a moved form is a moved form, has as many squares, and its squares are those of the form, turned.
use Rattle.std.proofs.Common.{◌≡◌, ℕ, ◌<◌, ◌≤◌, Bool, true, false, true≢false, refl, sym, ap, ap₂, ◌∙◌, subst, ℤ, arith, lit≤}
use Rattle.life_base.specs.Tree.{Tree, depth, tree_cell, IsFull}
use Rattle.life_base.specs.declared.bounds.Bounds.{Bounds}
use Rattle.life_base.specs.declared.cell.TheConstants.{MAX_LEVEL}
use Rattle.life_base.specs.declared.rule.Rule.{Rule}
use Rattle.life_base.specs.declared.rule.Rule.TheVariants.{Life, Named}
use Rattle.life_quad.specs.Moves.{trimmed_square}
use Rattle.life_quad.specs.Refused.{SomePart}
use Rattle.life_quad.specs.Store.{Nodes}
use Rattle.life_quad.specs.Turning.{turned_tree}
use Rattle.life_quad.proofs.LawLemmas.{equal_by_plane, known_squares_are_full, trimmed_by_cells, trimmed_is_fixed, trimmed_is_lowest, trimming_keeps_cells, trimming_stops}
use Rattle.life_quad.proofs.TurningLemmas.{depth-turned, full-turned, part-of-image, undone}
use Rattle.life_pattern.specs.Laws.{SquaresAreCentred, CentredSquaresTellCells}
use Rattle.life_writer.specs.Listing.{canon_text, canonical_file, square_text}
use Rattle.life_pattern.specs.Store.{content, universe_in, IsTrimmed}
use Rattle.life_writer.specs.Texts.{IsBoundingBox}
use Rattle.life_pattern.specs.Universe.{Universe, centred_square, least_level, whole}
use Rattle.life_pattern.specs.declared.pattern.Pattern.{Pattern}
use Rattle.life_slide.proofs.MovedLemmas.{cell-below}
use Rattle.life_forms.specs.Forms.{IsMoved}
use Rattle.life_forms.specs.Images.{AreSmall, IsImageText}
use Rattle.life_forms.specs.Needed.{HasLargerForm, SomeOfMovedForm}
use Rattle.life_forms.specs.Turns.{Turn, inverse_turn, turned_column, counted_coordinate, image, turned_row, transpose, turn_of}
use Rattle.life_forms.proofs.ImageFacts.{turned-cells, turned-centred}
use Rattle.life_forms.proofs.MovedFacts.{depth-centred, full-centred, trimmed-whole}
use Rattle.life_forms.proofs.PatternFacts.{shift-up-to}
use Rattle.life_forms.proofs.SizeFacts.{find-form, needs-more-turned}
use Rattle.life_forms.proofs.TurnFacts.{images-keep-shifts, placed-back}

-- ---- moved forms

abbrev pub transposed_box : Bounds → Bounds
transposed_box box = record { left = box.top; top = box.left; right = box.bottom; bottom = box.right }

pub box-transposed : (cell : ℤ → ℤ → ℕ) (box : Bounds) → IsBoundingBox (λ x y. cell y x) box → IsBoundingBox cell (transposed_box box)
box-transposed cell box least = record {
  inside = λ x y some. let i = least.inside y x some in (i.2, i.3, i.0, i.1);
  at_left = least.at_top;
  at_right = least.at_bottom;
  at_top = least.at_left;
  at_bottom = least.at_right;
}

pub transpose-moved : (top : ℕ) (u v : Universe) → IsMoved top u v → IsMoved top (image transpose u) (image transpose v)
transpose-moved top u v moved = record {
  shift = images-keep-shifts transpose u v moved.shift;
  form = λ box least. let place = moved.form (transposed_box box) (box-transposed v.cell box least) in (place.1, place.0);
}

-- ---- squares of images

module _ (centre : SquaresAreCentred) (tell : CentredSquaresTellCells) where
  pub cells-of : (turn : Turn) (t : Tree) → IsFull t → 1 ≤ depth t → (x y : ℤ)
      → tree_cell (turned_tree turn t) x y ≡ tree_cell t (turned_column turn x y) (turned_row turn x y)
  cells-of turn t full high = turned-cells centre tell turn t (turned_tree turn t) full (full-turned turn t full) high (depth-turned turn t full) refl

  -- the image of a square that can't be trimmed can't be trimmed
  trimmed-turned : (turn : Turn) (t : Tree) (m : ℕ) → IsFull t → 1 ≤ m → m ≤ depth t → trimmed_square t m ≡ t
      → trimmed_square (turned_tree turn t) m ≡ turned_tree turn t
  trimmed-turned turn t m full positive high fixed =
      let i = turned_tree turn t in
      let also : IsFull i = full-turned turn t full in
      let deep : depth i ≡ depth t = depth-turned turn t full in
      let s = trimmed_square i m in
      let least : IsFull s = (trimmed_is_fixed i m also positive).0 in
      let stops = trimming_stops i m also positive in
      let from : m ≤ depth s = stops.0 (omega (arith, high, deep)) in
      let keep = trimming_keeps_cells i m also positive in
      let u = turned_tree (inverse_turn turn) s in
      let same : depth u ≡ depth s = depth-turned (inverse_turn turn) s least in
      let some : 1 ≤ depth s = omega (arith, positive, from) in
      let cells : (x y : ℤ) → tree_cell u x y ≡ tree_cell t x y = (λ x y.
      let a = turned_column (inverse_turn turn) x y in
      let b = turned_row (inverse_turn turn) x y in
      let p = placed-back turn.exchange turn.columns turn.rows x y in
      cells-of (inverse_turn turn) s least some x y ∙ keep a b ∙ cells-of turn t full (omega (arith, positive, high)) a b ∙ ap₂ (tree_cell t) p.0 p.1) in
      let low : depth (trimmed_square t m) ≤ depth u =
      trimmed_is_lowest u t m (full-turned (inverse_turn turn) s least) full positive (omega (arith, from, same)) high cells in
      let first : depth (trimmed_square t m) ≡ depth t = ap depth fixed in
      let most : depth s ≤ depth i = stops.2 in
      equal_by_plane s i least also (omega (arith, low, first, most, same, deep)) keep

  pub trimmed-of-turned : (turn : Turn) (t : Tree) (m : ℕ) → IsFull t → 1 ≤ m → m ≤ depth t
      → trimmed_square (turned_tree turn t) m ≡ turned_tree turn (trimmed_square t m)
  trimmed-of-turned turn t m full positive high =
      let r = trimmed_square t m in
      let fix = trimmed_is_fixed t m full positive in
      let from : m ≤ depth r = (trimming_stops t m full positive).0 high in
      let there : depth (turned_tree turn t) ≡ depth t = depth-turned turn t full in
      let here : depth (turned_tree turn r) ≡ depth r = depth-turned turn r fix.0 in
      (trimmed_by_cells (turned_tree turn t) (turned_tree turn r) m (full-turned turn t full) (full-turned turn r fix.0) positive
      (omega (arith, high, there)) (omega (arith, from, here))).1
      (λ x y. cells-of turn t full (omega (arith, positive, high)) x y
      ∙ sym (trimming_keeps_cells t m full positive (turned_column turn x y) (turned_row turn x y))
      ∙ sym (cells-of turn r fix.0 (omega (arith, positive, from)) x y))
      ∙ trimmed-turned turn r m fix.0 positive from fix.1

  pub least-levels : (rule : Rule) → (1 ≤ least_level rule) × (least_level rule ≤ 62)
  least-levels (Life sets) = (lit≤ tt, lit≤ tt)
  least-levels (Named name) = (lit≤ tt, lit≤ tt)

  -- the root of an image is the image of the root
  pub whole-turned : (turn : Turn) (w : Universe) → ((x y : ℤ) → w.cell x y < 256) → whole MAX_LEVEL (image turn w) ≡ turned_tree turn (whole MAX_LEVEL w)
  unfolding whole
  whole-turned turn w states =
      let least = least-levels w.rule in
      let deep : depth (centred_square w.cell MAX_LEVEL) ≡ 62 = depth-centred w.cell states in
      ap (λ (t : Tree). trimmed_square t (least_level w.rule)) (sym (turned-centred turn w.cell MAX_LEVEL (lit≤ tt)))
      ∙ trimmed-of-turned turn (centred_square w.cell MAX_LEVEL) (least_level w.rule) (full-centred w.cell states) least.0 (omega (arith, deep, least.1))

  -- ---- sizes

  below : (n : ℕ) → n ≤ 255 → n < 256
  below n h = omega (arith, h)

  -- what is needed for the form of an image is needed, turned, for that of the pattern
  transposed-form : (P : Tree → Type 0) (v : Universe) → ((x y : ℤ) → v.cell x y ≤ 255) → SomeOfMovedForm P (image transpose v)
      → SomeOfMovedForm (λ t. P (turned_tree transpose t)) v
  transposed-form P v states some =
      let f = some.0 in
      let g = image transpose f in
      let low : (x y : ℤ) → g.cell x y < 256 = λ x y. below _ (shift-up-to 255 (image transpose v) f some.1.shift (λ a b. states b a) y x) in (
        g,
        transpose-moved MAX_LEVEL (image transpose v) f some.1,
        part-of-image transpose P (whole MAX_LEVEL g) (subst (SomePart P) (whole-turned transpose g low) some.2),
      )

  transposed-needed : (v : Universe) → ((x y : ℤ) → v.cell x y ≤ 255) → (t : Tree) → SomeOfMovedForm (λ u. u ≡ t) (image transpose v)
      → SomeOfMovedForm (λ u. u ≡ turned_tree transpose t) v
  transposed-needed v states t some =
      let found = find-form (λ s. turned_tree transpose s ≡ t) v (transposed-form (λ u. u ≡ t) v states some) in
      subst (λ (s : Tree). SomeOfMovedForm (λ u. u ≡ s) v) (sym (undone transpose found.square) ∙ ap (turned_tree transpose) found.holds) found.some

  pub larger-transposed : (most : ℕ) (v : Universe) → ((x y : ℤ) → v.cell x y ≤ 255) → HasLargerForm most (image transpose v) → HasLargerForm most v
  larger-transposed most v states =
      needs-more-turned transpose (λ P. SomeOfMovedForm P (image transpose v)) (λ P. SomeOfMovedForm P v) most (transposed-needed v states)

  -- where an image has no larger form, the one with columns and rows exchanged too has none
  pub small-both : (most : ℕ) (u : Universe) (columns rows : Bool) → ((x y : ℤ) → u.cell x y < 256)
      → ¬ HasLargerForm most (image (turn_of false columns rows) u) → AreSmall most u columns rows
  small-both most u columns rows states small false = small
  small-both most u columns rows states small true = λ large.
      small (larger-transposed most (image (turn_of false columns rows) u)
      (λ x y. let low = states (counted_coordinate columns x) (counted_coordinate rows y) in omega (arith, low)) large)

  -- ---- texts

  -- the text of the root of a pattern, turned, is that of the image, where that is a moved form
  text-of-turned : (turn : Turn) (store : Nodes) (p : Pattern) → IsTrimmed store p
      → square_text p.rule p.generation (turned_tree turn (content store p.root)) ≡ canon_text MAX_LEVEL (image turn (universe_in store p))
  unfolding canon_text canonical_file whole
  text-of-turned turn store p is =
      let root = content store p.root in
      let known = known_squares_are_full store p.root is.known.0 in
      let w = universe_in store p in
      let least = least-levels p.rule in
      let itself : whole MAX_LEVEL w ≡ root = sym (trimmed-whole root known.0 known.1 (least_level p.rule) least.0 is.level) ∙ is.trimmed in
      ap (square_text p.rule p.generation) (sym (whole-turned turn w (cell-below root known.0) ∙ ap (turned_tree turn) itself))

  -- so each of two images has its text from one square
  pub corner-text : (u : Universe) (columns rows : Bool) (store : Nodes) (p : Pattern) → IsTrimmed store p
      → IsMoved MAX_LEVEL (image (turn_of false columns rows) u) (image (turn_of false columns rows) (universe_in store p)) → (exchange : Bool)
      → IsImageText MAX_LEVEL u (turn_of exchange columns rows) (square_text p.rule p.generation (turned_tree (turn_of exchange columns rows)
      (content store p.root)))
  corner-text u columns rows store p is moved false = record {
    form = image (turn_of false columns rows) (universe_in store p);
    moved = moved;
    is = text-of-turned (turn_of false columns rows) store p is;
  }
  corner-text u columns rows store p is moved true = record {
    form = image (turn_of true columns rows) (universe_in store p);
    moved = transpose-moved MAX_LEVEL (image (turn_of false columns rows) u) (image (turn_of false columns rows) (universe_in store p)) moved;
    is = text-of-turned (turn_of true columns rows) store p is;
  }

  -- that of the pattern itself is the text of its root
  pub upright-text : (columns rows : Bool) → columns ≡ false → rows ≡ false → (store : Nodes) (p : Pattern) → IsTrimmed store p
      → canon_text MAX_LEVEL (universe_in store p) ≡ square_text p.rule p.generation (turned_tree (turn_of false columns rows) (content store p.root))
  upright-text false false v w store p is = sym (text-of-turned (turn_of false false false) store p is)
  upright-text true rows v w store p is = absurd (true≢false v)
  upright-text false true v w store p is = absurd (true≢false w)
