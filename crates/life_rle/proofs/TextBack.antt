-- The written text is read back.
use Rattle.std.proofs.Common.{◌≡◌, ℕ, zero, suc, ◌^◌, ◌<◌, ◌≤◌, inl, inr, true, false, cond, List, [], ◌∷◌, ◌++◌, length, map, refl, sym, ap, ◌∙◌, subst, None, Ok, Err, arith, length-append, ltb, ℤ, pos, negsuc, neg_ℤ, ◌+ℤ◌, ◌≤ℤ◌, ◌<ℤ◌, decimal, codes}
use Rattle.std.specs.Fmt.{signed_decimal}
use Rattle.std.proofs.lemmas.Int.{ints}
use Rattle.std.proofs.lemmas.Bool.Decides.{nat_tests}
use Rattle.life_base.specs.declared.kind.Kind.TheVariants.{LineTooLong}
use Rattle.life_base.specs.declared.cell.TheConstants.{MAX_LEVEL}
use Rattle.life_base.specs.declared.rule.Rule.{Rule}
use Rattle.life_base.specs.Text.{trim_start}
use Rattle.life_base.specs.Rules.{IsRule, rule_of, rule_text, RulesReadBack}
use Rattle.life_rle.specs.declared.item.Item.{Item}
use Rattle.life_rle.specs.declared.item.Item.TheVariants.{Cells, RowEnds}
use Rattle.life_rle.specs.declared.position.Position.{Position}
use Rattle.life_rle.specs.declared.line.Opening.TheVariants.{PositionLine, Header}
use Rattle.life_rle.specs.Position.{position_of, and_then}
use Rattle.life_rle.specs.Plane.{is_coordinate, rle_plane_end}
use Rattle.life_rle.specs.Grammar.{opening_of, IsUnmarked, IsMarked}
use Rattle.life_rle.specs.Pattern.{Rle, cell_among, placed_after, first_fault}
use Rattle.life_rle.specs.Header.{header_of}
use Rattle.life_rle.specs.Written.{position_text, generation_text, header_text, rle_lines, item_lines, item_text, items_from, box_of, box_side}
use Rattle.life_rle.specs.Laws.{StatesReadBack, RleTextReadsBack}
use Rattle.life_rle.proofs.FileLines.{AreWritten, wrapped-IsMarked}
use Rattle.life_rle.proofs.ReadBack.{is_one_line, AreLines, lines-ended, header_of-written}
use Rattle.life_rle.proofs.RuleTexts.{rule_text-is, visible-one_line, visible-bare}
use Rattle.life_rle.proofs.OneLine.{one_line-append, wrapped-AreLines, decimal-one_line, item_text-one_line}
use Rattle.life_rle.proofs.ReadPosition.{IsShort, position_of-written}
use Rattle.life_rle.proofs.Places.{placed_from, placed_behind-from}
use Rattle.life_rle.proofs.CellsLaw.{items_from-good, items_from-state}
use Rattle.life_rle.proofs.Sorting.{AreGood-AreWritten, AreGood-sound, sorted-Follow, sorted-IsInPlane}
use Rattle.life_base.proofs.Basics.{plus_zero}
use Rattle.life_base.proofs.Texts.{digits_fit}

-- ---- the numbers of the two lines before

short-coordinate : (z : ℤ) → neg_ℤ (rle_plane_end MAX_LEVEL) ≤ℤ z → z <ℤ rle_plane_end MAX_LEVEL → IsShort z
short-coordinate (pos n) h k = omega (arith, ints)
short-coordinate (negsuc n) h k = omega (arith, ints)

is_coordinate-between : (z : ℤ) → neg_ℤ (rle_plane_end MAX_LEVEL) ≤ℤ z → z <ℤ rle_plane_end MAX_LEVEL → is_coordinate MAX_LEVEL z ≡ true
is_coordinate-between z h k = grind (arith, ints)

span-small : (low high : ℤ) → neg_ℤ (rle_plane_end MAX_LEVEL) ≤ℤ low → low ≤ℤ high → high <ℤ rle_plane_end MAX_LEVEL → box_side low high < 2 ^ 64
span-small low high l m h = grind (arith, ints)

signed-short : (z : ℤ) → IsShort z → length (signed_decimal z) ≤ 21
signed-short (pos n) h = let s = digits_fit n h in omega (arith, s)
signed-short (negsuc n) h = let s = digits_fit (suc n) h in omega (arith, s)

signed-one_line : (z : ℤ) → IsShort z → is_one_line (signed_decimal z) ≡ true
signed-one_line (pos n) h = decimal-one_line n h
signed-one_line (negsuc n) h = decimal-one_line (suc n) h

generation-short : (g : ℕ) → g < 2 ^ 64 → length (generation_text g) ≤ 25
generation-short zero h = omega arith
generation-short (suc n) h = let s = digits_fit (suc n) h in omega (arith, length-append (codes " Gen=") (decimal (suc n)), s)

generation-one_line : (g : ℕ) → g < 2 ^ 64 → is_one_line (generation_text g) ≡ true
generation-one_line zero h = refl
generation-one_line (suc n) h = one_line-append (codes " Gen=") (decimal (suc n)) refl (decimal-one_line (suc n) h)

-- ---- the position line

position-short : (x y : ℤ) (g : ℕ) → IsShort x → IsShort y → g < 2 ^ 64 → length (position_text x y g) ≤ 100
position-short x y g sx sy h =
    let a = signed-short x sx in let b = signed-short y sy in let c = generation-short g h in
    omega (
      arith,
      length-append ((codes "#CXRLE Pos=" ++ signed_decimal x) ++ (codes "," ++ signed_decimal y)) (generation_text g),
      length-append (codes "#CXRLE Pos=" ++ signed_decimal x) (codes "," ++ signed_decimal y),
      length-append (codes "#CXRLE Pos=") (signed_decimal x),
      length-append (codes ",") (signed_decimal y),
      a,
      b,
      c,
    )

position-one_line : (x y : ℤ) (g : ℕ) → IsShort x → IsShort y → g < 2 ^ 64 → is_one_line (position_text x y g) ≡ true
position-one_line x y g sx sy h =
    one_line-append ((codes "#CXRLE Pos=" ++ signed_decimal x) ++ (codes "," ++ signed_decimal y)) (generation_text g)
    (one_line-append (codes "#CXRLE Pos=" ++ signed_decimal x) (codes "," ++ signed_decimal y)
    (one_line-append (codes "#CXRLE Pos=") (signed_decimal x) refl (signed-one_line x sx))
    (one_line-append (codes ",") (signed_decimal y) refl (signed-one_line y sy)))
    (generation-one_line g h)

not_long : (n : ℕ) → n ≤ 1000 → ltb (2 ^ 20) n ≡ false
not_long n h = grind (arith, nat_tests)

pub position-read : (x y : ℤ) (g : ℕ) → IsShort x → IsShort y → is_coordinate MAX_LEVEL x ≡ true → is_coordinate MAX_LEVEL y ≡ true → g < 2 ^ 64
    → opening_of MAX_LEVEL (position_text x y g) ≡ Ok (PositionLine (record { x = x; y = y; generation = g }))
position-read x y g sx sy cx cy h =
    let small = position-short x y g sx sy h in
    ap (λ t. cond t (Err LineTooLong) (and_then (position_of MAX_LEVEL (position_text x y g)) (λ position. Ok (PositionLine position))))
    (not_long (length (position_text x y g)) (omega (arith, small)))
    ∙ ap (λ p. and_then p (λ position. Ok (PositionLine position))) (position_of-written x y g sx sy cx cy h)

-- ---- the header line

header-read : (w h : ℕ) (rule : Rule) → w < 2 ^ 64 → h < 2 ^ 64 → trim_start (rule_text rule) ≡ rule_text rule → length (rule_text rule) ≤ 255
    → rule_of (rule_text rule) ≡ Ok rule
    → opening_of MAX_LEVEL (header_text w h rule) ≡ Ok (Header rule)
header-read w h rule sw sh bare short law =
    let a = digits_fit w sw in let b = digits_fit h sh in
    let size : length (header_text w h rule) ≤ 1000 =
    omega (
      arith,
      length-append ((codes "x = " ++ decimal w) ++ (codes ", y = " ++ decimal h)) (codes ", rule = " ++ rule_text rule),
      length-append (codes "x = " ++ decimal w) (codes ", y = " ++ decimal h),
      length-append (codes "x = ") (decimal w),
      length-append (codes ", y = ") (decimal h),
      length-append (codes ", rule = ") (rule_text rule),
      a,
      b,
      short,
    ) in
    ap (λ t. cond t (Err LineTooLong) (and_then (header_of (header_text w h rule)) (λ rule. Ok (Header rule)))) (not_long (length (header_text w h rule)) size)
    ∙ ap (λ r. and_then r (λ rule. Ok (Header rule))) (header_of-written w h rule sw sh bare law)

header-one_line : (w h : ℕ) (rule : Rule) → w < 2 ^ 64 → h < 2 ^ 64 → is_one_line (rule_text rule) ≡ true → is_one_line (header_text w h rule) ≡ true
header-one_line w h rule sw sh r =
    one_line-append ((codes "x = " ++ decimal w) ++ (codes ", y = " ++ decimal h)) (codes ", rule = " ++ rule_text rule)
    (one_line-append (codes "x = " ++ decimal w) (codes ", y = " ++ decimal h) (one_line-append (codes "x = ") (decimal w) refl (decimal-one_line w sw))
    (one_line-append (codes ", y = ") (decimal h) refl (decimal-one_line h sh)))
    (one_line-append (codes ", rule = ") (rule_text rule) refl r)

-- ---- the lines together

written-one_line : (rule : Rule) (items : List Item) → AreWritten rule items → AreLines (map (item_text rule) items ++ (33 ∷ []) ∷ [])
written-one_line rule [] w = (refl, tt)
written-one_line rule (Cells n s ∷ items) w = (item_text-one_line rule (Cells n s) w.0.1, written-one_line rule items w.1)
written-one_line rule (RowEnds n ∷ items) w = (item_text-one_line rule (RowEnds n) w.0.1, written-one_line rule items w.1)

-- a position and a size that can be written
pub record AreSmall (x y : ℤ) (w h g : ℕ) : Type 0 where
  pub left : neg_ℤ (rle_plane_end MAX_LEVEL) ≤ℤ x
  pub right : x <ℤ rle_plane_end MAX_LEVEL
  pub top : neg_ℤ (rle_plane_end MAX_LEVEL) ≤ℤ y
  pub bottom : y <ℤ rle_plane_end MAX_LEVEL
  pub width : w < 2 ^ 64
  pub height : h < 2 ^ 64
  pub generation : g < 2 ^ 64

module _ (states : StatesReadBack) (rules : RulesReadBack) (rule : Rule) (r : IsRule rule) (x y : ℤ) (w h g : ℕ) (n : AreSmall x y w h g) (items : List Item)
    (written : AreWritten rule items) where
  abbrev file : Rle
  file = record { rule = rule; position = record { x = x; y = y; generation = g }; items = items }

  abbrev head : Rle
  head = record { rule = rule; position = record { x = x; y = y; generation = g }; items = [] }

  abbrev lines : List (List ℕ)
  lines = position_text x y g ∷ header_text w h rule ∷ item_lines rule items

  begun : IsUnmarked MAX_LEVEL (position_text x y g ∷ header_text w h rule ∷ []) head
  begun = record {
    before = position_text x y g ∷ [];
    header = header_text w h rule;
    body = [];
    whole = refl;
    preamble = inr (
      head.position,
      position-read x y g (short-coordinate x n.left n.right) (short-coordinate y n.top n.bottom)
          (is_coordinate-between x n.left n.right) (is_coordinate-between y n.top n.bottom) n.generation,
      refl,
    );
    rule = header-read w h rule n.width n.height (visible-bare (rule_text rule) (rule_text-is rule r).bytes) (rule_text-is rule r).short (rules rule r);
    items = refl;
    sound = refl;
  }

  pub lines-IsMarked : first_fault MAX_LEVEL rule (placed_after head.position [] items) ≡ None → IsMarked MAX_LEVEL lines file
  lines-IsMarked sound = wrapped-IsMarked states (position_text x y g ∷ header_text w h rule ∷ []) head [] [] items begun (λ rest. refl) (inl (refl, refl))
      (omega arith) written sound

  pub lines-AreLines : AreLines lines
  lines-AreLines = (
    position-one_line x y g (short-coordinate x n.left n.right) (short-coordinate y n.top n.bottom) n.generation,
    (
      header-one_line w h rule n.width n.height (visible-one_line (rule_text rule) (rule_text-is rule r).bytes),
      wrapped-AreLines [] (map (item_text rule) items ++ (33 ∷ []) ∷ []) refl (written-one_line rule items written),
    ),
  )

-- items from the corner on
placed-corner : (position : Position) (items : List Item) → placed_after position [] items ≡ placed_from position.x position.x position.y items
placed-corner position items =
    placed_behind-from position [] items
    ∙ ap (λ x. placed_from position.x x (position.y +ℤ pos 0) items) (plus_zero position.x)
    ∙ ap (λ y. placed_from position.x position.x y items) (plus_zero position.y)

pub text-back : StatesReadBack → RulesReadBack → RleTextReadsBack
text-back states rules rule g [] r gs sorted =
    let small : AreSmall (pos 0) (pos 0) 0 0 g = record {
      left = omega (arith, ints);
      right = omega (arith, ints);
      top = omega (arith, ints);
      bottom = omega (arith, ints);
      width = omega arith;
      height = omega arith;
      generation = gs;
    } in
    let marked = lines-IsMarked states rules rule r (pos 0) (pos 0) 0 0 g small [] tt refl in
    let ended = lines-ended (rle_lines rule g []) (lines-AreLines states rules rule r (pos 0) (pos 0) 0 0 g small [] tt) in (
      file states rules rule r (pos 0) (pos 0) 0 0 g small [] tt,
      inr (subst (λ ls. IsMarked MAX_LEVEL ls (file states rules rule r (pos 0) (pos 0) 0 0 g small [] tt)) (sym ended) marked),
      refl,
      refl,
      λ x y. refl,
    )
text-back states rules rule g (c ∷ cells) r gs sorted =
    let box = box_of c cells in
    let inside = sorted-IsInPlane rule c cells sorted in
    let follow = sorted-Follow rule c cells sorted in
    let items = items_from box.left box.left box.top (c ∷ cells) in
    let good = items_from-good rule box.left box.left box.top (c ∷ cells) inside.left inside.left inside.top follow in
    let left = inside.left in let wide = inside.wide in let right = inside.right in
    let top = inside.top in let high = inside.high in let bottom = inside.bottom in
    let small : AreSmall box.left box.top (box_side box.left box.right) (box_side box.top box.bottom) g = record {
      left = left;
      right = omega (arith, ints, wide, right);
      top = top;
      bottom = omega (arith, ints, high, bottom);
      width = span-small box.left box.right left wide right;
      height = span-small box.top box.bottom top high bottom;
      generation = gs;
    } in
    let written = AreGood-AreWritten rule box.left box.left box.top items good in
    let where-placed = placed-corner (record { x = box.left; y = box.top; generation = g }) items in
    let sound = ap (first_fault MAX_LEVEL rule) where-placed ∙ AreGood-sound rule box.left box.left box.top items good in
    let f = file states rules rule r box.left box.top (box_side box.left box.right) (box_side box.top box.bottom) g small items written in
    let marked = lines-IsMarked states rules rule r box.left box.top (box_side box.left box.right) (box_side box.top box.bottom) g small items written sound in
    let ended = lines-ended (rle_lines rule g (c ∷ cells))
    (lines-AreLines states rules rule r box.left box.top (box_side box.left box.right) (box_side box.top box.bottom) g small items written) in (
      f,
      inr (subst (λ ls. IsMarked MAX_LEVEL ls f) (sym ended) marked),
      refl,
      refl,
      λ x y. ap (λ ps. cell_among ps x y) where-placed ∙ items_from-state rule box.left box.left box.top (c ∷ cells) x y left left top follow,
    )
