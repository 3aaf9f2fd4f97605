-- The text of a pattern in extended RLE is that of the layer below.
use Rattle.std.proofs.Common.{◌≡◌, ◌≢◌, ℕ, zero, suc, ◌+◌, ◌<◌, List, [], ◌∷◌, ◌++◌, length, map, Bool, true, false, cond, refl, ap, ◌∙◌, sym, subst, arith, append_assoc, ◌⊎◌, inl, inr, ℤ, pos, ◌+ℤ◌, ◌-ℤ◌, ◌≤ℤ◌, ◌<ℤ◌, nat_abs, nat_le, ◌==◌, Contains, Option, Some, None, codes, decimal, flat_map}
use Rattle.std.specs.Fmt.{signed_decimal}
use Rattle.std.specs.Int.{int_min, int_max}
use Rattle.std.specs.Ordering.{int_eq}
use Rattle.std.proofs.lemmas.Int.{ints}
use Rattle.std.proofs.lemmas.List.{map-append}
use Rattle.std.proofs.lemmas.Bool.Decides.{nat_tests}
use Rattle.life_base.specs.declared.bounds.Bounds.{Bounds}
use Rattle.life_base.specs.declared.cell.Cell.{Cell}
use Rattle.life_base.specs.Rules.{rule_text as layer_rule_text}
use Rattle.life_base.specs.declared.rule.Rule.{Rule as LayerRule}
use Rattle.life_base.specs.declared.rule.Rule.TheVariants.{Life, Named}
use Rattle.life_rle.specs.States.{state_text as layer_state_text}
use Rattle.life_rle.specs.Written.{box_of, with_gap, with_cells, way_to, items_from, wrapped_lines, generation_text, position_text, header_text, box_side, rle_text, item_text as layer_item_text}
use Rattle.life_rle.specs.declared.item.Item.{Item as LayerItem}
use Rattle.life_rle.specs.declared.item.Item.TheVariants.{Cells, RowEnds}
use Rattle.claims.specs.Pattern.{Pattern}
use Rattle.claims.specs.Rules.{claimed_rule_text}
use Rattle.claims.specs.Rle.{Item, run, row_ends}
use Rattle.claims.specs.Generation.{AreClaimedCells}
use Rattle.claims.specs.Shown.{IsClaimedBoundingBox, IsBox}
use Rattle.claims.specs.RleText.{claimed_state_text, claimed_item_text, gap, after_run, items_of_cells, in_lines, claimed_rle_lines, box_lines, IsRleOfPattern}
use Rattle.claims.proofs.RlePlane.{item_in}
use Rattle.claims.proofs.RuleLaw.{rule_in}
use Rattle.life_base.proofs.Basics.{int_le_trans}
use Rattle.life_base.proofs.Members.{in_cases, in_tail, in_head}

-- ---- the box

min_is : (a b : ℤ) → (int_min a b ≡ a) ⊎ (int_min a b ≡ b)
min_is a b = grind (arith, ints)

max_is : (a b : ℤ) → (int_max a b ≡ a) ⊎ (int_max a b ≡ b)
max_is a b = grind (arith, ints)

min_below : (a b : ℤ) → (int_min a b ≤ℤ a) × (int_min a b ≤ℤ b)
min_below a b = (grind (arith, ints), grind (arith, ints))

max_above : (a b : ℤ) → (a ≤ℤ int_max a b) × (b ≤ℤ int_max a b)
max_above a b = (grind (arith, ints), grind (arith, ints))

same_less : (a b : ℤ) → a ≡ b → a ≤ℤ b
same_less a b e = omega (arith, ints, e)

-- a cell of the list has each side of the box
pub at_side : (of_cell : Cell → ℤ) (of_box : Bounds → ℤ) → ((c : Cell) → of_box (box_of c []) ≡ of_cell c)
    → ((c d : Cell) (cells : List Cell) → (of_box (box_of c (d ∷ cells)) ≡ of_cell c) ⊎ (of_box (box_of c (d ∷ cells)) ≡ of_box (box_of d cells)))
    → (c : Cell) (cells : List Cell) → (e : Cell) × Contains (c ∷ cells) e × (of_cell e ≡ of_box (box_of c cells))
at_side of_cell of_box one more c [] = (c, in_head c [], sym (one c))
at_side of_cell of_box one more c (d ∷ cells) = elim (more c d cells) [
  | inl e ↦ (c, in_head c (d ∷ cells), sym e)
  | inr e ↦ let rest = at_side of_cell of_box one more d cells in (rest.0, in_tail c (d ∷ cells) rest.0 rest.1, rest.2 ∙ sym e)
]

-- and each cell of the list is in it
pub in_box : (c : Cell) (cells : List Cell) (e : Cell) → Contains (c ∷ cells) e
    → ((box_of c cells).left ≤ℤ e.x) × (e.x ≤ℤ (box_of c cells).right) × ((box_of c cells).top ≤ℤ e.y) × (e.y ≤ℤ (box_of c cells).bottom)
in_box c [] e h = elim (in_cases c [] e h) [
  | inl same ↦ (
    same_less _ _ (ap (λ (d : Cell). d.x) same),
    same_less _ _ (sym (ap (λ (d : Cell). d.x) same)),
    same_less _ _ (ap (λ (d : Cell). d.y) same),
    same_less _ _ (sym (ap (λ (d : Cell). d.y) same)),
  )
  | inr h ↦ absurd (let l = h.1 in omega (arith, l))
]
in_box c (d ∷ cells) e h =
    let b = box_of d cells in
    elim (in_cases c (d ∷ cells) e h) [
      | inl same ↦ (
        int_le_trans _ _ _ (min_below c.x b.left).0 (same_less _ _ (ap (λ (d : Cell). d.x) same)),
        int_le_trans _ _ _ (same_less _ _ (sym (ap (λ (d : Cell). d.x) same))) (max_above c.x b.right).0,
        int_le_trans _ _ _ (min_below c.y b.top).0 (same_less _ _ (ap (λ (d : Cell). d.y) same)),
        int_le_trans _ _ _ (same_less _ _ (sym (ap (λ (d : Cell). d.y) same))) (max_above c.y b.bottom).0,
      )
      | inr h ↦
          let r = in_box d cells e h in (
            int_le_trans _ _ _ (min_below c.x b.left).1 r.0,
            int_le_trans _ _ _ r.1 (max_above c.x b.right).1,
            int_le_trans _ _ _ (min_below c.y b.top).1 r.2,
            int_le_trans _ _ _ r.3 (max_above c.y b.bottom).1,
          )
    ]

module _ (cell : ℤ → ℤ → ℕ) where
  -- a cell of the list isn't 0
  live : (cells : List Cell) → AreClaimedCells cell cells → (e : Cell) → Contains cells e → cell e.x e.y ≢ 0
  live cells are e h z = let t = are.true_cells e h in t.1 (sym t.0 ∙ z)

  at_column : (cells : List Cell) → AreClaimedCells cell cells → (x : ℤ) → (e : Cell) × Contains cells e × (e.x ≡ x) → (y : ℤ) × (cell x y ≢ 0)
  at_column cells are x (e, h, same) = (e.y, subst (λ z. cell z e.y ≢ 0) same (live cells are e h))

  at_row : (cells : List Cell) → AreClaimedCells cell cells → (y : ℤ) → (e : Cell) × Contains cells e × (e.y ≡ y) → (x : ℤ) × (cell x y ≢ 0)
  at_row cells are y (e, h, same) = (e.x, subst (λ z. cell e.x z ≢ 0) same (live cells are e h))

  pub least_box : (c : Cell) (cells : List Cell) → AreClaimedCells cell (c ∷ cells) → IsClaimedBoundingBox cell (box_of c cells)
  least_box c cells are = record {
    at_left = at_column (c ∷ cells) are _ (at_side (λ d. d.x) (λ b. b.left) (λ d. refl) (λ d e more. min_is d.x (box_of e more).left) c cells);
    at_right = at_column (c ∷ cells) are _ (at_side (λ d. d.x) (λ b. b.right) (λ d. refl) (λ d e more. max_is d.x (box_of e more).right) c cells);
    at_top = at_row (c ∷ cells) are _ (at_side (λ d. d.y) (λ b. b.top) (λ d. refl) (λ d e more. min_is d.y (box_of e more).top) c cells);
    at_bottom = at_row (c ∷ cells) are _ (at_side (λ d. d.y) (λ b. b.bottom) (λ d. refl) (λ d e more. max_is d.y (box_of e more).bottom) c cells);
    inside = λ x y n. in_box c cells (record { x = x; y = y; state = cell x y }) (are.all_cells (record { x = x; y = y; state = cell x y }) refl n);
  }

  pub no_box : AreClaimedCells cell [] → (x y : ℤ) → cell x y ≡ 0
  no_box are x y = by (cell x y) (λ n. none (are.all_cells (record { x = x; y = y; state = cell x y }) refl n))
    where
      none : Contains {X = Cell} [] (record { x = x; y = y; state = cell x y }) → ⊥
      none h = let l = h.1 in omega (arith, l)

      by : (n : ℕ) → (n ≢ 0 → ⊥) → n ≡ 0
      by n h = grind (arith, h)

-- ---- the items

state_is : (rule : LayerRule) (state : ℕ) → claimed_state_text (rule_in rule) state ≡ layer_state_text rule state
state_is (Life rule) state = refl
state_is (Named name) state = refl

item_is : (rule : LayerRule) (item : LayerItem) → claimed_item_text (rule_in rule) (item_in item) ≡ layer_item_text rule item
item_is rule (Cells count state) = ap (λ (t : List ℕ). cond (count == 1) [] (decimal count) ++ t) (state_is rule state)
item_is rule (RowEnds count) = refl

gap_is : (count : ℕ) (items : List LayerItem) → gap count ++ map item_in items ≡ map item_in (with_gap count items)
gap_is zero items = refl
gap_is (suc count) items = ap (λ v. cond v [] (run (suc count) 0 ∷ []) ++ map item_in items) (some count)
  where
    some : (n : ℕ) → (suc n == 0) ≡ false
    some n = grind (arith, nat_tests)

run_is : (count state : ℕ) (items : List LayerItem) → after_run count state (map item_in items) ≡ map item_in (with_cells count state items)
run_is count state [] = refl
run_is count state (RowEnds rows ∷ items) = refl
run_is count state (Cells more other ∷ items) = by (state == other)
  where
    by : (v : Bool) → cond v (run (count + more) state ∷ map item_in items) (run count state ∷ run more other ∷ map item_in items)
        ≡ map item_in (cond v (Cells (count + more) state ∷ items) (Cells count state ∷ Cells more other ∷ items))
    by true = refl
    by false = refl

items_are : (left x y : ℤ) (cells : List Cell) → items_of_cells left x y cells ≡ map item_in (items_from left x y cells)
items_are left x y [] = refl
items_are left x y (c ∷ cells) =
    let rest = items_from left (c.x +ℤ pos 1) c.y cells in
    ap (λ (t : List Item). cond (int_eq c.y y) (gap (nat_abs (c.x -ℤ x))) (row_ends (nat_abs (c.y -ℤ y)) ∷ gap (nat_abs (c.x -ℤ left)))
    ++ after_run 1 c.state t)
    (items_are left (c.x +ℤ pos 1) c.y cells)
    ∙ ap (λ (t : List Item). cond (int_eq c.y y) (gap (nat_abs (c.x -ℤ x))) (row_ends (nat_abs (c.y -ℤ y)) ∷ gap (nat_abs (c.x -ℤ left))) ++ t)
    (run_is 1 c.state rest)
    ∙ by (int_eq c.y y) (with_cells 1 c.state rest)
  where
    by : (v : Bool) (items : List LayerItem)
        → cond v (gap (nat_abs (c.x -ℤ x))) (row_ends (nat_abs (c.y -ℤ y)) ∷ gap (nat_abs (c.x -ℤ left))) ++ map item_in items
        ≡ map item_in (cond v (with_gap (nat_abs (c.x -ℤ x)) items) (RowEnds (nat_abs (c.y -ℤ y)) ∷ with_gap (nat_abs (c.x -ℤ left)) items))
    by true items = gap_is (nat_abs (c.x -ℤ x)) items
    by false items = ap (λ (t : List Item). row_ends (nat_abs (c.y -ℤ y)) ∷ t) (gap_is (nat_abs (c.x -ℤ left)) items)

-- ---- the lines

texts_are : (rule : LayerRule) (items : List LayerItem) → map (claimed_item_text (rule_in rule)) (map item_in items) ≡ map (layer_item_text rule) items
texts_are rule [] = refl
texts_are rule (item ∷ items) = λ i. item_is rule item i ∷ texts_are rule items i

lines_are : (line : List ℕ) (texts : List (List ℕ)) → in_lines line texts ≡ wrapped_lines line texts
lines_are line [] = refl
lines_are line (text ∷ texts) = λ i. cond (nat_le (length line + length text) 70) (lines_are (line ++ text) texts i) (line ∷ lines_are text texts i)

generation_is : (generation : ℕ) → cond (generation == 0) [] (codes " Gen=" ++ decimal generation) ≡ generation_text generation
generation_is zero = refl
generation_is (suc n) = ap (λ v. cond v [] (codes " Gen=" ++ decimal (suc n))) (some n)
  where
    some : (n : ℕ) → (suc n == 0) ≡ false
    some n = grind (arith, nat_tests)

module _ (rule_is : (rule : LayerRule) → claimed_rule_text (rule_in rule) ≡ layer_rule_text rule) where
  all_lines : (rule : LayerRule) (generation : ℕ) (x y : ℤ) (width height : ℕ) (items : List LayerItem)
      → claimed_rle_lines (rule_in rule) generation x y width height (map item_in items)
      ≡ position_text x y generation ∷ header_text width height rule ∷ wrapped_lines [] (map (layer_item_text rule) items ++ codes "!" ∷ [])
  all_lines rule generation x y width height items =
      let place = codes "#CXRLE Pos=" ++ signed_decimal x in
      let sides = codes "x = " ++ decimal width in
      let first : place ++ codes "," ++ signed_decimal y ++ cond (generation == 0) [] (codes " Gen=" ++ decimal generation) ≡ position_text x y generation =
      λ i. append_assoc place (codes ",") (signed_decimal y) i ++ generation_is generation i in
      let second : sides ++ codes ", y = " ++ decimal height ++ codes ", rule = " ++ claimed_rule_text (rule_in rule) ≡ header_text width height rule =
      append_assoc (sides ++ codes ", y = " ++ decimal height) (codes ", rule = ") (claimed_rule_text (rule_in rule))
      ∙ (λ i. append_assoc sides (codes ", y = ") (decimal height) i ++ (codes ", rule = " ++ rule_is rule i)) in
      λ i. first i ∷ second i
      ∷ (ap (λ (t : List (List ℕ)). in_lines [] (t ++ codes "!" ∷ [])) (texts_are rule items) ∙ lines_are []
      (map (layer_item_text rule) items ++ codes "!" ∷ []))
      i

  pub rle_of_pattern : (rule : LayerRule) (generation : ℕ) (cell : ℤ → ℤ → ℕ) (cells : List Cell) → AreClaimedCells cell cells
      → IsRleOfPattern (record { rule = rule_in rule; generation = generation; cell = cell }) (rle_text rule generation cells)
  rle_of_pattern rule generation cell [] are = record {
    cells = [];
    are = are;
    box = None;
    is_box = no_box cell are;
    is = ap (flat_map (λ (line : List ℕ). line ++ codes "\n")) (sym (all_lines rule generation (pos 0) (pos 0) 0 0 []));
  }
  rle_of_pattern rule generation cell (c ∷ cells) are =
      let box = box_of c cells in
      let items = items_from box.left box.left box.top (c ∷ cells) in
      let wide = box_side box.left box.right in
      let high = box_side box.top box.bottom in
      record {
        cells = c ∷ cells;
        are = are;
        box = Some box;
        is_box = least_box cell c cells are;
        is = ap (flat_map (λ (line : List ℕ). line ++ codes "\n"))
            (sym (ap (claimed_rle_lines (rule_in rule) generation box.left box.top wide high) (items_are box.left box.left box.top (c ∷ cells))
            ∙ all_lines rule generation box.left box.top wide high items));
      }
