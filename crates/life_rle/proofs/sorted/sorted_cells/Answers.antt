use Rattle.std.proofs.Common.{◌≡◌, ◌+◌, List, ◌∷◌, [], Bool, true, false, drop, get_or, refl, sym, ap, ◌∙◌, ◌&&◌, pos}
use Rattle.std.proofs.lemmas.List.{at_drop_more, at_drop_all}
use Rattle.life_base.specs.declared.cell.Cell.{Cell}
use Rattle.life_base.specs.declared.cell.TheConstants.{MAX_LEVEL}
use Rattle.life_base.specs.declared.rule.Rule.{Rule}
use Rattle.life_rle.specs.Sorted.{are_sorted_cells, is_live_cell, rises}
use Rattle.life_rle.proofs.sorted.sorted_cells.Goals as goal
use Rattle.life_rle.proofs.sorted.sorted_cells.Goals.{else-i-cells-via-then-i-cells+else-not-rises, else-i-cells-via-else-i-cells}

-- what comes after the last cell
abbrev none : Cell
none = record { x = pos 0; y = pos 0; state = 0 }

neither : (a b v : Bool) → b ≡ false → (a && b) && v ≡ false
neither true b v e = ap (λ t. t && v) e
neither false b v e = refl

module _ (rule : Rule) (c : Cell) where
  bad_cell : (cells : List Cell) → is_live_cell MAX_LEVEL rule c ≡ false → are_sorted_cells MAX_LEVEL rule (c ∷ cells) ≡ false
  bad_cell [] e = e
  bad_cell (d ∷ cells) e = ap (λ v. (v && rises c d) && are_sorted_cells MAX_LEVEL rule (d ∷ cells)) e

  good_cell : (d : Cell) (cells : List Cell) → is_live_cell MAX_LEVEL rule c ≡ true → rises c d ≡ true
      → are_sorted_cells MAX_LEVEL rule (c ∷ d ∷ cells) ≡ are_sorted_cells MAX_LEVEL rule (d ∷ cells)
  good_cell d cells e f =
      ap (λ v. (v && rises c d) && are_sorted_cells MAX_LEVEL rule (d ∷ cells)) e ∙ ap (λ v. v && are_sorted_cells MAX_LEVEL rule (d ∷ cells)) f

pub loop-i-init : goal.loop-i-init
loop-i-init c = refl

pub returns-then-not-is_live_cell : goal.returns-then-not-is_live_cell
returns-then-not-is_live_cell c =
    let rule = c.args.rule.now in
    let cells = c.args.cells.now in
    let i = c.loop-i.i in
    sym (bad_cell rule (get_or cells i none) (drop (i + 1) cells) (sym c.is_live_cell.ensures ∙ c.if-not-is_live_cell.true))
    ∙ sym (at_drop_more (are_sorted_cells MAX_LEVEL rule) cells i none c.loop-i-test.true) ∙ c.loop-i.invariant

pub returns-then-not-rises : goal.returns-then-not-rises
returns-then-not-rises c =
    let rule = c.args.rule.now in
    let cells = c.args.cells.now in
    let i = c.loop-i.i in
    let first : Cell = get_or cells i none in
    let sorted : List Cell → Bool = are_sorted_cells MAX_LEVEL rule in
    sym (neither (is_live_cell MAX_LEVEL rule first) (rises first (get_or cells (i + 1) none)) (sorted (get_or cells (i + 1) none ∷ drop (i + 1 + 1) cells))
    (sym c.rises.ensures ∙ c.if-not-rises.true))
    ∙ sym (at_drop_more (λ rest. sorted (first ∷ rest)) cells (i + 1) none c.if-i-cells.true)
    ∙ sym (at_drop_more sorted cells i none c.loop-i-test.true) ∙ c.loop-i.invariant

pub loop-i-preserved : goal.loop-i-preserved
loop-i-preserved c =
    let rule = c.args.rule.now in
    let cells = c.args.cells.now in
    let i = c.loop-i.i in
    let first : Cell = get_or cells i none in
    let sorted : List Cell → Bool = are_sorted_cells MAX_LEVEL rule in
    let live : is_live_cell MAX_LEVEL rule first ≡ true = sym c.is_live_cell.ensures ∙ c.if-not-is_live_cell.false in
    let here = sym (at_drop_more sorted cells i none c.loop-i-test.true) ∙ c.loop-i.invariant in
    elim c.else-i-cells.branch [
      | else-i-cells-via-then-i-cells+else-not-rises w ↦
          at_drop_more sorted cells (i + 1) none w.if-i-cells.true
          ∙ sym (good_cell rule first (get_or cells (i + 1) none) (drop (i + 1 + 1) cells) live (sym w.rises.ensures ∙ w.if-not-rises.false))
          ∙ sym (at_drop_more (λ rest. sorted (first ∷ rest)) cells (i + 1) none w.if-i-cells.true) ∙ here
      | else-i-cells-via-else-i-cells w ↦
          at_drop_all sorted cells (i + 1) w.if-i-cells.false ∙ sym live
          ∙ sym (at_drop_all (λ rest. sorted (first ∷ rest)) cells (i + 1) w.if-i-cells.false) ∙ here
    ]

pub returns : goal.returns
returns c = sym (at_drop_all (are_sorted_cells MAX_LEVEL c.args.rule.now) c.args.cells.now c.loop-i.i c.loop-i-test.false) ∙ c.loop-i.invariant
