use Rattle.std.proofs.Common.{◌∷◌, [], ◌++◌, ℕ, List, sym, ap, ◌∙◌, subst, flat_map}
use Rattle.life_base.specs.declared.bounds.Bounds.{Bounds}
use Rattle.life_rle.specs.Writer.{IsInPlane, Follow}
use Rattle.life_rle.proofs.Sorting.{sorted-IsInPlane, sorted-Follow, box-top}
use Rattle.std.proofs.lemmas.Result.{IfOk-weaker}
use Rattle.life_rle.specs.declared.position.Position.{Position}
use Rattle.life_rle.specs.Written.{position_text, header_text, item_lines, items_from, lines_in_box, box_side}
use Rattle.life_rle.proofs.PutItems.{lines-text}
use Rattle.life_rle.proofs.writing.cells_text.Goals as goal

pub width_of-requires : goal.width_of-requires
width_of-requires c = subst IsInPlane (sym c.bounds_of-bounds.ensures) (sorted-IsInPlane c.args.rule.now c.args.first.now c.args.cells.now c.requires)

pub height_of-requires : goal.height_of-requires
height_of-requires c = subst IsInPlane (sym c.bounds_of-bounds.ensures) (sorted-IsInPlane c.args.rule.now c.args.first.now c.args.cells.now c.requires)

pub write_cells-requires-clause-left : goal.write_cells-requires-clause-left
write_cells-requires-clause-left c
    = (subst IsInPlane (sym c.bounds_of-bounds.ensures) (sorted-IsInPlane c.args.rule.now c.args.first.now c.args.cells.now c.requires)).left

pub write_cells-requires-clause-top : goal.write_cells-requires-clause-top
write_cells-requires-clause-top c = ap (λ (b : Bounds). b.top) c.bounds_of-bounds.ensures ∙ box-top c.args.rule.now c.args.first.now c.args.cells.now c.requires

pub write_cells-requires-clause-cells : goal.write_cells-requires-clause-cells
write_cells-requires-clause-cells c =
    subst (λ (b : Bounds). Follow c.args.rule.now b.left b.left b.top (c.args.first.now ∷ c.args.cells.now)) (sym c.bounds_of-bounds.ensures)
    (sorted-Follow c.args.rule.now c.args.first.now c.args.cells.now c.requires)

pub returns-clause-text : goal.returns-clause-text
returns-clause-text c =
    let rule = c.args.rule.now in
    let g = c.args.generation in
    let all = c.args.first.now ∷ c.args.cells.now in
    let box = c.bounds_of-bounds.result in
    let corner = c.corner_of.result in
    let position = position_text corner.x corner.y corner.generation in
    let items = items_from box.left box.left box.top all in
    let text = λ (lines : List (List ℕ)). flat_map (λ line. line ++ 10 ∷ []) lines in
    IfOk-weaker c.write_cells.result _ _
    (λ _ e.
    lines-text position (header_text c.width_of.result c.height_of.result rule) rule items c.append_position.new.out.items c.append_header.new.out.items _
    (c.in_ok-append_position.ensures.ok ∙ ap (λ bytes. bytes ++ (position ++ 10 ∷ [])) c.new-text.ensures.items)
    c.in_ok-append_header.ensures.ok e
    ∙ ap (λ (p : Position). text (position_text p.x p.y p.generation ∷ header_text c.width_of.result c.height_of.result rule ∷ item_lines rule items))
    c.corner_of.ensures
    ∙ ap (λ w. text (position_text box.left box.top g ∷ header_text w c.height_of.result rule ∷ item_lines rule items)) c.width_of.ensures
    ∙ ap (λ h. text (position_text box.left box.top g ∷ header_text (box_side box.left box.right) h rule ∷ item_lines rule items)) c.height_of.ensures
    ∙ ap (λ (b : Bounds). text (lines_in_box rule g b (items_from b.left b.left b.top all))) c.bounds_of-bounds.ensures)
    c.write_cells.ensures.text
