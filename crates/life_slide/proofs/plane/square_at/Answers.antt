use Rattle.std.proofs.Common.{◌∙◌, refl, to_z-of_z}
use Rattle.std.proofs.lemmas.Result.{IfOk-weaker, on_err_weaker}
use Rattle.life_quad.proofs.KeepingLemmas.{adds-as}
use Rattle.life_pieces.proofs.PieceLemmas.{IsPiece-moved}
use Rattle.life_slide.proofs.SlideLemmas.{part-moved}
use Rattle.life_slide.proofs.plane.square_at.Goals as goal

pub returns-clause-square : goal.returns-clause-square
returns-clause-square g c =
    let b = c.block_at.ensures.begins in
    let column = b.column ∙ to_z-of_z c.ranges.x in
    let row = b.row ∙ to_z-of_z c.ranges.y in
    IfOk-weaker c.slid.result _ _ (λ r slid. IsPiece-moved _ _ _ _ _ _ column row (slid _ _ _ b.are)) c.slid.ensures.slid

pub returns-clause-needed : goal.returns-clause-needed
returns-clause-needed g c =
    let b = c.block_at.ensures.begins in
    let column = b.column ∙ to_z-of_z c.ranges.x in
    let row = b.row ∙ to_z-of_z c.ranges.y in
    on_err_weaker c.slid.result
    (λ needed. part-moved (g.T.Squares.needs_node c.slid.new.to) _ _ _ _ _ _ _ refl column row (needed _ _ _ b.are))
    c.slid.ensures.needed

pub returns-clause-adds : goal.returns-clause-adds
returns-clause-adds g c =
    let b = c.block_at.ensures.begins in
    let column = b.column ∙ to_z-of_z c.ranges.x in
    let row = b.row ∙ to_z-of_z c.ranges.y in
    adds-as _ c.slid.ensures.adds (λ P some. part-moved P _ _ _ _ _ _ _ refl column row (some _ _ _ b.are))
