use Rattle.std.proofs.Common.{FitsSigned, w64, rules}
use Rattle.std.proofs.lemmas.Int.{to_z-of_z}
use Rattle.life_writer.proofs.Keys.{on_ok}
use Rattle.life_writer.proofs.ShowFacts.{box-text}
use Rattle.life_writer.proofs.summary.append_box.Goals as goal

pub returns-clause-ok : goal.returns-clause-ok
returns-clause-ok c =
    let left : FitsSigned w64 c.in-Some.found.left = search rules in
    let top : FitsSigned w64 c.in-Some.found.top = search rules in
    let right : FitsSigned w64 c.in-Some.found.right = search rules in
    let bottom : FitsSigned w64 c.in-Some.found.bottom = search rules in
    let e2 = simp to_z-of_z at c.in_ok-append_coordinate.ensures.ok in
    let e3 = simp to_z-of_z at c.in_ok-append_coordinate-2.ensures.ok in
    let width = simp to_z-of_z at c.side.ensures in
    let height = simp to_z-of_z at c.side-2.ensures in
    on_ok c.append-4.result _ _
    (λ e. box-text _ _ _ _ _ _ _ _ c.args.found c.in-Some.found _ _ c.in-Some.is c.in_ok-append.ensures.ok e2 e3
    width c.in_ok-append_number.ensures.ok c.in_ok-append-2.ensures.ok height c.in_ok-append_number-2.ensures.ok e)
    c.append-4.ensures.ok
