use Rattle.std.proofs.Common.{inl, inr, sym, ◌∙◌}
use Rattle.std.proofs.lemmas.Result.{IfErr-weaker, IfOk-weaker}
use Rattle.life_leap.proofs.PlaneSteps.{after-same, outside-same}
use Rattle.life_leap.proofs.growing.next_on_plane.Goals as goal

pub returns-clause-later : goal.returns-clause-later
returns-clause-later g c =
    let t = g.S.Squares.content c.args.squares.now c.args.id in
    let u = g.S.Squares.content c.grown_to.new.squares c.in_ok-whole.whole in
    IfOk-weaker c.next_of_plane.result _ _ (λ r h x y. h x y ∙ after-same c.args.rule.now 1 t u c.in_ok-whole.ensures.cells x y)
    c.next_of_plane.ensures.later

pub returns-clause-stays : goal.returns-clause-stays
returns-clause-stays g c =
    let t = g.S.Squares.content c.args.squares.now c.args.id in
    let u = g.S.Squares.content c.grown_to.new.squares c.in_ok-whole.whole in
    IfOk-weaker c.next_of_plane.result _ _
    (λ r none h. none (outside-same c.args.rule.now 1 u t (λ x y. sym (c.in_ok-whole.ensures.cells x y)) h)) c.next_of_plane.ensures.stays

pub returns-clause-refusals : goal.returns-clause-refusals
returns-clause-refusals g c =
    let t = g.S.Squares.content c.args.squares.now c.args.id in
    let u = g.S.Squares.content c.grown_to.new.squares c.in_ok-whole.whole in
    IfErr-weaker c.next_of_plane.result _ _
    (λ kind h. elim h [
      | inl shortage ↦ inl shortage
      | inr out ↦ inr (out.0, outside-same c.args.rule.now 1 t u c.in_ok-whole.ensures.cells out.1)
    ])
    c.next_of_plane.ensures.refusals
