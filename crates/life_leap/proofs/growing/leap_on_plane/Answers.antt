use Rattle.std.proofs.Common.{◌≡◌, ◌⊎◌, inl, inr, ◌+◌, ◌^◌, ◌<◌, ◌≤◌, sym, ◌∙◌, subst, arith}
use Rattle.std.proofs.lemmas.Result.{IfOk-weaker}
use Rattle.life_base.specs.Tree.{depth}
use Rattle.life_leap.proofs.LeapLemmas.{leaps-kept}
use Rattle.life_leap.proofs.PlaneSteps.{after-same, margin-grown}
use Rattle.life_leap.proofs.growing.leap_on_plane.Goals as goal

pub square_after-requires-clause-remembers : goal.square_after-requires-clause-remembers
square_after-requires-clause-remembers g c = leaps-kept c.in_ok-grown.ensures.keeps c.requires.remembers

pub square_after-requires-clause-states : goal.square_after-requires-clause-states
square_after-requires-clause-states g c x y =
    subst (λ n. n < 2) (sym (c.in_ok-grown.ensures.cells x y)) (c.requires.states x y)

pub square_after-requires-clause-margin : goal.square_after-requires-clause-margin
square_after-requires-clause-margin g c =
    let C0 = g.S.Squares.content c.args.squares.now in
    let C1 = g.S.Squares.content c.grown_to.new.squares in
    let low = c.requires.low in
    let a = c.level.ensures.level in
    let f = c.level_for-level.ensures in
    let up = f.not_lower in
    let e = c.in_ok-grown.ensures.level in
    let is : depth (C1 c.in_ok-grown.grown) ≡ c.level_for-level.result = omega (arith, e, a, up) in
    let by : (c.level_for-level.result ≡ 62) ⊎ ((c.level.result < c.level_for-level.result) × (c.args.pace + 2 ≤ c.level_for-level.result))
    → (depth (C1 c.in_ok-grown.grown) ≡ 62) ⊎ ((depth (C0 c.args.id) < depth (C1 c.in_ok-grown.grown))
    × (c.args.pace + 2 ≤ depth (C1 c.in_ok-grown.grown))) = (λ s. elim s [
      | inl whole ↦ inl (is ∙ whole)
      | inr larger ↦ (let l = larger.0 in let s = larger.1 in inr (omega (arith, l, is, a), omega (arith, s, is)))
    ]) in
    margin-grown c.args.pace (C0 c.args.id) (C1 c.in_ok-grown.grown) (omega (arith, low)) c.in_ok-grown.ensures.cells (by f.margin) c.requires.margin

pub returns-clause-later : goal.returns-clause-later
returns-clause-later g c =
    let C0 = g.S.Squares.content c.args.squares.now in
    let C1 = g.S.Squares.content c.grown_to.new.squares in
    IfOk-weaker c.square_after.result _ _
    (λ r h x y. h x y ∙ after-same c.args.rule.now (2 ^ c.args.pace) (C0 c.args.id) (C1 c.in_ok-grown.grown) c.in_ok-grown.ensures.cells x y)
    c.square_after.ensures.later
