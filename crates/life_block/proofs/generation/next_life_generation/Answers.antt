use Rattle.std.proofs.Common.{◌≡◌, ◌≤◌, ◌⊎◌, ℤ, Some, None, IfOk, IfErr, sym, ◌∙◌, subst, arith, rules}
use Rattle.std.proofs.lemmas.Result.{IfOk-weaker}
use Rattle.life_base.specs.Sets.{OuterTotalistic}
use Rattle.life_base.specs.Tree.{depth, tree_cell}
use Rattle.life_base.specs.declared.cell.TheConstants.{MAX_LEVEL}
use Rattle.life_quad.specs.Cells.{population}
use Rattle.life_quad.specs.Keeping.{IsShortageFault}
use Rattle.life_quad.proofs.KeepingLemmas.{adds-as}
use Rattle.life_next.specs.Generation.{next_life}
use Rattle.life_sweep.specs.Generation.{LifeAnswers}
use Rattle.life_sweep.specs.Refused.{SomeNext, GenerationRefusal}
use Rattle.life_block.specs.Needed.{of_plane, of_square}
use Rattle.life_block.proofs.GenerationLemmas.{accepted, same-state}
use Rattle.life_block.proofs.PlaneLemmas.{plane-part}
use Rattle.life_block.proofs.generation.next_life_generation.Goals as goal

pub returns-then-branch-clause-next : goal.returns-then-branch-clause-next
returns-then-branch-clause-next g c =
    let cells = tree_cell (g.S.Squares.content c.args.squares.now c.args.id) in
    subst (λ (rule : OuterTotalistic). IfOk c.next_generation.result
    (λ r. (x y : ℤ) → tree_cell (g.S.Squares.content c.next_generation.new.squares r) x y ≡ next_life rule cells x y))
    c.new-law.ensures
    (IfOk-weaker c.next_generation.result _ _
    (λ r h x y. same-state _ _ ((c.life_answers_at.ensures c.new-law.result.rule cells x y _).0 (h x y)))
    c.next_generation.ensures.next)

pub returns-then-branch-clause-accepted : goal.returns-then-branch-clause-accepted
returns-then-branch-clause-accepted g c =
    subst (λ (rule : OuterTotalistic). IfOk c.next_generation.result
    (λ r. GenerationRefusal (LifeAnswers rule) 2 c.args.most (g.S.Squares.content c.args.squares.now c.args.id) None))
    c.new-law.ensures c.next_generation.ensures.accepted

pub returns-then-branch-clause-refusals : goal.returns-then-branch-clause-refusals
returns-then-branch-clause-refusals g c =
    let now = c.next_generation.new.squares in
    subst (λ (rule : OuterTotalistic). IfErr c.next_generation.result (λ f. IsShortageFault (g.S.Squares.stored now) (g.S.Squares.most now) f
    ⊎ GenerationRefusal (LifeAnswers rule) 2 c.args.most (g.S.Squares.content c.args.squares.now c.args.id) (Some f)))
    c.new-law.ensures c.next_generation.ensures.refusals

pub returns-then-level-eq-MAX_LEVEL-clause-accepted : goal.returns-then-level-eq-MAX_LEVEL-clause-accepted
returns-then-level-eq-MAX_LEVEL-clause-accepted g c =
    let t = g.S.Squares.content c.args.squares.now c.args.id in
    let e = c.in_ok-next_life_plane.ensures in
    let few : population t ≤ c.args.most = omega (arith, c.in_ok-population.ensures.number, c.from.ensures, c.if-branch-from.false) in
    let r = g.S.Squares.content c.next_life_plane.new.squares c.in_ok-next_life_plane.field-0 in
    accepted c.life_answers_at.ensures c.args.rule.now t r c.args.most c.requires.states few (g.met.S.Squares.low _ _ e.known) e.next

pub returns-clause-accepted : goal.returns-clause-accepted
returns-clause-accepted g c =
    let t = g.S.Squares.content c.args.squares.now c.args.id in
    let e = c.in_ok-next_life_square.ensures in
    let few : population t ≤ c.args.most = omega (arith, c.in_ok-population.ensures.number, c.from.ensures, c.if-branch-from.false) in
    let low = c.requires.high in
    let r = g.S.Squares.content c.next_life_square.new.squares c.in_ok-next_life_square.field-0 in
    accepted c.life_answers_at.ensures c.args.rule.now t r c.args.most c.requires.states few (g.met.S.Squares.low _ _ e.known) e.next

pub returns-then-branch-clause-needed : goal.returns-then-branch-clause-needed
returns-then-branch-clause-needed g c full =
    let t = g.S.Squares.content c.args.squares.now c.args.id in
    let P = g.S.Squares.needs_node c.next_generation.new.squares in
    of_plane (c.in_ok-reaches_edge.ensures.whole c.if-branch.true)
    (subst (λ (rule : OuterTotalistic). SomeNext P (LifeAnswers rule) (tree_cell t)) c.new-law.ensures (c.next_generation.ensures.needed full))

pub returns-in_err-next_life_plane-clause-needed : goal.returns-in_err-next_life_plane-clause-needed
returns-in_err-next_life_plane-clause-needed g c full =
    let whole : depth (g.S.Squares.content c.args.squares.now c.args.id) ≡ MAX_LEVEL = sym c.level.ensures.level ∙ c.if-level-eq-MAX_LEVEL.true in
    let clear = c.in_ok-reaches_edge.ensures.clear c.if-branch.false whole in
    plane-part c.life_answers_at.ensures _ c.args.rule.now _ whole c.in_err-next_life_plane.ensures.quiet clear c.in_err-next_life_plane.ensures.needed

pub returns-then-branch-clause-adds : goal.returns-then-branch-clause-adds
returns-then-branch-clause-adds g c =
    let t = g.S.Squares.content c.args.squares.now c.args.id in
    adds-as _ c.next_generation.ensures.adds
    (λ P some. of_plane (c.in_ok-reaches_edge.ensures.whole c.if-branch.true)
    (subst (λ (rule : OuterTotalistic). SomeNext P (LifeAnswers rule) (tree_cell t)) c.new-law.ensures some))

pub returns-in_err-next_life_plane-clause-adds : goal.returns-in_err-next_life_plane-clause-adds
returns-in_err-next_life_plane-clause-adds g c =
    let e = c.in_err-next_life_plane.ensures in
    let whole : depth (g.S.Squares.content c.args.squares.now c.args.id) ≡ MAX_LEVEL = sym c.level.ensures.level ∙ c.if-level-eq-MAX_LEVEL.true in
    let clear = c.in_ok-reaches_edge.ensures.clear c.if-branch.false whole in
    adds-as _ e.adds (λ P. plane-part c.life_answers_at.ensures P c.args.rule.now _ whole e.quiet clear)

pub returns-then-level-eq-MAX_LEVEL-clause-adds : goal.returns-then-level-eq-MAX_LEVEL-clause-adds
returns-then-level-eq-MAX_LEVEL-clause-adds g c =
    let e = c.in_ok-next_life_plane.ensures in
    let whole : depth (g.S.Squares.content c.args.squares.now c.args.id) ≡ MAX_LEVEL = sym c.level.ensures.level ∙ c.if-level-eq-MAX_LEVEL.true in
    let clear = c.in_ok-reaches_edge.ensures.clear c.if-branch.false whole in
    adds-as _ e.adds (λ P. plane-part c.life_answers_at.ensures P c.args.rule.now _ whole e.quiet clear)

pub returns-in_err-next_life_square-clause-adds : goal.returns-in_err-next_life_square-clause-adds
returns-in_err-next_life_square-clause-adds g c =
    let low = c.level.ensures in
    adds-as _ c.in_err-next_life_square.ensures.adds (λ P. of_square (omega (arith, low.level, low.low, c.if-level-eq-MAX_LEVEL.false)))

pub returns-clause-adds : goal.returns-clause-adds
returns-clause-adds g c =
    let low = c.level.ensures in
    adds-as _ c.in_ok-next_life_square.ensures.adds (λ P. of_square (omega (arith, low.level, low.low, c.if-level-eq-MAX_LEVEL.false)))

pub returns-then-branch-from-clause-refusals : goal.returns-then-branch-from-clause-refusals
returns-then-branch-from-clause-refusals g c = search rules
