use Rattle.std.proofs.Common.{◌+◌, ◌≤◌, ap, ◌∙◌, subst, arith, rules}
use Rattle.life_base.specs.Tree.{Tree, depth, tree_cell}
use Rattle.life_quad.proofs.LawLemmas.{growing_keeps_cells}
use Rattle.std.proofs.lemmas.Result.{IfOk-weaker}
use Rattle.life_quad.proofs.KeepingLemmas.{keeps-same, adds-none, adds-as}
use Rattle.life_reader.specs.Filling.{HasGrown}
use Rattle.life_reader.specs.Needs.{SomeGrown}
use Rattle.life_reader.proofs.NeedFacts.{SomeGrown-next, grown-next}
use Rattle.life_reader.proofs.PatternFacts.{on-ok}
use Rattle.life_reader.proofs.OnlyFacts.{only-none, only-refused, only-behind}
use Rattle.life_reader.proofs.line_squares.+grow_to.Goals as goal

pub returns-clause-cells : goal.returns-clause-cells
returns-clause-cells g t c =
    IfOk-weaker c.grow_to.result _ _
    (λ r h x y. h x y ∙ ap (λ s. tree_cell s x y) c.in_ok-larger.ensures.square ∙ growing_keeps_cells _ (g.met.S.Squares.full _ _ c.requires.known)
    c.requires.low x y)
    c.grow_to.ensures.cells

pub returns-then-level-clause-level : goal.returns-then-level-clause-level
returns-then-level-clause-level g t c = search rules

pub grow-requires-clause-high : goal.grow-requires-clause-high
grow-requires-clause-high g t c = search rules

pub returns-clause-level : goal.returns-clause-level
returns-clause-level g t c = search rules

pub returns-then-level-clause-grows : goal.returns-then-level-clause-grows
returns-then-level-clause-grows g t c = only-none _ c.args.squares.now

pub returns-in_err-larger-clause-grows : goal.returns-in_err-larger-clause-grows
returns-in_err-larger-clause-grows g t c =
    let Needs : (Tree → Type 0) → Type 0 = λ P. SomeGrown P (g.S.Squares.content c.args.squares.now c.args.id) c.args.level in
    let e = c.in_err-larger.ensures in
    let low : depth (g.S.Squares.content c.args.squares.now c.args.id) + 1 ≤ c.args.level = omega (arith, c.level.ensures.level) in
    only-refused Needs c.from_residual.result c.from_residual.ensures.1 (keeps-same c.args.squares.now) (adds-none Needs c.args.squares.now) e.keeps e.refusals
    e.needed e.adds (λ P p. record { more = 0; low = low; part = p })

pub returns-clause-grows : goal.returns-clause-grows
returns-clause-grows g t c =
    let Needs : (Tree → Type 0) → Type 0 = λ P. SomeGrown P (g.S.Squares.content c.args.squares.now c.args.id) c.args.level in
    let low : depth (g.S.Squares.content c.args.squares.now c.args.id) + 1 ≤ c.args.level = omega (arith, c.level.ensures.level) in
    let adds_1 = adds-as Needs c.in_ok-larger.ensures.adds (λ P p. record { more = 0; low = low; part = p }) in
    only-behind Needs c.in_ok-larger.ensures.keeps adds_1 c.grow_to.ensures.grows
    (λ P s. SomeGrown-next P _ c.args.level c.requires.low (subst (λ (t : Tree). SomeGrown P t c.args.level) c.in_ok-larger.ensures.square s))

pub returns-then-level-clause-grown : goal.returns-then-level-clause-grown
returns-then-level-clause-grown g t c = λ more low. absurd (omega (arith, low, c.level.ensures.level))

pub returns-clause-grown : goal.returns-clause-grown
returns-clause-grown g t c =
    let larger = c.in_ok-larger.ensures in
    let kept = c.grow_to.ensures.grows.keeps.contents c.in_ok-larger.larger larger.known in
    on-ok c.grow_to.result c.grow_to.ensures.grown
    (λ rest. grown-next g.S.Squares c.grow_to.new.squares (g.S.Squares.content c.args.squares.now c.args.id) c.args.level c.requires.low
    (c.in_ok-larger.larger, kept.0, kept.1 ∙ larger.square)
    (subst (λ (s : Tree). HasGrown g.S.Squares c.grow_to.new.squares s c.args.level) larger.square rest))
