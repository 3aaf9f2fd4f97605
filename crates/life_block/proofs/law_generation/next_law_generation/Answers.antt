use Rattle.std.proofs.Common.{◌≤◌, ◌⊎◌, Ok, Some, IfErr, ap, arith, rules}
use Rattle.std.proofs.lemmas.Result.{err_from_is_err_and}
use Rattle.life_base.specs.Tree.{tree_cell}
use Rattle.life_quad.specs.Cells.{population}
use Rattle.life_quad.specs.Keeping.{AddsOnly, IsShortageFault}
use Rattle.life_sweep.specs.Refused.{GenerationRefusal, SomeNext}
use Rattle.life_block.proofs.LawPlaneLemmas.{accepted-by, of-equals, of-option}
use Rattle.life_sweep.proofs.NeedLemmas.{full-kind}
use Rattle.life_block.proofs.law_generation.next_law_generation.Goals as goal

pub returns-in_err-next-clause-needed : goal.returns-in_err-next-clause-needed
returns-in_err-next-clause-needed g c =
    let p = err_from_is_err_and c.from_residual-in_err-next.result c.from_residual-in_err-next.ensures.1 in
    rw (p.1, p.2) (λ e. c.in_err-next.ensures.grows.needed (full-kind c.in_err-next.field-0.0 e))

pub returns-in-Some-clause-accepted : goal.returns-in-Some-clause-accepted
returns-in-Some-clause-accepted g c =
    let law = c.args.law.now in
    let t = g.S.Squares.content c.args.squares.now c.args.id in
    let n = c.in_ok-next.ensures in
    let is = c.in-Some.is in
    let few : population t ≤ c.args.most = omega (arith, c.in_ok-count.ensures.number, c.from.ensures, c.if-count-from.false) in
    accepted-by (g.L.Law.answers law) (g.L.Law.bound law) t (g.S.Squares.content c.next_by_squares.new.squares c.in-Some.next)
    (g.met.S.Squares.full _ _ (of-option _ is n.known)) (of-option _ is n.level) (of-option _ is n.next) (g.met.L.Law.one_answer law) c.args.most few

pub returns-clause-refusals : goal.returns-clause-refusals
returns-clause-refusals g c =
    let now = c.next_generation.new.squares in
    of-equals (λ l s. IfErr c.next_generation.result (λ f. IsShortageFault (g.S.Squares.stored now) (g.S.Squares.most now) f
    ⊎ GenerationRefusal (g.L.Law.answers l) (g.L.Law.bound l) c.args.most (g.S.Squares.content s c.args.id) (Some f)))
    c.in_ok-next.ensures.same (c.in_ok-next.ensures.unchanged (ap Ok c.in_default.is)) c.next_generation.ensures.refusals

pub returns-clause-needed : goal.returns-clause-needed
returns-clause-needed g c full =
    of-equals (λ l s. SomeNext (g.S.Squares.needs_node c.next_generation.new.squares) (g.L.Law.answers l) (tree_cell (g.S.Squares.content s c.args.id)))
    c.in_ok-next.ensures.same (c.in_ok-next.ensures.unchanged (ap Ok c.in_default.is)) (c.next_generation.ensures.needed full)

pub returns-clause-adds : goal.returns-clause-adds
returns-clause-adds g c =
    of-equals (λ l s. AddsOnly g.S.Squares.stored (λ P. SomeNext P (g.L.Law.answers l) (tree_cell (g.S.Squares.content s c.args.id))) s
    c.next_generation.new.squares)
    c.in_ok-next.ensures.same (c.in_ok-next.ensures.unchanged (ap Ok c.in_default.is)) c.next_generation.ensures.adds

pub returns-then-count-from-clause-refusals : goal.returns-then-count-from-clause-refusals
returns-then-count-from-clause-refusals g c = search rules
