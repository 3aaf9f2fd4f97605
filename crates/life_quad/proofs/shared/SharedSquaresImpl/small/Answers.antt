use Rattle.std.proofs.Common.{◌+◌, refl, ap, sym, ◌∙◌, arith, subst, inl}
use Rattle.life_base.specs.Tree.{Tree}
use Rattle.life_quad.specs.IdMap.{value_of_id}
use Rattle.life_quad.specs.Refused.{SomePart}
use Rattle.life_quad.specs.Store.{four, small_square, squares, IsSmall, AnswersJoin, HasSeen}
use Rattle.life_quad.proofs.CallLemmas.{join_answers}
use Rattle.life_quad.proofs.KeepingLemmas.{keeps-same, adds-none}
use Rattle.life_quad.proofs.MakingLemmas.{joined-only}
use Rattle.life_quad.proofs.SmallCells.{four_is, four_small}
use Rattle.life_quad.proofs.shared.SharedSquaresImpl.small.Goals as goal

pub mark-requires-clause-small : goal.mark-requires-clause-small
mark-requires-clause-small c =
    let s = c.args.self.now in
    let marks = subst (λ v. HasSeen (value_of_id c.self.inside.seen) v.log) c.self.view_is c.self.invariant.2 in
    let small = four_small s _ c.args.cells c.empty-blank.ensures.known.0.sound marks (c.has_quarters.ensures c.if-has_quarters.true)
    (omega (arith, c.if-cells-eq0.false)) (omega arith) in
    subst (λ d. IsSmall s.log (squares s.nodes) (528 + d)) (sym c.from.ensures) small.0

pub returns-then-has_quarters : goal.returns-then-has_quarters
returns-then-has_quarters c =
    let s = c.args.self.now in
    let d = c.args.cells in
    let r = c.mark.result in
    let marks = subst (λ v. HasSeen (value_of_id c.self.inside.seen) v.log) c.self.view_is c.self.invariant.2 in
    let small = four_small s _ d c.empty-blank.ensures.known.0.sound marks (c.has_quarters.ensures c.if-has_quarters.true)
    (omega (arith, c.if-cells-eq0.false)) (omega arith) in
    let answers = subst (λ t. AnswersJoin s c.mark.new.self t r) (ap (λ n. small_square (528 + n)) c.from.ensures ∙ four_is d) c.mark.ensures in
    let join = join_answers s c.mark.new.self (four d) (omega arith) small.1 r answers in
    let Needs : (Tree → Type 0) → Type 0 = λ P. SomePart P (four d) in
    joined-only Needs r (keeps-same s) (adds-none Needs s) join refl (λ P p. inl p)
