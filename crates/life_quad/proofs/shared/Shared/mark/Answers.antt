use Rattle.std.proofs.Common.{sym, ◌∙◌, subst, Ok, Contains}
use Rattle.life_quad.specs.IdMap.{value_of_id}
use Rattle.life_quad.specs.Store.{Nodes, squares, small_square, id_of, IsSmall, AnswersJoin}
use Rattle.life_quad.specs.contracts.shared.Shared.{the_view}
use Rattle.life_quad.proofs.CallLemmas.{small_there, unseen}
use Rattle.life_quad.proofs.shared.Shared.mark.Goals as goal

pub returns-then-get : goal.returns-then-get
returns-then-get c =
    let s = the_view c.self.inside in
    let inv = c.self.invariant in
    let small = subst (λ v. IsSmall v.log (squares v.nodes) c.args.number) (sym c.self.view_is) c.requires.small in
    let there = inv.2.joined c.args.number (sym c.get.ensures ∙ c.if-get.true) in
    subst (λ v. AnswersJoin v v (small_square c.args.number) (Ok (id_of c.args.number))) c.self.view_is (small_there s c.args.number inv.0 inv.1 small there)

pub mark_new-requires-clause-new : goal.mark_new-requires-clause-new
mark_new-requires-clause-new c =
    let s = the_view c.self.inside in
    let absent = unseen (value_of_id c.self.inside.seen) s.log c.args.number c.self.invariant.2 c.requires.last (sym c.get.ensures ∙ c.if-get.false) in
    subst (λ (v : Nodes). ¬ Contains v.log c.args.number) c.self.view_is absent
