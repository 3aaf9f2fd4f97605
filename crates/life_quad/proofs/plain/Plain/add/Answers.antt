use Rattle.std.proofs.Common.{◌≡◌, ◌++◌, [], ◌∷◌, arith, sym, ◌∙◌, ap, subst, length, length-append}
use Rattle.life_base.specs.Tree.{depth}
use Rattle.life_quad.proofs.StoreLemmas.{levels-push}
use Rattle.life_quad.specs.Store.{squares, levels_of, node_square, IsNode, IsSoundStore}
use Rattle.life_quad.specs.contracts.plain.Plain.{the_view}
use Rattle.life_quad.proofs.GrowLemmas.{IsSound-push}
use Rattle.life_quad.proofs.plain.Plain.add.Goals as goal

pub invariant_of-self-2 : goal.invariant_of-self-2
invariant_of-self-2 c =
    let s = the_view c.self.inside in
    let node = subst (λ v. IsNode v.log (squares v.nodes) (length v.nodes) c.args.node) (sym c.self.view_is) c.requires.node in
    let e = c.in_ok-push.ensures.items in
    let l = c.len-index.ensures in
    let limit = c.in_default.ensures.space.0 in
    let few = c.in_default.ensures.space.1 in
    let longer = ap length e ∙ length-append s.nodes (c.args.node ∷ []) in
    let level : c.args.level ≡ depth (node_square (squares s.nodes) c.args.node) = subst (λ v. c.args.level ≡ depth (node_square (squares v.nodes) c.args.node))
    (sym c.self.view_is) c.requires.level in
    let levels = c.in_ok-push-2.ensures.items ∙ ap (λ l. l ++ c.args.level ∷ []) (c.in_ok-reserve.ensures.items ∙ c.self.invariant.2)
    ∙ ap (λ v. levels_of s.nodes ++ v ∷ []) level
    ∙ sym (ap levels_of e ∙ levels-push s.nodes c.args.node) in (
      subst (λ z. IsSoundStore (record { nodes = z; log = []; limit = s.limit })) (sym e)
          (IsSound-push s c.args.node c.self.invariant.0 node (omega (arith, l, few))),
      omega (arith, l, limit, longer),
      levels,
    )

pub returns-clause-sound : goal.returns-clause-sound
returns-clause-sound c =
    let s = the_view c.self.inside in
    let node = subst (λ v. IsNode v.log (squares v.nodes) (length v.nodes) c.args.node) (sym c.self.view_is) c.requires.node in
    let e = c.in_ok-push.ensures.items in
    let l = c.len-index.ensures in
    let few = c.in_default.ensures.space.1 in
    subst (λ z. IsSoundStore (record { nodes = z; log = []; limit = s.limit })) (sym e)
    (IsSound-push s c.args.node c.self.invariant.0 node (omega (arith, l, few)))
