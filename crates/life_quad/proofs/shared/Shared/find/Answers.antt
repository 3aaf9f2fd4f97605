use Rattle.std.proofs.Common.{◌+◌, inl, Some, ap, refl, sym, ◌∙◌, subst}
use Rattle.life_quad.specs.Store.{id_of, IsFoundId, as_node}
use Rattle.life_quad.specs.contracts.shared.Shared.{the_view}
use Rattle.life_quad.proofs.StoreLemmas.{square_of-node}
use Rattle.life_quad.proofs.CallLemmas.{knows_id, node_of, position_node}
use Rattle.life_quad.proofs.shared.Shared.find.Goals as goal

pub returns-in-Some : goal.returns-in-Some
returns-in-Some c =
    let s = the_view c.self.inside in
    let inv = c.self.invariant in
    let i = c.in-Some.i in
    let q = c.args.quarters in
    let node = node_of q.nw q.ne q.sw q.se in
    let at = position_node s.nodes c.of.result i (sym c.get_index_of.ensures.index ∙ c.in-Some.is) ∙ ap Some c.of.ensures in
    subst (λ v. IsFoundId v q (id_of (66064 + i))) c.self.view_is
    (inl ((knows_id s node (id_of (66064 + i)) inv.0 (as_node i refl at), inv.1), square_of-node s i node (id_of (66064 + i)) inv.0 at refl))
