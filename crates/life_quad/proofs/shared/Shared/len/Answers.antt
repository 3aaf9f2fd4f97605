use Rattle.std.proofs.Common.{◌+◌, sym, ◌∙◌, ap, subst, length}
use Rattle.life_quad.specs.Store.{stored_squares, IsShared}
use Rattle.life_quad.proofs.CallLemmas.{length-held, held-distinct, held-complete, held-only}
use Rattle.life_quad.proofs.shared.Shared.len.Goals as goal

pub returns-clause-len : goal.returns-clause-len
returns-clause-len c =
    ap (λ n. n + c.self.inside.small) c.len.ensures.len ∙ sym c.self.invariant.3
    ∙ sym (length-held (record { nodes = c.self.inside.nodes.keys; log = c.self.inside.log.ids; limit = c.self.inside.limit }))
    ∙ ap (λ v. length (stored_squares v)) c.self.view_is

pub returns-clause-distinct : goal.returns-clause-distinct
returns-clause-distinct c = rw (← c.self.view_is) (held-distinct _ c.self.invariant.0 c.self.invariant.1)

pub returns-clause-all : goal.returns-clause-all
returns-clause-all c = λ id k full deep. held-complete _ (subst IsShared c.self.view_is c.self.invariant.1) id k full deep

pub returns-clause-only : goal.returns-clause-only
returns-clause-only c = rw (← c.self.view_is) (held-only _ c.self.invariant.0 c.self.invariant.1)
