use Rattle.std.proofs.Common.{◌≡◌, arith, ◌∙◌, sym, subst}
use Rattle.life_base.specs.Tree.{depth}
use Rattle.life_quad.specs.Store.{Knows, content}
use Rattle.life_quad.specs.StoreLaws.{low_content}
use Rattle.life_quad.specs.contracts.shared.Shared.{the_view}
use Rattle.life_quad.proofs.CallLemmas.{named_level}
use Rattle.life_quad.proofs.shared.SharedSquaresImpl.level.Goals as goal

pub level-requires : goal.level-requires
level-requires c =
    let s = the_view c.self.inside in
    named_level s c.args.id _ (c.as_slice.ensures.value ∙ c.self.invariant.4) (subst (λ v. Knows v c.args.id) (sym c.self.view_is) c.requires.0)

pub returns-clause-level : goal.returns-clause-level
returns-clause-level c = subst (λ v. c.level.result ≡ depth (content v c.args.id)) c.self.view_is
    (c.level.ensures (the_view c.self.inside) (c.as_slice.ensures.value ∙ c.self.invariant.4)
    (subst (λ v. Knows v c.args.id) (sym c.self.view_is) c.requires.0))

pub returns-clause-low : goal.returns-clause-low
returns-clause-low c = let e = returns-clause-level c in let l = low_content c.args.self.now c.args.id c.requires.0 in omega (arith, e, l)
