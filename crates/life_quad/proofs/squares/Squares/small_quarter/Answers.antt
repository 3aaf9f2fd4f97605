-- What the join of four cells makes.
use Rattle.life_base.specs.Tree.{quad}
use Rattle.life_quad.specs.Store.{two}
use Rattle.life_quad.proofs.KeepingLemmas.{keeps-same, adds-none}
use Rattle.life_quad.proofs.MakingLemmas.{joined-only}
use Rattle.std.proofs.Common.{subst}
use Rattle.life_quad.proofs.squares.Squares.small_quarter.Goals as goal

pub returns : goal.returns
returns g c =
    let nw = c.cell-nw.ensures.square in
    let ne = c.cell-ne.ensures.square in
    let sw = c.cell-sw.ensures.square in
    let se = c.cell-se.ensures.square in
    let s = c.args.self.now in
    joined-only (λ P. P (two c.args.cells)) c.join.result (keeps-same s) (adds-none _ s) c.join.ensures (λ i. quad (nw i) (ne i) (sw i) (se i))
    (λ P p. subst P (λ i. quad (nw i) (ne i) (sw i) (se i)) p)
