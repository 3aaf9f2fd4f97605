use Rattle.std.proofs.Common.{sym, ◌∙◌, ap, subst}
use Rattle.life_base.specs.Tree.{Tree}
use Rattle.life_quad.specs.Refused.{TrimmedTo}
use Rattle.life_quad.specs.Moves.{AreQuarters, inner, trimmed_square, can_trim}
use Rattle.life_quad.proofs.KeepingLemmas.{keeps-same, adds-none}
use Rattle.life_quad.proofs.LawLemmas.{trimmed-lower}
use Rattle.life_quad.proofs.MakingLemmas.{joined-only}
use Rattle.life_quad.proofs.MoveLemmas.{trimmed-smaller}
use Rattle.life_quad.proofs.moves.trim.Goals as goal

pub middle-requires-clause-quarters : goal.middle-requires-clause-quarters
middle-requires-clause-quarters g c =
    let S = c.args.squares.now in
    subst (λ t. AreQuarters (g.S.Squares.knows S) (g.S.Squares.content S) t c.divide.result) c.divide.ensures.square c.divide.ensures.quarters

pub returns : goal.returns
returns g c =
    let old = c.args.squares.now in
    let t = g.S.Squares.content old c.args.id in
    let least = c.args.least in
    let full = g.met.S.Squares.full _ _ c.requires.known in
    let can = ap (λ u. can_trim u least) c.divide.ensures.square ∙ sym c.in-Some.ensures.trims in
    let smaller = c.innermost.ensures.square ∙ ap (λ u. trimmed_square u least) (sym c.in-Some.ensures.square ∙ sym (ap inner c.divide.ensures.square))
    ∙ trimmed-smaller t least full c.requires.positive can in
    let Needs : (Tree → Type 0) → Type 0 = λ P. TrimmedTo P t least in
    joined-only Needs c.join.result (keeps-same old) (adds-none Needs old) c.join.ensures smaller
    (λ P n. record { smaller = trimmed-lower t least full c.requires.positive can; has = subst P smaller n })
