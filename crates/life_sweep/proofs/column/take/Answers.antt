use Rattle.std.proofs.Common.{◌<◌, subst, All}
use Rattle.std.proofs.lemmas.List.Elements.{All-head, All-tail}
use Rattle.life_base.specs.declared.cell.Cell.{Cell}
use Rattle.life_sweep.proofs.column.take.Goals as goal

pub returns-in-Some-clause-below : goal.returns-in-Some-clause-below
returns-in-Some-clause-below c bound positive h =
    let P = λ (cell : Cell). cell.state < bound in
    let all = subst (λ z. All P z) c.in-Some.ensures.cases.0 h in
    (All-tail P c.in-Some.cell.now c.in-Some.rest.now all, All-head P c.in-Some.cell.now c.in-Some.rest.now all)
