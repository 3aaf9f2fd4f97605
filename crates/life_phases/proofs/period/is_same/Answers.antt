use Rattle.std.proofs.Common.{◌≡◌, ap, arith}
use Rattle.life_quad.specs.StoreLaws.{same_ids}
use Rattle.life_phases.proofs.period.is_same.Goals as goal

pub returns-clause-same : goal.returns-clause-same
returns-clause-same c e =
    let test = c.eq.ensures in
    let same : c.args.a.0 ≡ c.args.b.0 = grind arith in
    same_ids same

pub returns-clause-other : goal.returns-clause-other
returns-clause-other c e f =
    let test = c.eq.ensures in
    let same : c.args.a.0 ≡ c.args.b.0 = ap (λ i. i.0) f in
    grind arith
