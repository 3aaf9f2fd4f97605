use Rattle.std.proofs.Common.{sym, ◌∙◌, ap, arith}
use Rattle.life_base.specs.Rules.{has_digit}
use Rattle.life_base.specs.Sets.{OuterTotalistic}
use Rattle.life_later.proofs.CourseLemmas.{blank-cells, blank-later}
use Rattle.life_later.proofs.StayLemmas.{blank-stays}
use Rattle.life_later.proofs.course.next_leap.Goals as goal

pub returns-in_default-clause-later : goal.returns-in_default-clause-later
returns-in_default-clause-later g c =
    let u = g.S.Squares.content c.args.squares.now c.args.root in
    let low = c.requires.low in
    let blank = rw c.in_default.is at c.in_ok-bounding_box.ensures.least in
    let quiet = ap (λ (d : OuterTotalistic). has_digit d.sets.births 0) (sym c.rule.view_is) ∙ c.rule.invariant.no_birth_on_zero in
    blank-later c.args.rule.now c.args.left u quiet (blank-cells u (g.met.S.Squares.full _ _ c.requires.known) (omega (arith, low)) blank)

pub returns-in_default-clause-stays : goal.returns-in_default-clause-stays
returns-in_default-clause-stays g c =
    let u = g.S.Squares.content c.args.squares.now c.args.root in
    let low = c.requires.low in
    let blank = rw c.in_default.is at c.in_ok-bounding_box.ensures.least in
    let quiet = ap (λ (d : OuterTotalistic). has_digit d.sets.births 0) (sym c.rule.view_is) ∙ c.rule.invariant.no_birth_on_zero in
    blank-stays c.args.rule.now c.args.left u quiet (blank-cells u (g.met.S.Squares.full _ _ c.requires.known) (omega (arith, low)) blank)
