use Rattle.std.proofs.Common.{◌*◌, ◌%◌, ◌^◌, ◌≤◌, sym, ◌∙◌, ap, arith}
use Rattle.life_later.proofs.CourseLemmas.{box-on_plane, margin-of_box}
use Rattle.std.proofs.lemmas.Result.{err_from_is_err_and}
use Rattle.life_base.specs.Rules.{has_digit}
use Rattle.life_base.specs.Sets.{OuterTotalistic}
use Rattle.life_later.proofs.StayLemmas.{edge-refused, edge-stays, margin-stays}
use Rattle.life_leap.proofs.LeapLemmas.{leaps-kept}
use Rattle.life_later.proofs.course.leap.Goals as goal

pub returns-then-margin-eq0-clause-remembers : goal.returns-then-margin-eq0-clause-remembers
returns-then-margin-eq0-clause-remembers g c = leaps-kept c.in_ok-next.ensures.keeps c.requires.remembers

pub leap_on_plane-requires-clause-margin : goal.leap_on_plane-requires-clause-margin
leap_on_plane-requires-clause-margin g c =
    let f = c.pace_for-pace.ensures.margin in
    margin-of_box _ c.args.bounding_box.now c.margin_of-margin.result (2 ^ c.pace_for-pace.result) c.requires.inside c.margin_of-margin.ensures (omega
    (arith, f))

pub margin_of-margin-requires : goal.margin_of-margin-requires
margin_of-margin-requires g c =
    let low = c.requires.low in
    box-on_plane _ c.args.bounding_box.now (omega (arith, low)) (g.met.S.Squares.low _ _ c.requires.known) c.requires.inside

pub returns-in_err-next-clause-refusals : goal.returns-in_err-next-clause-refusals
returns-in_err-next-clause-refusals g c =
    let p = err_from_is_err_and c.from_residual.result c.from_residual.ensures.1 in
    rw (p.1, p.2) (edge-refused c.args.rule.now _ c.args.left c.requires.some _ _ _ c.in_err-next.ensures.refusals)

pub returns-then-margin-eq0-clause-stays : goal.returns-then-margin-eq0-clause-stays
returns-then-margin-eq0-clause-stays g c = edge-stays c.args.rule.now _ c.in_ok-next.ensures.stays

pub returns-clause-stays : goal.returns-clause-stays
returns-clause-stays g c =
    let f = c.pace_for-pace.ensures.margin in
    let quiet = ap (λ (d : OuterTotalistic). has_digit d.sets.births 0) (sym c.rule.view_is) ∙ c.rule.invariant.no_birth_on_zero in
    let m : 1 * 2 ^ c.pace_for-pace.result % 18446744073709551616 ≤ c.margin_of-margin.result = omega (arith, f) in
    margin-stays c.args.rule.now _ c.args.bounding_box.now c.margin_of-margin.result
    (1 * 2 ^ c.pace_for-pace.result % 18446744073709551616) quiet c.requires.inside
    c.margin_of-margin.ensures m
