use Rattle.std.proofs.Common.{refl, sym, ◌∙◌, ap, arith}
use Rattle.std.proofs.lemmas.Result.{err_from_is_err_and, IfErr-weaker, IfOk-weaker}
use Rattle.life_base.specs.Rules.{has_digit}
use Rattle.life_base.specs.Sets.{OuterTotalistic}
use Rattle.life_base.specs.Tree.{tree_cell}
use Rattle.life_quad.proofs.LawLemmas.{known_squares_are_full}
use Rattle.life_quad.specs.Store.{content}
use Rattle.life_later.proofs.CourseLemmas.{blank-cells, box-on_plane}
use Rattle.life_phases.proofs.MiddleLemmas.{columns-order, moved-as-large, rows-order}
use Rattle.life_phases.proofs.PeriodLemmas.{blank-period, blank-stays_there, fault-back, moved-binary, moved-twice, period-back, shortage-back, stays-back}
use Rattle.life_phases.proofs.period.period_of.Goals as goal

pub returns-in_default-clause-period : goal.returns-in_default-clause-period
returns-in_default-clause-period c =
    let t = content c.args.squares.now c.args.root in
    let low = c.requires.low in
    let blank = rw c.in_default.is at c.in_ok-found.ensures.least in
    let quiet = ap (λ (d : OuterTotalistic). has_digit d.sets.births 0) (sym c.rule.view_is) ∙ c.rule.invariant.no_birth_on_zero in
    blank-period c.args.rule.now t (blank-cells t (known_squares_are_full _ _ c.requires.known.0).0 (omega (arith, low)) blank) c.args.most quiet
    c.period_of_blank.result c.period_of_blank.ensures.none c.period_of_blank.ensures.still

pub returns-in_default-clause-stays : goal.returns-in_default-clause-stays
returns-in_default-clause-stays c =
    let t = content c.args.squares.now c.args.root in
    let low = c.requires.low in
    let blank = rw c.in_default.is at c.in_ok-found.ensures.least in
    blank-stays_there c.args.rule.now c.args.most t (blank-cells t (known_squares_are_full _ _ c.requires.known.0).0 (omega (arith, low)) blank)

pub returns-clause-stays : goal.returns-clause-stays
returns-clause-stays c =
    IfOk-weaker c.first_period.result _ _
    (λ answer h. stays-back c.args.rule.now c.args.most _ _ _ _ c.in_ok-start.ensures.moved c.in_ok-start.ensures.middle.middle h)
    c.first_period.ensures.stays

pub way_to_middle-way-requires-clause-plane : goal.way_to_middle-way-requires-clause-plane
way_to_middle-way-requires-clause-plane c =
    let t = content c.args.squares.now c.args.root in
    let low = c.requires.low in
    let box = rw c.in-Some.is at c.in_ok-found.ensures.least in
    box-on_plane t c.in-Some.found (omega (arith, low)) (known_squares_are_full _ _ c.requires.known.0).1 box

pub way_to_middle-way-requires-clause-columns : goal.way_to_middle-way-requires-clause-columns
way_to_middle-way-requires-clause-columns c =
    let box = rw c.in-Some.is at c.in_ok-found.ensures.least in
    columns-order (content c.args.squares.now c.args.root) c.in-Some.found box

pub way_to_middle-way-requires-clause-rows : goal.way_to_middle-way-requires-clause-rows
way_to_middle-way-requires-clause-rows c =
    let box = rw c.in-Some.is at c.in_ok-found.ensures.least in
    rows-order (content c.args.squares.now c.args.root) c.in-Some.found box

pub returns-in_err-start-clause-refusals : goal.returns-in_err-start-clause-refusals
returns-in_err-start-clause-refusals c =
    let p = err_from_is_err_and c.from_residual-in_err-start.result c.from_residual-in_err-start.ensures.1 in
    rw (p.1, p.2) (shortage-back c.args.rule.now c.args.most (tree_cell (content c.args.squares.now c.args.root)) _ _ _ _ c.in_err-start.ensures.refusals refl)

pub returns-in_err-first-clause-refusals : goal.returns-in_err-first-clause-refusals
returns-in_err-first-clause-refusals c =
    let p = err_from_is_err_and c.from_residual-in_err-first.result c.from_residual-in_err-first.ensures.1 in
    rw (p.1, p.2) (shortage-back c.args.rule.now c.args.most (tree_cell (content c.args.squares.now c.args.root)) _ _ _ _ c.in_err-first.ensures.refusals refl)

pub first_period-requires-clause-states : goal.first_period-requires-clause-states
first_period-requires-clause-states c = moved-binary _ _ _ _ c.in_ok-start.ensures.moved c.requires.states

pub first_period-requires-clause-same : goal.first_period-requires-clause-same
first_period-requires-clause-same c = moved-twice _ _ _ _ _ c.in_ok-start.ensures.moved c.in_ok-first.ensures.moved

pub returns-clause-period : goal.returns-clause-period
returns-clause-period c =
    IfOk-weaker c.first_period.result _ _
    (λ answer h. period-back c.args.rule.now c.args.most _ _ _ _ c.in_ok-start.ensures.moved answer h) c.first_period.ensures.period

pub returns-clause-refusals : goal.returns-clause-refusals
returns-clause-refusals c =
    IfErr-weaker c.first_period.result _ _
    (λ fault h. fault-back c.args.rule.now c.args.most _ _ _ _ c.in_ok-start.ensures.moved c.in_ok-start.ensures.middle.middle fault h)
    c.first_period.ensures.refusals

pub first_period-requires-clause-plane : goal.first_period-requires-clause-plane
first_period-requires-clause-plane c =
    let t = content c.args.squares.now c.args.root in
    let low = c.requires.low in
    let box = rw c.in-Some.is at c.in_ok-found.ensures.least in
    box-on_plane t c.in-Some.found (omega (arith, low)) (known_squares_are_full _ _ c.requires.known.0).1 box

pub first_period-requires-clause-outline : goal.first_period-requires-clause-outline
first_period-requires-clause-outline c =
    let t = content c.args.squares.now c.args.root in
    let box = rw c.in-Some.is at c.in_ok-found.ensures.least in
    moved-as-large t (content c.in_middle-2.new.to c.in_ok-first.first) c.in-Some.found _ _ box c.in_ok-first.ensures.moved
