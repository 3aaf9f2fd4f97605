use Rattle.std.proofs.Common.{refl, sym, ◌∙◌, ap, arith}
use Rattle.std.proofs.lemmas.Result.{err_from_is_err_and, IfOk-weaker}
use Rattle.life_base.specs.Rules.{has_digit}
use Rattle.life_base.specs.Sets.{OuterTotalistic}
use Rattle.life_base.specs.Tree.{tree_cell}
use Rattle.life_quad.specs.Store.{content}
use Rattle.life_quad.proofs.LawLemmas.{known_squares_are_full}
use Rattle.life_later.proofs.CourseLemmas.{blank-cells, box-on_plane}
use Rattle.life_phases.proofs.MiddleLemmas.{columns-order, rows-order}
use Rattle.life_phases.proofs.PeriodLemmas.{moved-binary}
use Rattle.life_phase_forms.proofs.PhaseLemmas.{blank-least, moved-least, moved-text, period-stays, shortage-want, square-trimmed}
use Rattle.life_phase_forms.proofs.texts.least_text_of.Goals as goal

pub returns-in_default-clause-text : goal.returns-in_default-clause-text
returns-in_default-clause-text c =
    let t = content c.args.store.now c.args.root in
    let low = c.requires.low in
    let blank = rw c.in_default.is at c.in_ok-found.ensures.least in
    let quiet = ap (λ (d : OuterTotalistic). has_digit d.sets.births 0) (sym c.rule.view_is) ∙ c.rule.invariant.no_birth_on_zero in
    blank-least c.args.rule.now c.args.period.now t c.args.first.items quiet
    (blank-cells t (known_squares_are_full _ _ c.requires.known.0).0 (omega (arith, low)) blank) c.requires.period c.requires.first

pub way_to_middle-way-requires-clause-plane : goal.way_to_middle-way-requires-clause-plane
way_to_middle-way-requires-clause-plane c =
    let t = content c.args.store.now c.args.root in
    let low = c.requires.low in
    let box = rw c.in-Some.is at c.in_ok-found.ensures.least in
    box-on_plane t c.in-Some.found (omega (arith, low)) (known_squares_are_full _ _ c.requires.known.0).1 box

pub way_to_middle-way-requires-clause-columns : goal.way_to_middle-way-requires-clause-columns
way_to_middle-way-requires-clause-columns c =
    let box = rw c.in-Some.is at c.in_ok-found.ensures.least in
    columns-order (content c.args.store.now c.args.root) c.in-Some.found box

pub way_to_middle-way-requires-clause-rows : goal.way_to_middle-way-requires-clause-rows
way_to_middle-way-requires-clause-rows c =
    let box = rw c.in-Some.is at c.in_ok-found.ensures.least in
    rows-order (content c.args.store.now c.args.root) c.in-Some.found box

pub returns-in_err-start-clause-refused : goal.returns-in_err-start-clause-refused
returns-in_err-start-clause-refused c =
    let p = err_from_is_err_and c.from_residual-in_err-start.result c.from_residual-in_err-start.ensures.1 in
    rw (p.1, p.2) (shortage-want _ _ _ _ refl c.in_err-start.ensures.refusals)

pub least_text-requires-clause-some : goal.least_text-requires-clause-some
least_text-requires-clause-some c = c.requires.period.is.some

pub least_text-requires-clause-trimmed : goal.least_text-requires-clause-trimmed
least_text-requires-clause-trimmed c =
    let m = c.in_ok-start.ensures in
    square-trimmed c.squares_are_centred.ensures c.args.rule.now c.in_middle.new.to c.in_ok-start.start m.known m.middle.low m.middle.trimmed
    (moved-binary _ _ _ _ m.moved c.requires.states)

pub least_text-requires-clause-stays : goal.least_text-requires-clause-stays
least_text-requires-clause-stays c =
    let m = c.in_ok-start.ensures in
    period-stays c.args.rule.now (tree_cell (content c.args.store.now c.args.root)) (tree_cell (content c.in_middle.new.to c.in_ok-start.start)) _ _
    c.args.period.now m.moved m.middle.middle c.requires.period c.requires.stays

pub least_text-requires-clause-first : goal.least_text-requires-clause-first
least_text-requires-clause-first c =
    moved-text c.args.rule.now (content c.args.store.now c.args.root) (content c.in_middle.new.to c.in_ok-start.start) _ _ c.args.first.items
    c.in_ok-start.ensures.moved c.requires.first

pub returns-clause-text : goal.returns-clause-text
returns-clause-text c =
    IfOk-weaker c.least_text.result _ _
    (λ text h. moved-least c.args.rule.now c.args.period.now.generations (content c.args.store.now c.args.root)
    (content c.in_middle.new.to c.in_ok-start.start) _ _ text.items c.in_ok-start.ensures.moved h) c.least_text.ensures.text
