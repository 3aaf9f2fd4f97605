use Rattle.std.proofs.Common.{◌≤◌, subst}
use Rattle.std.proofs.lemmas.Result.{err_from_is_err_and, IfOk-weaker}
use Rattle.life_base.specs.Tree.{depth}
use Rattle.life_mc.specs.Macrocell.{largest_state}
use Rattle.life_mc.specs.Squares.{HasStatesUpTo}
use Rattle.life_quad.specs.Store.{content}
use Rattle.life_pattern.specs.Universe.{least_level}
use Rattle.life_phase_forms.proofs.FileLemmas.{aperiodic-text, named-text, period-refused, periodic-text, text-under, trimmed-again}
use Rattle.life_phase_forms.proofs.PhaseLemmas.{trimmed-binary}
use Rattle.life_phase_forms.proofs.texts.phases_text.Goals as goal

pub turned_text_of-requires : goal.turned_text_of-requires
turned_text_of-requires c =
    let fits = c.patterns_fit.ensures _ _ _ c.requires.1 in
    trimmed-again c.args.store.now c.args.pattern.now c.in_ok-copy.copy c.in_ok-copy.ensures.ok fits.0

pub returns-in_default-clause-text : goal.returns-in_default-clause-text
returns-in_default-clause-text c = λ bytes r.
    named-text c.patterns_fit.ensures c.args.most c.args.store.now c.args.pattern.now bytes r c.in_ok-first.first.items c.in_default.not-Life
    (text-under c.in_ok-copy.copy c.args.pattern.now.rule (content c.args.store.now c.args.pattern.now.root) c.in_ok-first.first.items
    c.in_ok-copy.ensures.ok c.in_ok-first.ensures.text)

pub period_of-requires-clause-low : goal.period_of-requires-clause-low
period_of-requires-clause-low c =
    let fits = c.patterns_fit.ensures _ _ _ c.requires.1 in
    subst (λ q. least_level q ≤ depth (content c.args.store.now c.args.pattern.now.root)) c.in-Life.is fits.0.level

pub period_of-requires-clause-states : goal.period_of-requires-clause-states
period_of-requires-clause-states c =
    let fits = c.patterns_fit.ensures _ _ _ c.requires.1 in
    let t = content c.args.store.now c.args.pattern.now.root in
    trimmed-binary t (subst (λ q. HasStatesUpTo (largest_state q) t) c.in-Life.is fits.0.states)

pub returns-in_err-found-clause-refused : goal.returns-in_err-found-clause-refused
returns-in_err-found-clause-refused c =
    let p = err_from_is_err_and c.from_residual-in_err-found.result c.from_residual-in_err-found.ensures.1 in
    rw (p.1, p.2) (period-refused c.patterns_fit.ensures c.args.most c.args.store.now c.args.pattern.now c.in-Life.rule c.in-Life.is
    _ c.in_err-found.ensures.refusals)

pub returns-in_default-found-clause-text : goal.returns-in_default-found-clause-text
returns-in_default-found-clause-text c =
    let none = rw c.in_default-found.is at c.in_ok-found.ensures.period in
    λ bytes r.
    aperiodic-text c.patterns_fit.ensures c.args.most c.args.store.now c.args.pattern.now bytes r c.in-Life.rule c.in-Life.is c.in_ok-first.first.items none
    c.in_ok-found.ensures.stays
    (text-under c.in_ok-copy.copy c.args.pattern.now.rule (content c.args.store.now c.args.pattern.now.root) c.in_ok-first.first.items
    c.in_ok-copy.ensures.ok c.in_ok-first.ensures.text)

pub least_text_of-requires-clause-low : goal.least_text_of-requires-clause-low
least_text_of-requires-clause-low c =
    let fits = c.patterns_fit.ensures _ _ _ c.requires.1 in
    subst (λ q. least_level q ≤ depth (content c.args.store.now c.args.pattern.now.root)) c.in-Life.is fits.0.level

pub least_text_of-requires-clause-states : goal.least_text_of-requires-clause-states
least_text_of-requires-clause-states c =
    let fits = c.patterns_fit.ensures _ _ _ c.requires.1 in
    let t = content c.args.store.now c.args.pattern.now.root in
    trimmed-binary t (subst (λ q. HasStatesUpTo (largest_state q) t) c.in-Life.is fits.0.states)

pub returns-clause-text : goal.returns-clause-text
returns-clause-text c =
    let found = rw c.in-Some.is at c.in_ok-found.ensures.period in
    IfOk-weaker c.least_text_of.result _ _
    (λ text h bytes r. periodic-text c.patterns_fit.ensures c.args.most c.args.store.now c.args.pattern.now bytes r c.in-Life.rule c.in-Life.is text.items
    c.in-Some.period found.0 found.1 c.in_ok-found.ensures.stays h) c.least_text_of.ensures.text
