use Rattle.std.proofs.Common.{◌≤◌, inr, ◌∙◌, subst, arith}
use Rattle.std.proofs.lemmas.Result.{IfErr-weaker}
use Rattle.life_base.specs.Tree.{depth}
use Rattle.life_base.proofs.Results.{if_ok_two}
use Rattle.life_mc.specs.Macrocell.{largest_state}
use Rattle.life_pattern.specs.Store.{content}
use Rattle.life_pattern.specs.Universe.{least_level}
use Rattle.life_periods.proofs.FileFacts.{name-refused, pattern-refused, period-read}
use Rattle.life_periods.proofs.files.period_of_pattern.Goals as goal

pub returns-in_default-clause-refused : goal.returns-in_default-clause-refused
returns-in_default-clause-refused c =
    rw c.of.ensures
    (inr (λ bytes r. name-refused c.patterns_fit.ensures c.args.most c.args.store.now c.args.pattern.now bytes r c.in_default.not-Life))

pub period_of-requires-clause-low : goal.period_of-requires-clause-low
period_of-requires-clause-low c =
    let fits = c.patterns_fit.ensures _ _ _ c.requires.1 in
    subst (λ q. least_level q ≤ depth (content c.args.store.now c.args.pattern.now.root)) c.in-Life.is fits.0.level

pub period_of-requires-clause-states : goal.period_of-requires-clause-states
period_of-requires-clause-states c =
    let r = c.requires.1 in
    let u = r.universe in
    let fits = c.patterns_fit.ensures _ _ _ r in
    let plane = c.files_are_on_plane.ensures c.requires.0 u r.reads in
    let is = fits.1.rule ∙ c.in-Life.is in
    λ x y.
    let small = subst (λ q. u.cell x y ≤ largest_state q) is (plane.states x y) in
    let same = fits.1.cells x y in
    omega (arith, small, same)

pub returns-clause-period : goal.returns-clause-period
returns-clause-period c =
    if_ok_two c.period_of.result
    (λ answer h stays bytes r. period-read c.patterns_fit.ensures c.args.most c.args.store.now c.args.pattern.now bytes r c.in-Life.rule c.in-Life.is answer
    h stays) c.period_of.ensures.period c.period_of.ensures.stays

pub returns-clause-refused : goal.returns-clause-refused
returns-clause-refused c =
    IfErr-weaker c.period_of.result _ _
    (λ fault h. pattern-refused c.patterns_fit.ensures c.args.most c.args.store.now c.args.pattern.now c.in-Life.rule c.in-Life.is fault h)
    c.period_of.ensures.refusals
