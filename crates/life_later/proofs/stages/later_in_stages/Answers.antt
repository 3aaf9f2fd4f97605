use Rattle.std.proofs.Common.{◌≡◌, ◌+◌, ◌-◌, arith}
use Rattle.std.proofs.lemmas.Result.{IfErr-weaker, IfOk-weaker}
use Rattle.life_quad.proofs.KeepingLemmas.{keeps-same, keeps-then}
use Rattle.life_quad.specs.Store.{content}
use Rattle.life_later.proofs.ApartLemmas.{rest-later, rest-stays}
use Rattle.life_later.proofs.StageLemmas.{course-binary, course-none, last-stage, refused-later}
use Rattle.life_later.proofs.stages.later_in_stages.Goals as goal

pub returns-then-generations-eq0-clause-later : goal.returns-then-generations-eq0-clause-later
returns-then-generations-eq0-clause-later c =
    let none = c.if-generations-eq0.true in
    (course-none c.args.rule.now c.args.generations (content c.args.squares.now c.args.root) (omega (arith, none)) c.requires.low).later

pub returns-then-generations-eq0-clause-stays : goal.returns-then-generations-eq0-clause-stays
returns-then-generations-eq0-clause-stays c =
    let none = c.if-generations-eq0.true in
    (course-none c.args.rule.now c.args.generations (content c.args.squares.now c.args.root) (omega (arith, none)) c.requires.low).stays

pub returns-then-generations-eq0-clause-keeps : goal.returns-then-generations-eq0-clause-keeps
returns-then-generations-eq0-clause-keeps c = keeps-same c.args.squares.now

pub returns-then-left-eq0-clause-later : goal.returns-then-left-eq0-clause-later
returns-then-left-eq0-clause-later c =
    let none = c.if-left-eq0.true in
    (last-stage c.args.rule.now c.args.generations c.in_ok-left.left _ _ (omega (arith, none)) c.in_ok-left.ensures.course).later

pub returns-then-left-eq0-clause-stays : goal.returns-then-left-eq0-clause-stays
returns-then-left-eq0-clause-stays c =
    let none = c.if-left-eq0.true in
    (last-stage c.args.rule.now c.args.generations c.in_ok-left.left _ _ (omega (arith, none)) c.in_ok-left.ensures.course).stays

pub returns-clause-later : goal.returns-clause-later
returns-clause-later c =
    let n = c.in_ok-left.ensures in
    let less = n.left in
    let left = c.in_ok-left.left in
    let e : left + (c.args.generations - left) ≡ c.args.generations = omega (arith, less) in
    IfOk-weaker c.rest_of_course.result _ _
    (λ r h. rest-later c.args.rule.now (c.args.generations - left) left c.args.generations _ _ e n.course (content c.rest_of_course.new.squares r) h)
    c.rest_of_course.ensures.later

pub returns-clause-stays : goal.returns-clause-stays
returns-clause-stays c =
    let n = c.in_ok-left.ensures in
    let less = n.left in
    let left = c.in_ok-left.left in
    let e : left + (c.args.generations - left) ≡ c.args.generations = omega (arith, less) in
    IfOk-weaker c.rest_of_course.result _ _ (λ r h. rest-stays c.args.rule.now (c.args.generations - left) left c.args.generations _ _ e n.course h)
    c.rest_of_course.ensures.stays

pub returns-clause-refusals : goal.returns-clause-refusals
returns-clause-refusals c =
    let n = c.in_ok-left.ensures in
    let less = n.left in
    let left = c.in_ok-left.left in
    let e : left + (c.args.generations - left) ≡ c.args.generations = omega (arith, less) in
    IfErr-weaker c.rest_of_course.result _ _
    (λ fault h. refused-later c.args.rule.now (c.args.generations - left) left c.args.generations _ _ _ _ fault e n.course h)
    c.rest_of_course.ensures.refusals

pub returns-clause-keeps : goal.returns-clause-keeps
returns-clause-keeps c = keeps-then c.in_ok-left.ensures.keeps c.rest_of_course.ensures.keeps

pub rest_of_course-requires-clause-states : goal.rest_of_course-requires-clause-states
rest_of_course-requires-clause-states c =
    course-binary c.args.rule.now (c.args.generations - c.in_ok-left.left) _ _ c.requires.states c.in_ok-left.ensures.course

pub rest_of_course-requires-clause-low : goal.rest_of_course-requires-clause-low
rest_of_course-requires-clause-low c = c.in_ok-left.ensures.course.low
