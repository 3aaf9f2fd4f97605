use Rattle.std.proofs.Common.{◌≡◌, ◌+◌, ◌-◌, ◌<◌, ◌≤◌, refl, sym, subst, arith}
use Rattle.std.proofs.lemmas.Result.{err_from_is_err_and}
use Rattle.life_base.specs.Tree.{tree_cell}
use Rattle.life_quad.specs.Store.{content}
use Rattle.life_later.proofs.StageLemmas.{copy-refused, course-binary, course-copied, course-none, last-stage, next-stage, refused-apart}
use Rattle.life_later.proofs.stages.later_apart.Goals as goal

pub loop-left-init : goal.loop-left-init
loop-left-init c =
    let t = content c.args.from.now c.args.root in
    let n = c.args.generations in
    let own = c.in_ok-own.ensures in
    record {
      most = omega arith;
      known = own.known;
      states = λ x y. subst (λ u. tree_cell u x y < 2) (sym own.square) (c.requires.states x y);
      course = course-copied c.args.rule.now (n - n) t t _ own.square (course-none c.args.rule.now (n - n) t (omega arith) c.requires.low);
    }

pub loop-left-preserved : goal.loop-left-preserved
loop-left-preserved c =
    let inv = c.loop-left.invariant in
    let t = content c.args.from.now c.args.root in
    let n = c.in_ok-rest.ensures in
    let f = c.in_ok-fresh.ensures in
    let most = inv.most in
    let less = n.left in
    let rule = c.args.rule.now in
    let course = course-copied rule (c.args.generations - c.in_ok-rest.rest) t _ (content c.in_ok-fresh.fresh c.in_ok-fresh.copy) f.square
    (next-stage rule c.args.generations c.loop-left.left c.in_ok-rest.rest t _ _ most (omega (arith, less)) inv.course n.course) in
    record {
      most = omega (arith, most, less);
      known = f.known;
      states = course-binary rule (c.args.generations - c.in_ok-rest.rest) t _ c.requires.states course;
      course = course;
    }

pub returns-then-rest-eq0-clause-course : goal.returns-then-rest-eq0-clause-course
returns-then-rest-eq0-clause-course c =
    let inv = c.loop-left.invariant in
    let n = c.in_ok-rest.ensures in
    let less = n.left in
    let none = c.if-rest-eq0.true in
    last-stage c.args.rule.now c.args.generations c.in_ok-rest.rest _ _ (omega (arith, none))
    (next-stage c.args.rule.now c.args.generations c.loop-left.left c.in_ok-rest.rest _ _ _ inv.most (omega (arith, less)) inv.course n.course)

pub returns-in_err-own-clause-refusals : goal.returns-in_err-own-clause-refusals
returns-in_err-own-clause-refusals c =
    let p = err_from_is_err_and c.from_residual.result c.from_residual.ensures.1 in
    rw (p.1, p.2) (copy-refused c.args.rule.now _ _ _ _ c.in_err-own.ensures.refusals refl)

pub returns-in_err-rest-clause-refusals : goal.returns-in_err-rest-clause-refusals
returns-in_err-rest-clause-refusals c =
    let inv = c.loop-left.invariant in
    let most = inv.most in
    let left = c.loop-left.left in
    let e : left + (c.args.generations - left) ≡ c.args.generations = omega (arith, most) in
    let p = err_from_is_err_and c.from_residual-in_err-rest.result c.from_residual-in_err-rest.ensures.1 in
    rw (p.1, p.2) (refused-apart c.args.rule.now (c.args.generations - left) left c.args.generations (content c.args.from.now c.args.root) _ _ _ _ e
    inv.course c.in_err-rest.ensures.refusals)

pub returns-in_err-fresh-clause-refusals : goal.returns-in_err-fresh-clause-refusals
returns-in_err-fresh-clause-refusals c =
    let p = err_from_is_err_and c.from_residual-in_err-fresh.result c.from_residual-in_err-fresh.ensures.1 in
    rw (p.1, p.2) (copy-refused c.args.rule.now _ _ _ _ c.in_err-fresh.ensures.refusals refl)
