use Rattle.std.proofs.Common.{◌≡◌, ◌+◌, ◌-◌, sym, ◌∙◌, ap, subst, arith}
use Rattle.std.proofs.lemmas.Result.{err_from_is_err_and}
use Rattle.life_base.specs.Tree.{tree_cell}
use Rattle.life_quad.proofs.KeepingLemmas.{keeps-same, keeps-then}
use Rattle.life_leap.specs.After.{after}
use Rattle.life_leap.proofs.LeapLemmas.{no-leaps}
use Rattle.life_later.specs.Course.{LeavesWithin, IsCourseFault}
use Rattle.life_later.proofs.CourseLemmas.{binary-later, none-later, then-later}
use Rattle.life_later.proofs.StayLemmas.{fault-then, none-leaves, stays-then}
use Rattle.life_later.proofs.course.later.Goals as goal

pub loop-left-init : goal.loop-left-init
loop-left-init g c =
    let u = g.S.Squares.content c.args.squares.now c.args.root in
    let n = c.args.generations in
    let e : n - n ≡ 0 = omega arith in
    record {
      most = omega arith;
      remembers = no-leaps _ c.new-memory.ensures;
      known = c.requires.known;
      low = c.requires.low;
      states = c.requires.states;
      later = λ x y. none-later c.args.rule.now u x y ∙ ap (λ m. after c.args.rule.now m (tree_cell u) x y) (sym e);
      stays = λ h. none-leaves c.args.rule.now (n - n) (tree_cell u) e h;
      keeps = keeps-same c.args.squares.now;
    }

pub returns-in_err-consumed-clause-refusals : goal.returns-in_err-consumed-clause-refusals
returns-in_err-consumed-clause-refusals g c =
    let inv = c.loop-left.invariant in
    let rule = c.args.rule.now in
    let t = g.S.Squares.content c.args.squares.now c.args.root in
    let u = g.S.Squares.content c.loop-left.squares c.loop-left.now in
    let most = inv.most in
    let e : c.loop-left.left + (c.args.generations - c.loop-left.left) ≡ c.args.generations = omega (arith, most) in
    let same : tree_cell u ≡ after rule (c.args.generations - c.loop-left.left) (tree_cell t) = (λ i x y. inv.later x y i) in
    let now = c.next_leap.new.squares in
    let p = err_from_is_err_and c.from_residual.result c.from_residual.ensures.1 in
    rw (p.1, p.2) (subst (λ m. IsCourseFault rule m (tree_cell t) (g.S.Squares.stored now) (g.S.Squares.most now) c.in_err-consumed.field-0.0) e
    (fault-then rule (c.args.generations - c.loop-left.left) c.loop-left.left (tree_cell t) (tree_cell u) same _ _ _ c.in_err-consumed.ensures.refusals))

pub loop-left-preserved : goal.loop-left-preserved
loop-left-preserved g c =
    let inv = c.loop-left.invariant in
    let rule = c.args.rule.now in
    let t = g.S.Squares.content c.args.squares.now c.args.root in
    let u = g.S.Squares.content c.loop-left.squares c.loop-left.now in
    let v = g.S.Squares.content c.next_leap.new.squares c.in_ok-consumed.next in
    let n = c.in_ok-consumed.ensures in
    let most = inv.most in
    let a = n.consumed.0 in
    let b = n.consumed.1 in
    let done = c.args.generations - c.loop-left.left in
    let e : c.in_ok-consumed.consumed + done ≡ c.args.generations - (c.loop-left.left - c.in_ok-consumed.consumed) = omega (arith, most, a, b) in
    let same : tree_cell u ≡ after rule done (tree_cell t) = (λ i x y. inv.later x y i) in
    record {
      most = omega (arith, most);
      remembers = n.remembers;
      known = n.known;
      low = n.low;
      states = binary-later rule c.in_ok-consumed.consumed u v inv.states n.later;
      later = λ x y. then-later rule done c.in_ok-consumed.consumed t u v inv.later n.later x y ∙ ap (λ m. after rule m (tree_cell t) x y) e;
      stays = λ h. stays-then rule done c.in_ok-consumed.consumed (tree_cell t) (tree_cell u) same inv.stays n.stays
          (subst (λ m. LeavesWithin rule m (tree_cell t)) (sym e) h);
      keeps = keeps-then inv.keeps n.keeps;
    }

pub returns-in_err-consumed-clause-keeps : goal.returns-in_err-consumed-clause-keeps
returns-in_err-consumed-clause-keeps g c = keeps-then c.loop-left.invariant.keeps c.in_err-consumed.ensures.keeps
