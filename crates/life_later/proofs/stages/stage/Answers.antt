use Rattle.std.proofs.Common.{◌≡◌, ◌+◌, ◌-◌, arith}
use Rattle.std.proofs.lemmas.Result.{err_from_is_err_and}
use Rattle.life_quad.proofs.KeepingLemmas.{keeps-same, keeps-then}
use Rattle.life_quad.specs.Store.{content}
use Rattle.life_leap.proofs.LeapLemmas.{no-leaps}
use Rattle.life_later.proofs.CourseLemmas.{binary-later}
use Rattle.life_later.proofs.StageLemmas.{course-none, next-course, refused-later}
use Rattle.life_later.proofs.stages.stage.Goals as goal

pub loop-left-init : goal.loop-left-init
loop-left-init c = record {
  most = omega arith;
  remembers = no-leaps _ c.new-memory.ensures;
  known = c.requires.known;
  states = c.requires.states;
  course = course-none c.args.rule.now (c.args.generations - c.args.generations) (content c.args.squares.now c.args.root) (omega arith) c.requires.low;
  keeps = keeps-same c.args.squares.now;
}

pub loop-left-preserved : goal.loop-left-preserved
loop-left-preserved c =
    let inv = c.loop-left.invariant in
    let n = c.in_ok-consumed.ensures in
    let most = inv.most in
    let u = content c.loop-left.squares c.loop-left.now in
    let v = content c.next_leap.new.squares c.in_ok-consumed.next in
    record {
      most = omega (arith, most);
      remembers = n.remembers;
      known = n.known;
      states = binary-later c.args.rule.now c.in_ok-consumed.consumed u v inv.states n.later;
      course = next-course c.args.rule.now c.args.generations c.loop-left.left c.in_ok-consumed.consumed
          (content c.args.squares.now c.args.root) u v most n.consumed.1
          inv.course n.low n.later n.stays;
      keeps = keeps-then inv.keeps n.keeps;
    }

pub returns-in_err-consumed-clause-refusals : goal.returns-in_err-consumed-clause-refusals
returns-in_err-consumed-clause-refusals c =
    let inv = c.loop-left.invariant in
    let most = inv.most in
    let left = c.loop-left.left in
    let e : left + (c.args.generations - left) ≡ c.args.generations = omega (arith, most) in
    let p = err_from_is_err_and c.from_residual.result c.from_residual.ensures.1 in
    rw (p.1, p.2) (refused-later c.args.rule.now (c.args.generations - left) left c.args.generations (content c.args.squares.now c.args.root)
    (content c.loop-left.squares c.loop-left.now) _ _ _ e inv.course c.in_err-consumed.ensures.refusals)

pub returns-in_err-consumed-clause-keeps : goal.returns-in_err-consumed-clause-keeps
returns-in_err-consumed-clause-keeps c = keeps-then c.loop-left.invariant.keeps c.in_err-consumed.ensures.keeps

pub returns-then-len-most-clause-course : goal.returns-then-len-most-clause-course
returns-then-len-most-clause-course c =
    let inv = c.loop-left.invariant in
    let n = c.in_ok-consumed.ensures in
    next-course c.args.rule.now c.args.generations c.loop-left.left c.in_ok-consumed.consumed (content c.args.squares.now c.args.root) _ _ inv.most n.consumed.1
    inv.course n.low n.later n.stays

pub returns-then-len-most-clause-keeps : goal.returns-then-len-most-clause-keeps
returns-then-len-most-clause-keeps c = keeps-then c.loop-left.invariant.keeps c.in_ok-consumed.ensures.keeps
