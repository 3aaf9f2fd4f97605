use Rattle.std.proofs.lemmas.Result.{err_from_is_err_and}
use Rattle.life_quad.specs.Store.{content}
use Rattle.life_later.proofs.CourseLemmas.{binary-later}
use Rattle.life_phase_forms.proofs.PhaseLemmas.{course-want, square-trimmed}
use Rattle.life_phase_forms.proofs.texts.next_root.Goals as goal

pub returns-in_err-next-clause-refused : goal.returns-in_err-next-clause-refused
returns-in_err-next-clause-refused c =
    let p = err_from_is_err_and c.from_residual.result c.from_residual.ensures.1 in
    rw (p.1, p.2) (course-want c.args.rule.now 1 _ _ _ _ c.in_err-next.ensures.refusals c.requires.stays)

pub returns-clause-trimmed : goal.returns-clause-trimmed
returns-clause-trimmed c =
    let n = c.in_ok-next.ensures in
    let u = content c.next_phase.new.course c.in_ok-next.next in
    square-trimmed c.squares_are_centred.ensures c.args.rule.now c.next_phase.new.course c.in_ok-next.next n.known n.low n.trimmed
    (binary-later c.args.rule.now 1 (content c.args.course.now c.args.now) u c.requires.states n.later)
