use Rattle.std.proofs.Common.{◌∙◌}
use Rattle.std.proofs.lemmas.Result.{err_from_is_err_and}
use Rattle.life_base.specs.Tree.{tree_cell}
use Rattle.life_quad.specs.Store.{content}
use Rattle.life_quad.proofs.KeepingLemmas.{keeps-then}
use Rattle.life_quad.proofs.LawLemmas.{known_squares_are_full}
use Rattle.life_phases.proofs.NextLemmas.{shortage-of_course, trimmed-to}
use Rattle.life_phases.proofs.next.next_phase.Goals as goal

pub returns-in_err-trimmed-clause-refusals : goal.returns-in_err-trimmed-clause-refusals
returns-in_err-trimmed-clause-refusals c =
    let p = err_from_is_err_and c.from_residual-in_err-trimmed.result c.from_residual-in_err-trimmed.ensures.1 in
    rw (p.1, p.2) (shortage-of_course c.args.rule.now (tree_cell (content c.args.course.now c.args.now)) _ _ _ c.in_err-trimmed.ensures.refusals)

pub returns-clause-low : goal.returns-clause-low
returns-clause-low c =
    let n = c.in_ok-next.ensures in
    (trimmed-to _ _ (known_squares_are_full _ _ n.known.0).0 n.low c.in_ok-trimmed.ensures.square).low

pub returns-clause-trimmed : goal.returns-clause-trimmed
returns-clause-trimmed c =
    let n = c.in_ok-next.ensures in
    (trimmed-to _ _ (known_squares_are_full _ _ n.known.0).0 n.low c.in_ok-trimmed.ensures.square).trimmed

pub returns-clause-later : goal.returns-clause-later
returns-clause-later c =
    let n = c.in_ok-next.ensures in
    let is = trimmed-to _ _ (known_squares_are_full _ _ n.known.0).0 n.low c.in_ok-trimmed.ensures.square in
    λ x y. is.cells x y ∙ n.later x y

pub returns-in_err-trimmed-clause-keeps : goal.returns-in_err-trimmed-clause-keeps
returns-in_err-trimmed-clause-keeps c = keeps-then c.in_ok-next.ensures.keeps c.trim.ensures.keeps

pub returns-clause-keeps : goal.returns-clause-keeps
returns-clause-keeps c = keeps-then c.in_ok-next.ensures.keeps c.trim.ensures.keeps
