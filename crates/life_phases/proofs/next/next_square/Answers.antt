use Rattle.std.proofs.Common.{sym, ◌∙◌, ap}
use Rattle.std.proofs.lemmas.Result.{err_from_is_err_and}
use Rattle.life_base.specs.Tree.{tree_cell}
use Rattle.life_quad.specs.Store.{content}
use Rattle.life_quad.proofs.LawLemmas.{known_squares_are_full}
use Rattle.life_leap.proofs.AfterLemmas.{after-one}
use Rattle.life_phases.proofs.NextLemmas.{shortage-of_course, small-stays}
use Rattle.life_phases.proofs.next.next_square.Goals as goal

pub returns-in_err-next-clause-refusals : goal.returns-in_err-next-clause-refusals
returns-in_err-next-clause-refusals c =
    let p = err_from_is_err_and c.from_residual.result c.from_residual.ensures.1 in
    rw (p.1, p.2) (shortage-of_course c.args.rule.now (tree_cell (content c.args.course.now c.args.now)) _ _ _ c.in_err-next.ensures.refusals)

pub returns-clause-later : goal.returns-clause-later
returns-clause-later c x y =
    c.in_ok-next.ensures.next x y ∙ ap (λ f. f x y) (sym (after-one c.args.rule.now (tree_cell (content c.args.course.now c.args.now))))

pub returns-clause-stays : goal.returns-clause-stays
returns-clause-stays c =
    let t = content c.args.course.now c.args.now in
    let u = content c.next_life_square.new.squares c.in_ok-next.next in
    small-stays c.args.rule.now t u (known_squares_are_full _ _ c.in_ok-next.ensures.known.0).1
    (λ x y. c.in_ok-next.ensures.next x y ∙ ap (λ f. f x y) (sym (after-one c.args.rule.now (tree_cell t))))
