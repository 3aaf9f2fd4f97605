use Rattle.std.proofs.Common.{sym, ◌∙◌, subst}
use Rattle.life_base.specs.Tree.{tree_cell}
use Rattle.life_quad.proofs.GrowsLemmas.{grows-err, grows-ok}
use Rattle.life_quad.proofs.LawLemmas.{known_squares_are_full}
use Rattle.life_block.specs.Laws.{IsNextAt}
use Rattle.life_block.proofs.LawPlaneLemmas.{part-of_image, upright-image}
use Rattle.life_block.proofs.law_generation.next_by_squares.Goals as goal

pub returns-in_err-turned-clause-grows : goal.returns-in_err-turned-clause-grows
returns-in_err-turned-clause-grows g c =
    let law = c.args.law.now in
    let found = c.in-Some.ensures in
    grows-err _ c.in_err-turned.ensures.grows c.from_residual-in_err-turned.ensures.1
    (part-of_image (g.L.Law.answers law) (g.L.Law.bound law) (g.S.Squares.content c.args.squares.now c.args.id) _
    (known_squares_are_full c.next_law_plane.new.to c.in-Some.next found.known.0).0 found.level found.next)

pub returns-clause-next : goal.returns-clause-next
returns-clause-next g c x y =
    let law = c.args.law.now in
    let t = g.S.Squares.content c.args.squares.now c.args.id in
    subst (λ u. IsNextAt (g.L.Law.answers law) (g.L.Law.bound law) (tree_cell t) x y (tree_cell u x y))
    (sym (c.in_ok-turned.ensures.square ∙ upright-image _)) (c.in-Some.ensures.next x y)

pub returns-clause-grows : goal.returns-clause-grows
returns-clause-grows g c =
    let law = c.args.law.now in
    let found = c.in-Some.ensures in
    grows-ok _ c.in_ok-turned.ensures.grows
    (part-of_image (g.L.Law.answers law) (g.L.Law.bound law) (g.S.Squares.content c.args.squares.now c.args.id) _
    (known_squares_are_full c.next_law_plane.new.to c.in-Some.next found.known.0).0 found.level found.next)
