use Rattle.std.proofs.Common.{◌∙◌, ap, arith}
use Rattle.std.proofs.lemmas.Option.{IfSome_then}
use Rattle.life_base.specs.Tree.{tree_cell}
use Rattle.life_block.proofs.LawPieceLemmas.{of-some}
use Rattle.life_block.proofs.law_squares.+on_plane.Goals as goal

pub returns-clause-cells : goal.returns-clause-cells
returns-clause-cells g t c =
    let now = c.args.to.now in
    let high = c.requires.positive in
    let level = c.requires.level in
    let is = of-some _ c.grow.result c.in_ok-larger.ensures.value c.grow.ensures.square in
    let full = g.met.T.Squares.full now c.args.id c.requires.known in
    IfSome_then c.on_plane.result c.on_plane.ensures.cells
    (λ r same x y. same x y ∙ ap (λ u. tree_cell u x y) is ∙ c.growing_keeps_cells.ensures _ full (omega (arith, high, level)) x y)
