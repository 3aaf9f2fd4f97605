use Rattle.std.proofs.Common.{◌≡◌, ◌++◌, ◌∙◌, refl, sym, arith}
use Rattle.life_base.specs.Tree.{depth}
use Rattle.life_writer.specs.Rows.{rows_side_by_side}
use Rattle.life_writer.proofs.RowFacts.{leaf_rows}
use Rattle.life_writer.proofs.leaf_rows.eight_rows.Goals as goal

pub returns-in-Some : goal.returns-in-Some
returns-in-Some g c =
    let seen = g.O.Orientation.seen c.args.orientation.now in
    let deep : depth (seen (g.S.Squares.content c.args.squares.now c.quarters-parts.result.nw)) ≡ 2 =
    omega (arith, c.quarters-parts.ensures.quarters.nw_level, c.requires.level) in
    let e = c.in-Some.ensures in
    c.rows_of_word.ensures ∙ sym (λ t. rows_side_by_side (e.0 t) (e.1 t) ++ rows_side_by_side (e.2 t) (e.3 t))
    ∙ leaf_rows _ _ _ _ _ _ _ _ _ c.quarters-parts.ensures.square deep refl refl refl refl

pub returns : goal.returns
returns g c =
    let seen = g.O.Orientation.seen c.args.orientation.now in
    let deep : depth (seen (g.S.Squares.content c.args.squares.now c.quarters-parts.result.nw)) ≡ 2 =
    omega (arith, c.quarters-parts.ensures.quarters.nw_level, c.requires.level) in
    c.rows_of_quarters.ensures ∙ leaf_rows _ _ _ _ _ _ _ _ _ c.quarters-parts.ensures.square deep refl refl refl refl
