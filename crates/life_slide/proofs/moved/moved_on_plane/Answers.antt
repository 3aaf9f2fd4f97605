use Rattle.std.proofs.Common.{subst, arith}
use Rattle.std.proofs.lemmas.Int.{ints}
use Rattle.std.proofs.lemmas.Result.{on_err_weaker}
use Rattle.life_quad.specs.Refused.{SomePart}
use Rattle.life_quad.proofs.KeepingLemmas.{adds-as}
use Rattle.life_slide.proofs.MovedLemmas.{plane-is, plane-square}
use Rattle.life_slide.proofs.moved.moved_on_plane.Goals as goal
use Rattle.life_base.proofs.Results.{if_ok_two}

pub returns-clause-square : goal.returns-clause-square
returns-clause-square g c =
    let t = g.S.Squares.content c.args.from.now c.args.id in
    if_ok_two c.square_at.result
    (λ r at piece. plane-is t _ c.args.columns c.args.rows _ _ (g.met.T.Squares.full _ _ at.known) at.level (omega (arith, ints)) (omega (arith, ints)) piece)
    c.square_at.ensures.at c.square_at.ensures.square

pub returns-clause-needed : goal.returns-clause-needed
returns-clause-needed g c =
    let t = g.S.Squares.content c.args.from.now c.args.id in
    on_err_weaker c.square_at.result
    (subst (SomePart (g.T.Squares.needs_node c.square_at.new.to))
    (plane-square t c.args.columns c.args.rows _ _ (omega (arith, ints)) (omega (arith, ints))))
    c.square_at.ensures.needed

pub returns-clause-adds : goal.returns-clause-adds
returns-clause-adds g c =
    let t = g.S.Squares.content c.args.from.now c.args.id in
    adds-as _ c.square_at.ensures.adds
    (λ P. subst (SomePart P) (plane-square t c.args.columns c.args.rows _ _ (omega (arith, ints)) (omega (arith, ints))))
