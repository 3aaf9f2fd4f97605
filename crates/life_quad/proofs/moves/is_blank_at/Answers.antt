use Rattle.std.proofs.Common.{◌≡◌, arith, ◌∙◌, ap}
use Rattle.life_quad.proofs.MoveLemmas.{blank_test}
use Rattle.life_quad.specs.StoreLaws.{same_ids}
use Rattle.life_quad.proofs.moves.is_blank_at.Goals as goal

pub returns : goal.returns
returns g c =
    let test = c.eq.ensures in
    let empty = c.empty.ensures in
    blank_test _ _ c.eq.result (g.met.S.Squares.full _ _ c.requires.known) c.requires.level
    (λ e. let same : c.args.id.0 ≡ c.empty.result.0 = grind arith in ap (g.S.Squares.content c.args.squares.now) (same_ids same) ∙ empty.square)
    (λ e f. let same = ap (λ i. i.0) (empty.alone c.args.id c.requires.known f) in grind arith)
