use Rattle.std.proofs.Common.{sym, ◌∙◌, ap}
use Rattle.life_quad.specs.Moves.{quad_of, trimmed_square}
use Rattle.life_quad.proofs.MoveLemmas.{full_quarters, trimmed-smaller, trimmed-stays}
use Rattle.life_quad.proofs.moves.+innermost.Goals as goal

pub returns-in-Some-clause-square : goal.returns-in-Some-clause-square
returns-in-Some-clause-square g t c =
    let S = c.args.squares.now in
    let full = full_quarters (g.S.Squares.knows S) (g.S.Squares.content S) c.args.quarters (λ id k. g.met.S.Squares.full S id k) c.requires.quarters in
    c.innermost.ensures.square ∙ ap (λ u. trimmed_square u c.args.least) (sym c.in-Some.ensures.square)
    ∙ trimmed-smaller (quad_of (g.S.Squares.content S) c.args.quarters) c.args.least full c.requires.positive (sym c.in-Some.ensures.trims)

pub returns-in-None-clause-square : goal.returns-in-None-clause-square
returns-in-None-clause-square g t c = sym (trimmed-stays _ _ (sym c.in-None.ensures.trims))
