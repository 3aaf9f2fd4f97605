use Rattle.std.proofs.Common.{ℕ, ◌<◌, Bool, sym, ◌∙◌, ap, ap₂, subst, arith}
use Rattle.life_quad.specs.Store.{two}
use Rattle.life_quad.specs.Turning.{digit_in, turned_half, side_of, turned_tree}
use Rattle.life_quad.proofs.TurningLemmas.{digit-low}
use Rattle.life_quad.proofs.turning.turned_quarter.Goals as goal

pub returns-clause-square : goal.returns-clause-square
returns-clause-square c =
    let place = c.place_before-side.ensures in
    let digit = c.quarter_cells-shift.ensures ∙ ap₂ (λ (u v : Bool). digit_in u v c.args.cells) place.side place.end in
    let low = digit-low (side_of c.args.turn c.args.east c.args.south) (turned_half c.args.turn c.args.east c.args.south) c.args.cells (omega arith) in
    c.requires c.quarter_cells-shift.result (subst (λ (n : ℕ). n < 16) (sym digit) low) ∙ ap (λ (n : ℕ). turned_tree c.args.turn (two n)) digit
