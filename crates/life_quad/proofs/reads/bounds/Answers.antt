use Rattle.std.proofs.Common.{◌≡◌, Result, IfOk, suc, ◌+◌, ◌-◌, ◌^◌, arith, ◌∙◌, ap, subst, IfErr, IsErrAnd}
use Rattle.std.proofs.lemmas.Int.{ints}
use Rattle.life_base.specs.declared.kind.Kind.{Kind}
use Rattle.life_base.specs.declared.kind.Kind.TheVariants.{Memory}
use Rattle.life_base.specs.Tree.{depth, half_side}
use Rattle.life_quad.specs.Distances.{HasCellAt, IsLeastOf}
use Rattle.life_quad.specs.declared.distances.Side.TheVariants.{North, South, West, East}
use Rattle.life_quad.proofs.DistanceLemmas.{nowhere_blank, box_of_distances}
use Rattle.life_quad.proofs.PlaneLemmas.{least_box}
use Rattle.life_quad.proofs.reads.bounds.Goals as goal
use Rattle.life_base.proofs.Basics.{halves}
use Rattle.life_base.proofs.Results.{error_is}

-- a refusal that is passed on
refused : {T : Type 0} {e : Kind} (least : T → Type 0) (r : Result T Kind) → IsErrAnd r (λ f. f ≡ e) → e ≡ Memory → record {
  least : IfOk r least;
  refusals : IfErr r (λ e. e ≡ Memory);
}
refused least r reported memory = let p = error_is r reported in record { least = rw p tt; refusals = rw p memory }

pub returns-in_err-west : goal.returns-in_err-west
returns-in_err-west g c = refused _ c.from_residual.result c.from_residual.ensures.1 c.in_err-west.ensures.refusals

pub returns-in_err-north : goal.returns-in_err-north
returns-in_err-north g c = refused _ c.from_residual-in_err-north.result c.from_residual-in_err-north.ensures.1 c.in_err-north.ensures.refusals

pub returns-in_err-east : goal.returns-in_err-east
returns-in_err-east g c = refused _ c.from_residual-in_err-east.result c.from_residual-in_err-east.ensures.1 c.in_err-east.ensures.refusals

pub returns-in_err-south : goal.returns-in_err-south
returns-in_err-south g c = refused _ c.from_residual-in_err-south.result c.from_residual-in_err-south.ensures.1 c.in_err-south.ensures.refusals

pub returns-in_default-clause-least : goal.returns-in_default-clause-least
returns-in_default-clause-least g c =
    let t = g.S.Squares.content c.args.squares.now c.args.id in
    nowhere_blank West t (g.met.S.Squares.full _ _ c.requires.known) (subst (IsLeastOf (HasCellAt West t)) c.in_default.is c.in_ok-west.ensures.least)

pub returns-in_default-2-clause-least : goal.returns-in_default-2-clause-least
returns-in_default-2-clause-least g c =
    let t = g.S.Squares.content c.args.squares.now c.args.id in
    nowhere_blank North t (g.met.S.Squares.full _ _ c.requires.known) (subst (IsLeastOf (HasCellAt North t)) c.in_default-2.is c.in_ok-north.ensures.least)

pub returns-in_default-3-clause-least : goal.returns-in_default-3-clause-least
returns-in_default-3-clause-least g c =
    let t = g.S.Squares.content c.args.squares.now c.args.id in
    nowhere_blank East t (g.met.S.Squares.full _ _ c.requires.known) (subst (IsLeastOf (HasCellAt East t)) c.in_default-3.is c.in_ok-east.ensures.least)

pub returns-in_default-4-clause-least : goal.returns-in_default-4-clause-least
returns-in_default-4-clause-least g c =
    let t = g.S.Squares.content c.args.squares.now c.args.id in
    nowhere_blank South t (g.met.S.Squares.full _ _ c.requires.known) (subst (IsLeastOf (HasCellAt South t)) c.in_default-4.is c.in_ok-south.ensures.least)

pub returns-clause-least : goal.returns-clause-least
returns-clause-least g c =
    let t = g.S.Squares.content c.args.squares.now c.args.id in
    let half : c.half_side-half.result ≡ half_side t = c.half_side-half.ensures.half ∙ ap (λ l. 2 ^ (l - 1)) c.level.ensures.level in
    let twice : half_side t + half_side t ≡ 2 ^ depth t = halves (depth t) c.requires.high in
    let east : c.half_side-half.result + c.half_side-half.result - 1 - c.in-Some-3.east ≡ 2 ^ depth t - suc c.in-Some-3.east = omega (arith, half, twice) in
    let south : c.half_side-half.result + c.half_side-half.result - 1 - c.in-Some-4.south ≡ 2 ^ depth t - suc c.in-Some-4.south = omega (arith, half, twice) in
    let box =
    box_of_distances t c.in-Some.west c.in-Some-2.north c.in-Some-3.east c.in-Some-4.south
    (subst (IsLeastOf (HasCellAt West t)) c.in-Some.is c.in_ok-west.ensures.least)
    (subst (IsLeastOf (HasCellAt North t)) c.in-Some-2.is c.in_ok-north.ensures.least)
    (subst (IsLeastOf (HasCellAt East t)) c.in-Some-3.is c.in_ok-east.ensures.least)
    (subst (IsLeastOf (HasCellAt South t)) c.in-Some-4.is c.in_ok-south.ensures.least) in
    least_box t _ _ _ _ _ c.requires.high box
    (omega (arith, ints, half, c.coordinate.ensures)) (omega (arith, ints, half, c.coordinate-2.ensures))
    (omega (arith, ints, half, east, c.coordinate-3.ensures)) (omega (arith, ints, half, south, c.coordinate-4.ensures))
