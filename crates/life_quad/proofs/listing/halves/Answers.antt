use Rattle.std.proofs.Common.{◌-◌, ◌^◌, sym, ◌∙◌, ap, subst, take_all}
use Rattle.std.specs.List.{All}
use Rattle.std.proofs.lemmas.List.Elements.{All-nil}
use Rattle.life_quad.specs.Bands.{IsPlaced, pieces, northern, southern, upper, lower}
use Rattle.life_quad.proofs.CellListLemmas.{quarters_more}
use Rattle.life_quad.proofs.listing.halves.Goals as goal
use Rattle.life_base.proofs.Results.{error_is}

pub loop-placed-init : goal.loop-placed-init
loop-placed-init g c =
    let C = g.S.Squares.content c.args.squares.now in
    let P = IsPlaced (g.S.Squares.knows c.args.squares.now) C (c.args.level - 1) in
    let north = c.new-north.ensures.items in
    let south = c.new-south.ensures.items in
    record {
      north = subst (All P) (sym north) (All-nil P);
      south = subst (All P) (sym south) (All-nil P);
      upper = ap (pieces C) north;
      lower = ap (pieces C) south;
    }

pub split-requires : goal.split-requires
split-requires g c =
    let l = c.loop-placed.invariant in
    record { low = c.requires.low; placed = c.requires.each c.loop-placed.placed-index _ c.loop-placed-test.true; north = l.north; south = l.south }

pub loop-placed-preserved : goal.loop-placed-preserved
loop-placed-preserved g c =
    let C = g.S.Squares.content c.args.squares.now in
    let half = 2 ^ (c.args.level - 1) in
    let l = c.loop-placed.invariant in
    let split = c.in_ok-split.ensures in
    record {
      north = split.north;
      south = split.south;
      upper = quarters_more C c.args.band.now _ _ c.loop-placed-test.true (λ p. northern half p.square p.column) _ _ l.upper split.northern;
      lower = quarters_more C c.args.band.now _ _ c.loop-placed-test.true (λ p. southern half p.square p.column) _ _ l.lower split.southern;
    }

pub returns-in_err-split : goal.returns-in_err-split
returns-in_err-split g c =
    let p = error_is c.from_residual.result c.from_residual.ensures.1 in
    record { north = rw p tt; south = rw p tt; upper = rw p tt; lower = rw p tt; refusals = rw p c.in_err-split.ensures.refusals }

pub returns : goal.returns
returns g c =
    let C = g.S.Squares.content c.args.squares.now in
    let half = 2 ^ (c.args.level - 1) in
    let l = c.loop-placed.invariant in
    let all = take_all c.loop-placed.placed-index c.args.band.now c.loop-placed-test.false in
    record {
      north = l.north;
      south = l.south;
      upper = l.upper ∙ ap (λ b. upper half (pieces C b)) all;
      lower = l.lower ∙ ap (λ b. lower half (pieces C b)) all;
      refusals = tt;
    }
