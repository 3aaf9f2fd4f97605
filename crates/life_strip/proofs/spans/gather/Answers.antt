use Rattle.std.proofs.Common.{◌≡◌, ℕ, suc, ◌+◌, ◌-◌, ◌*◌, ◌/◌, ◌^◌, ◌<◌, ◌≤◌, ◌++◌, ◌∷◌, [], arith, refl, sym, subst, take, set, length-set}
use Rattle.std.proofs.Math.Pow.{pow_mono}
use Rattle.std.proofs.lemmas.List.{take_more_set}
use Rattle.life_base.specs.declared.cell.TheConstants.{MAX_LEVEL}
use Rattle.life_base.specs.Tree.{blank}
use Rattle.life_quad.specs.Moves.{CanJoin, quad_of}
use Rattle.life_strip.specs.declared.spans.Span.{Span}
use Rattle.life_strip.specs.Strip.{ArePieces, IsStripPiece, quad_at}
use Rattle.life_strip.proofs.SpanLemmas.{before_columns, from-first, quad-blank}
use Rattle.life_strip.proofs.PlaceLemmas.{IsFilePrefix, prefix, at-later, quad-goes}
use Rattle.life_strip.proofs.PairLemmas.{IsNextSquare, goes_on, split, pieces-push}
use Rattle.life_strip.proofs.spans.gather.Given.{Over}
use Rattle.life_strip.proofs.spans.gather.Goals as goal
use Rattle.life_strip.proofs.spans.gather.Goals.{After-min-end, After-max-column}

-- the first column where a strip has a span again
begun : (g : Over) (c : After-min-end g)
    → IsFilePrefix c.loop-first.north c.loop-first.south c.loop-first.column c.loop-first.first (2 ^ (MAX_LEVEL - suc c.args.level))
begun g c =
    let r = c.requires in
    let inv = c.loop-first.invariant in
    prefix c.args.level c.args.upper.now c.args.lower.now r.low r.upper_within r.lower_within c.loop-first.column c.loop-first.north c.loop-first.south
    inv.north inv.south c.loop-first.first inv.upper inv.lower inv.one inv.other c.loop-first-test.true

pub quarters_at-four-requires : goal.quarters_at-four-requires
quarters_at-four-requires g c =
    let r = c.requires in
    let inv = c.loop-first.invariant in
    let upper = c.args.upper.now in
    let lower = c.args.lower.now in
    let level = c.args.level in
    let f = begun g (goal.at.quarters_at-four-requires g c).After-min-end in
    let begin = f.begin in
    let within = f.within in
    let small = pow_mono {i = MAX_LEVEL - suc level} {j = MAX_LEVEL} (omega arith) in
    record {
      low = r.low;
      column = omega (arith, within, small);
      upper = r.upper;
      lower = r.lower;
      upper_columns = before_columns (2 ^ (MAX_LEVEL - level)) upper r.upper_within;
      lower_columns = before_columns (2 ^ (MAX_LEVEL - level)) lower r.lower_within;
      upper_rises = r.upper_rises;
      lower_rises = r.lower_rises;
      known = c.empty-blank.ensures.known;
      blank = c.empty-blank.ensures.square;
      north = at-later upper (2 * c.loop-first.column) c.loop-first.north inv.north (2 * (c.loop-first.first / 2)) (omega (arith, begin))
          (omega (arith, inv.upper)) f.north_end;
      south = at-later lower (2 * c.loop-first.column) c.loop-first.south inv.south (2 * (c.loop-first.first / 2)) (omega (arith, begin))
          (omega (arith, inv.lower)) f.south_end;
    }

next-square : (g : Over) (c : After-max-column g)
    → IsFilePrefix c.loop-first.north c.loop-first.south c.loop-first.column c.loop-first.first (2 ^ (MAX_LEVEL - suc c.args.level))
    → record {
      north : IsNextSquare c.loop-first.north c.loop-first.first c.min-end.result c.max-column.result (2 ^ (MAX_LEVEL - suc c.args.level));
      south : IsNextSquare c.loop-first.south c.loop-first.first c.min-end.result c.max-column.result (2 ^ (MAX_LEVEL - suc c.args.level));
    }
next-square g c f =
    let within = f.within in
    let north = subst (λ z. c.min-end.result ≤ z) c.end_of.ensures (omega (arith, c.min-end.ensures)) in
    let south = subst (λ z. c.min-end.result ≤ z) c.end_of-in-loop-first.ensures (omega (arith, c.min-end.ensures)) in
    let reach = f.reach c.min-end.result north south in
    let later = split c.loop-first.first c.min-end.result c.max-column.result c.max-column.ensures in
    let inside : c.max-column.result ≤ 2 ^ (MAX_LEVEL - suc c.args.level) = omega (arith, c.max-column.ensures, reach, within) in
    record {
      north = record { goes = north; later = later; from = omega (arith, c.max-column.ensures); inside = inside };
      south = record { goes = south; later = later; from = omega (arith, c.max-column.ensures); inside = inside };
    }

pub pass-north-requires : goal.pass-north-requires
pass-north-requires g c =
    let k = goal.at.pass-north-requires g c in
    goes_on c.args.level c.args.upper.now c.requires.upper_within c.requires.upper_rises c.loop-first.invariant.north c.quarters_at-four.ensures.north
    c.quarters_at-four.ensures.north_later (next-square g k.After-max-column (begun g k.After-min-end)).north

pub pass-south-requires : goal.pass-south-requires
pass-south-requires g c =
    let k = goal.at.pass-south-requires g c in
    goes_on c.args.level c.args.lower.now c.requires.lower_within c.requires.lower_rises c.loop-first.invariant.south c.quarters_at-four.ensures.south
    c.quarters_at-four.ensures.south_later (next-square g k.After-max-column (begun g k.After-min-end)).south

pub loop-first-smaller : goal.loop-first-smaller
loop-first-smaller g c =
    let f = begun g (goal.at.loop-first-smaller g c).After-min-end in
    let begin = f.begin in
    let within = f.within in
    omega (arith, begin, within, c.max-column.ensures)

pub loop-first-preserved : goal.loop-first-preserved
loop-first-preserved g c =
    let inv = c.loop-first.invariant in
    let K = g.S.Squares.knows c.args.squares.now in
    let C = g.S.Squares.content c.args.squares.now in
    let upper = c.args.upper.now in
    let lower = c.args.lower.now in
    let level = c.args.level in
    let column = c.loop-first.column in
    let north = c.loop-first.north in
    let south = c.loop-first.south in
    let start = c.loop-first.first / 2 in
    let next = c.max-column.result in
    let count = c.loop-first.count in
    let side = 2 ^ (MAX_LEVEL - suc level) in
    let k = goal.at.loop-first-preserved g c in
    let f = begun g k.After-min-end in
    let begin = f.begin in
    let later : start < next = omega (arith, c.max-column.ensures) in
    let want = quad_at C level upper lower in
    let four = c.quarters_at-four.result.quarters in
    let square = c.quarters_at-four.ensures.square in
    let hn = at-later upper (2 * column) north inv.north (2 * start) (omega (arith, begin)) (omega (arith, inv.upper)) f.north_end in
    let hs = at-later lower (2 * column) south inv.south (2 * start) (omega (arith, begin)) (omega (arith, inv.lower)) f.south_end in
    let same : (x : ℕ) → start < x → x < next → want x ≡ want start =
    λ x lo hi.
    let up : 2 * x + 1 < c.end_of.result = omega (arith, lo, hi, c.max-column.ensures, c.min-end.ensures) in
    let down : 2 * x + 1 < c.end_of-in-loop-first.result = omega (arith, lo, hi, c.max-column.ensures, c.min-end.ensures) in
    quad-goes C level upper lower start x north south hn hs lo (subst (λ z. 2 * x + 1 < z) c.end_of.ensures up)
    (subst (λ z. 2 * x + 1 < z) c.end_of-in-loop-first.ensures down) in
    let piece : Span = record { start = start; end = next; square = c.empty-blank.result } in
    let is : IsStripPiece (CanJoin K C) (quad_of C) want (blank (suc level)) side column piece four = record {
      can = c.quarters_at-four.ensures.can_join;
      from = begin;
      some = later;
      within = (next-square g k.After-max-column f).north.inside;
      gap = λ x le lt. quad-blank C level upper lower (2 * column) x (λ y from to. inv.north.none y from (omega (arith, lt, to, inv.upper)))
          (λ y from to. inv.south.none y from (omega (arith, lt, to, inv.lower))) (omega (arith, le));
      goes = from-first want (quad_of C four) start next (sym square) same;
    } in
    let pushed = pieces-push (CanJoin K C) (quad_of C) want (blank (suc level)) side c.args.walk.column
    (take count c.loop-first.spans) (take count c.loop-first.quarters) column piece four inv.pieces is in
    let spans = take_more_set c.loop-first.spans count piece c.if-count-spans.true in
    let quarters = take_more_set c.loop-first.quarters count four
    (omega (arith, c.if-count-spans.true, c.loop-first.auto.quarters, c.loop-first.auto.spans, c.requires.lengths)) in
    let near = c.min-first-in-loop-first.ensures in record {
      pieces = subst (λ z. ArePieces (CanJoin K C) (quad_of C) want (blank (suc level)) side c.args.walk.column z
          (take (count + 1) (set c.loop-first.quarters count four)) next) (sym spans)
          (subst (λ z. ArePieces (CanJoin K C) (quad_of C) want (blank (suc level)) side c.args.walk.column
          (take count c.loop-first.spans ++ piece ∷ []) z next) (sym quarters) pushed);
      north = c.pass-north.ensures.place;
      south = c.pass-south.ensures.place;
      within = (next-square g k.After-max-column f).north.inside;
      count = omega (arith, c.if-count-spans.true, length-set c.loop-first.spans count piece);
      upper = omega (arith, near);
      lower = omega (arith, near);
      one = λ le. omega (arith, near, le);
      other = λ lt. omega (arith, near, lt);
    }

pub loop-first-init : goal.loop-first-init
loop-first-init g c =
    let walk = c.requires.walk in
    let near = c.min-first.ensures in
    record {
      pieces = refl;
      north = walk.upper_place;
      south = walk.lower_place;
      within = walk.within;
      count = omega arith;
      upper = omega (arith, near);
      lower = omega (arith, near);
      one = λ le. omega (arith, near, le);
      other = λ lt. omega (arith, near, lt);
    }

-- the slices are full

pub returns-else-count-spans-clause-walk : goal.returns-else-count-spans-clause-walk
returns-else-count-spans-clause-walk g c =
    let inv = c.loop-first.invariant in record { upper_place = inv.north; lower_place = inv.south; within = inv.within }

pub returns-else-count-spans-clause-count : goal.returns-else-count-spans-clause-count
returns-else-count-spans-clause-count g c = omega (arith, c.loop-first.invariant.count, c.loop-first.auto.spans)

pub returns-else-count-spans-clause-pieces : goal.returns-else-count-spans-clause-pieces
returns-else-count-spans-clause-pieces g c = c.loop-first.invariant.pieces

-- no square is left

pub returns-after-loop-first-clause-walk : goal.returns-after-loop-first-clause-walk
returns-after-loop-first-clause-walk g c =
    let inv = c.loop-first.invariant in record { upper_place = inv.north; lower_place = inv.south; within = inv.within }

pub returns-after-loop-first-clause-count : goal.returns-after-loop-first-clause-count
returns-after-loop-first-clause-count g c = omega (arith, c.loop-first.invariant.count, c.loop-first.auto.spans)

pub returns-after-loop-first-clause-pieces : goal.returns-after-loop-first-clause-pieces
returns-after-loop-first-clause-pieces g c = c.loop-first.invariant.pieces

pub returns-after-loop-first-clause-over : goal.returns-after-loop-first-clause-over
returns-after-loop-first-clause-over g c = λ lt.
    let inv = c.loop-first.invariant in
    let over = c.loop-first-test.false in
    (omega (arith, over, inv.upper), omega (arith, over, inv.lower))
