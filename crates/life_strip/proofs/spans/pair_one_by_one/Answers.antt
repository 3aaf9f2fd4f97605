use Rattle.std.proofs.Common.{◌≡◌, ℕ, suc, ◌+◌, ◌-◌, ◌*◌, ◌/◌, ◌^◌, ◌<◌, ◌≤◌, arith, rules, sym, ◌∙◌, ap, subst}
use Rattle.std.proofs.Math.Pow.{pow_mono}
use Rattle.life_base.specs.declared.cell.TheConstants.{MAX_LEVEL}
use Rattle.life_base.specs.Tree.{Tree, depth}
use Rattle.life_quad.proofs.KeepingLemmas.{keeps-then, adds-then}
use Rattle.life_quad.proofs.GrowsLemmas.{grows-behind, grows-err, grows-still, grows-same, only-grows}
use Rattle.life_strip.specs.declared.spans.TheConstants.{NEVER}
use Rattle.life_strip.specs.Strip.{FilledTo, quad_at}
use Rattle.life_strip.specs.Needed.{SomeColumn}
use Rattle.life_strip.proofs.SpanLemmas.{before_columns, depth-square_at, filled-skip, filled-more, filled-all, extended-push, from-first, quad-blank, quad-keeps, strip-keeps}
use Rattle.life_strip.proofs.PlaceLemmas.{IsFilePrefix, prefix, at-later, at-over, quad-goes}
use Rattle.life_strip.proofs.PairLemmas.{at-first, IsNextSquare, goes_on, split, one-column}
use Rattle.life_strip.proofs.spans.pair_one_by_one.Given.{Over}
use Rattle.life_strip.proofs.spans.pair_one_by_one.Goals as goal
use Rattle.life_strip.proofs.spans.pair_one_by_one.Goals.{After-min-end, After-max-column}

pub place_at-north-requires : goal.place_at-north-requires
place_at-north-requires g c = at-first c.args.level c.args.upper.now c.requires.upper_within

pub place_at-south-requires : goal.place_at-south-requires
place_at-south-requires g c = at-first c.args.level c.args.lower.now c.requires.lower_within

-- the first column where a strip has a span again
begun : (g : Over) (c : After-min-end g)
    → IsFilePrefix c.loop-first.north c.loop-first.south c.loop-first.column c.loop-first.first (2 ^ (MAX_LEVEL - suc c.args.level))
begun g c =
    let r = c.requires in
    let inv = c.loop-first.invariant in
    prefix c.args.level c.args.upper.now c.args.lower.now r.low r.upper_within r.lower_within c.loop-first.column c.loop-first.north c.loop-first.south
    inv.north inv.south c.loop-first.first inv.upper inv.lower inv.one inv.other c.loop-first-test.true

-- the square there, as it was before
same-square : (g : Over) (c : After-min-end g) → let C = g.S.Squares.content in
    quad_at (C c.loop-first.squares) c.args.level c.args.upper.now c.args.lower.now (c.loop-first.first / 2)
    ≡ quad_at (C c.args.squares.now) c.args.level c.args.upper.now c.args.lower.now (c.loop-first.first / 2)
same-square g c =
    let K = g.S.Squares.knows in
    let C = g.S.Squares.content in
    let old = c.args.squares.now in
    let now = c.loop-first.squares in
    quad-keeps {knows = K old} {knows' = K now} {old = C old} {now = C now} c.loop-first.invariant.keeps.contents c.args.level c.args.upper.now
    c.args.lower.now c.requires.upper c.requires.lower (c.loop-first.first / 2)

-- it is one of those that the call needs
needed : (g : Over) (c : After-min-end g) (P : Tree → Type 0) → let C = g.S.Squares.content in
    P (quad_at (C c.loop-first.squares) c.args.level c.args.upper.now c.args.lower.now (c.loop-first.first / 2))
    → SomeColumn P (c.args.level + 1) (quad_at (C c.args.squares.now) c.args.level c.args.upper.now c.args.lower.now)
needed g c =
    one-column c.args.level (g.S.Squares.content c.args.squares.now) (g.S.Squares.content c.loop-first.squares) c.args.upper.now c.args.lower.now
    (c.loop-first.first / 2) (same-square g c) (begun g c).within

pub join_at-requires : goal.join_at-requires
join_at-requires g c =
    let r = c.requires in
    let inv = c.loop-first.invariant in
    let K = g.S.Squares.knows in
    let C = g.S.Squares.content in
    let keeps = inv.keeps.contents in
    let upper = c.args.upper.now in
    let lower = c.args.lower.now in
    let level = c.args.level in
    let f = begun g (goal.at.join_at-requires g c).After-min-end in
    let begin = f.begin in
    let within = f.within in
    let small = pow_mono {i = MAX_LEVEL - suc level} {j = MAX_LEVEL} (omega arith) in
    let empty = keeps c.empty-blank.result c.empty-blank.ensures.known in
    let kept = strip-keeps {knows = K c.args.squares.now} {knows' = K c.loop-first.squares} {old = C c.args.squares.now} {now = C c.loop-first.squares} keeps
    level in
    record {
      low = r.low;
      column = omega (arith, within, small);
      upper = kept upper r.upper;
      lower = kept lower r.lower;
      upper_columns = before_columns (2 ^ (MAX_LEVEL - level)) upper r.upper_within;
      lower_columns = before_columns (2 ^ (MAX_LEVEL - level)) lower r.lower_within;
      upper_rises = r.upper_rises;
      lower_rises = r.lower_rises;
      known = empty.0;
      blank = empty.1 ∙ c.empty-blank.ensures.square;
      north = at-later upper (2 * c.loop-first.column) c.loop-first.north inv.north (2 * (c.loop-first.first / 2)) (omega (arith, begin))
          (omega (arith, inv.upper)) f.north_end;
      south = at-later lower (2 * c.loop-first.column) c.loop-first.south inv.south (2 * (c.loop-first.first / 2)) (omega (arith, begin))
          (omega (arith, inv.lower)) f.south_end;
    }

next-square : (g : Over) (c : After-max-column g)
    → IsFilePrefix c.loop-first.north c.loop-first.south c.loop-first.column c.loop-first.first (2 ^ (MAX_LEVEL - suc c.args.level))
    → record {
      north : IsNextSquare c.loop-first.north c.loop-first.first c.min-end.result c.max-column.result (2 ^ (MAX_LEVEL - suc c.args.level));
      south : IsNextSquare c.loop-first.south c.loop-first.first c.min-end.result c.max-column.result (2 ^ (MAX_LEVEL - suc c.args.level));
    }
next-square g c f =
    let within = f.within in
    let north = subst (λ z. c.min-end.result ≤ z) c.end_of.ensures (omega (arith, c.min-end.ensures)) in
    let south = subst (λ z. c.min-end.result ≤ z) c.end_of-in-loop-first.ensures (omega (arith, c.min-end.ensures)) in
    let reach = f.reach c.min-end.result north south in
    let later = split c.loop-first.first c.min-end.result c.max-column.result c.max-column.ensures in
    let inside : c.max-column.result ≤ 2 ^ (MAX_LEVEL - suc c.args.level) = omega (arith, c.max-column.ensures, reach, within) in
    record {
      north = record { goes = north; later = later; from = omega (arith, c.max-column.ensures); inside = inside };
      south = record { goes = south; later = later; from = omega (arith, c.max-column.ensures); inside = inside };
    }

pub pass-north-requires : goal.pass-north-requires
pass-north-requires g c =
    let k = goal.at.pass-north-requires g c in
    goes_on c.args.level c.args.upper.now c.requires.upper_within c.requires.upper_rises c.loop-first.invariant.north c.in_ok-joined.ensures.north
    c.in_ok-joined.ensures.north_later (next-square g k.After-max-column (begun g k.After-min-end)).north

pub pass-south-requires : goal.pass-south-requires
pass-south-requires g c =
    let k = goal.at.pass-south-requires g c in
    goes_on c.args.level c.args.lower.now c.requires.lower_within c.requires.lower_rises c.loop-first.invariant.south c.in_ok-joined.ensures.south
    c.in_ok-joined.ensures.south_later (next-square g k.After-max-column (begun g k.After-min-end)).south

pub loop-first-smaller : goal.loop-first-smaller
loop-first-smaller g c =
    let f = begun g (goal.at.loop-first-smaller g c).After-min-end in
    let begin = f.begin in
    let within = f.within in
    omega (arith, begin, within, c.max-column.ensures)

pub loop-first-preserved : goal.loop-first-preserved
loop-first-preserved g c =
    let r = c.requires in
    let inv = c.loop-first.invariant in
    let K = g.S.Squares.knows in
    let C = g.S.Squares.content in
    let old = c.args.squares.now in
    let now = c.loop-first.squares in
    let new = c.join_at.new.squares in
    let upper = c.args.upper.now in
    let lower = c.args.lower.now in
    let level = c.args.level in
    let column = c.loop-first.column in
    let north = c.loop-first.north in
    let south = c.loop-first.south in
    let first = c.loop-first.first in
    let start = first / 2 in
    let next = c.max-column.result in
    let h = c.in_ok-joined.ensures in
    let k = goal.at.loop-first-preserved g c in
    let f = begun g k.After-min-end in
    let begin = f.begin in
    let later : start < next = omega (arith, c.max-column.ensures) in
    let want = quad_at (C old) level upper lower in
    let skipped = filled-skip (K now) (C now) (suc level) want c.loop-first.spans.items column start inv.filled begin
    (λ x le lt. quad-blank (C old) level upper lower (2 * column) x (λ y from to. inv.north.none y from (omega (arith, lt, to, inv.upper)))
    (λ y from to. inv.south.none y from (omega (arith, lt, to, inv.lower))) (omega (arith, le))) in
    let square : C new c.in_ok-joined.joined.square ≡ want start = h.square ∙ same-square g k.After-min-end in
    let deep : depth (C new c.in_ok-joined.joined.square) ≡ suc level = ap depth square
    ∙ ap suc (depth-square_at (K old) (C old) level upper r.upper (2 * start)) in
    let hn = at-later upper (2 * column) north inv.north (2 * start) (omega (arith, begin)) (omega (arith, inv.upper)) f.north_end in
    let hs = at-later lower (2 * column) south inv.south (2 * start) (omega (arith, begin)) (omega (arith, inv.lower)) f.south_end in
    let same : (x : ℕ) → start < x → x < next → want x ≡ want start =
    λ x lo hi.
    let up : 2 * x + 1 < c.end_of.result = omega (arith, lo, hi, c.max-column.ensures, c.min-end.ensures) in
    let down : 2 * x + 1 < c.end_of-in-loop-first.result = omega (arith, lo, hi, c.max-column.ensures, c.min-end.ensures) in
    quad-goes (C old) level upper lower start x north south hn hs lo (subst (λ z. 2 * x + 1 < z) c.end_of.ensures up)
    (subst (λ z. 2 * x + 1 < z) c.end_of-in-loop-first.ensures down) in
    let pushed = filled-more {knows = K now} {knows' = K new} {now = C now} {now' = C new} h.grows.keeps.contents (suc level) want c.loop-first.spans.items _
    start next c.in_ok-joined.joined.square skipped
    (extended-push start next c.in_ok-joined.joined.square later c.loop-first.spans.items skipped.before) h.known deep
    (from-first want (C new c.in_ok-joined.joined.square) start next (sym square) same) in
    let near = c.min-first-in-loop-first.ensures in record {
      filled = subst (λ z. FilledTo (K new) (C new) (suc level) want z next) (sym c.in_ok-push.ensures.items) pushed;
      north = c.pass-north.ensures.place;
      south = c.pass-south.ensures.place;
      keeps = keeps-then inv.keeps h.grows.keeps;
      adds = adds-then _ inv.adds h.grows.adds (λ P n. n) (needed g k.After-min-end);
      within = (next-square g k.After-max-column f).north.inside;
      upper = omega (arith, near);
      lower = omega (arith, near);
      one = λ le. omega (arith, near, le);
      other = λ lt. omega (arith, near, lt);
    }

pub returns-clause-paired : goal.returns-clause-paired
returns-clause-paired g c =
    let r = c.requires in
    let inv = c.loop-first.invariant in
    let over = c.loop-first-test.false in
    let column = c.loop-first.column in
    let upper = c.args.upper.now in
    let lower = c.args.lower.now in
    let side = 2 ^ (MAX_LEVEL - c.args.level) in
    let small : side ≤ NEVER = (let most = pow_mono {i = MAX_LEVEL - c.args.level} {j = MAX_LEVEL} (omega arith) in omega (arith, most)) in
    let north = at-over upper (2 * column) c.loop-first.north inv.north side r.upper_within small (omega (arith, over, inv.upper)) in
    let south = at-over lower (2 * column) c.loop-first.south inv.south side r.lower_within small (omega (arith, over, inv.lower)) in
    filled-all (g.S.Squares.knows c.loop-first.squares) (g.S.Squares.content c.loop-first.squares) (suc c.args.level)
    (quad_at (g.S.Squares.content c.args.squares.now) c.args.level upper lower) c.loop-first.spans.items column inv.filled
    (λ x le. quad-blank (g.S.Squares.content c.args.squares.now) c.args.level upper lower (2 * column) x
    (λ y from to. north y from) (λ y from to. south y from) (omega (arith, le)))

pub returns-in_err-spans-clause-grows : goal.returns-in_err-spans-clause-grows
returns-in_err-spans-clause-grows g c = grows-same _ c.args.squares.now (search rules)

pub returns-in_err-joined-clause-grows : goal.returns-in_err-joined-clause-grows
returns-in_err-joined-clause-grows g c =
    let M = λ (P : Tree → Type 0). SomeColumn P (c.args.level + 1)
    (quad_at (g.S.Squares.content c.args.squares.now) c.args.level c.args.upper.now c.args.lower.now) in
    let inv = c.loop-first.invariant in
    grows-err M (grows-behind M inv.keeps inv.adds (only-grows c.in_err-joined.ensures.grows)
    (needed g (goal.at.returns-in_err-joined-clause-grows g c).After-min-end))
    c.from_residual-in_err-joined.ensures.1 (λ P n. n)

pub returns-in_err-push-clause-grows : goal.returns-in_err-push-clause-grows
returns-in_err-push-clause-grows g c =
    let inv = c.loop-first.invariant in
    let join = c.in_ok-joined.ensures.grows in
    grows-still _ (keeps-then inv.keeps join.keeps)
    (adds-then _ inv.adds join.adds (λ P n. n) (needed g (goal.at.returns-in_err-push-clause-grows g c).After-min-end)) (search rules)

pub returns-clause-grows : goal.returns-clause-grows
returns-clause-grows g c = let inv = c.loop-first.invariant in grows-still _ inv.keeps inv.adds tt
