use Rattle.std.proofs.Common.{◌≡◌, ℕ, suc, ◌+◌, ◌-◌, ◌*◌, ◌^◌, ◌<◌, ◌≤◌, take, map, arith, rules, sym, ◌∙◌, ap, subst, length-take-le}
use Rattle.std.proofs.Math.Pow.{pow_mono}
use Rattle.life_base.specs.declared.cell.TheConstants.{MAX_LEVEL}
use Rattle.life_base.specs.Tree.{Tree, depth, blank}
use Rattle.life_quad.specs.Moves.{CanJoin, quad_of}
use Rattle.life_quad.specs.Refused.{SomeOf}
use Rattle.life_quad.proofs.KeepingLemmas.{keeps-then, adds-then}
use Rattle.life_quad.proofs.GrowsLemmas.{grows-behind, grows-err, grows-still, grows-same}
use Rattle.life_strip.specs.declared.spans.TheConstants.{NEVER}
use Rattle.life_strip.specs.Strip.{ArePieces, FilledTo, quad_at}
use Rattle.life_strip.specs.Needed.{SomeColumn}
use Rattle.life_strip.proofs.SpanLemmas.{depth-square_at, filled-all, quad-blank, quad-keeps, strip-keeps}
use Rattle.life_strip.proofs.PlaceLemmas.{at-over}
use Rattle.life_strip.proofs.PairLemmas.{at-first, filled-kept, filled-pieces, pieces-can, pieces-rise, pieces-some}
use Rattle.life_strip.proofs.spans.pair_in_batches.Given.{Over}
use Rattle.life_strip.proofs.spans.pair_in_batches.Goals as goal
use Rattle.life_strip.proofs.spans.pair_in_batches.Goals.{After-gather-walk}

pub place_at-north-requires : goal.place_at-north-requires
place_at-north-requires g c = at-first c.args.level c.args.upper.now c.requires.upper_within

pub place_at-south-requires : goal.place_at-south-requires
place_at-south-requires g c = at-first c.args.level c.args.lower.now c.requires.lower_within

pub gather-walk-requires : goal.gather-walk-requires
gather-walk-requires g c =
    let r = c.requires in
    let inv = c.loop-walk.invariant in
    let K = g.S.Squares.knows in
    let C = g.S.Squares.content in
    let kept = strip-keeps {knows = K c.args.squares.now} {knows' = K c.loop-walk.squares} {old = C c.args.squares.now} {now = C c.loop-walk.squares}
    inv.keeps.contents c.args.level in
    record {
      low = r.low;
      upper = kept c.args.upper.now r.upper;
      lower = kept c.args.lower.now r.lower;
      upper_within = r.upper_within;
      lower_within = r.lower_within;
      upper_rises = r.upper_rises;
      lower_rises = r.lower_rises;
      walk = inv.walk;
      lengths = inv.quarters ∙ sym inv.pieces;
    }

-- the squares that were gathered, as they were before
gathered : (g : Over) (c : After-gather-walk g) → let K = g.S.Squares.knows c.loop-walk.squares in let C = g.S.Squares.content in
    ArePieces (CanJoin K (C c.loop-walk.squares)) (quad_of (C c.loop-walk.squares))
    (quad_at (C c.args.squares.now) c.args.level c.args.upper.now c.args.lower.now) (blank (suc c.args.level)) (2 ^ (MAX_LEVEL - suc c.args.level))
    c.loop-walk.walk.column (take c.gather-walk.result.count c.gather-walk.new.spans) (take c.gather-walk.result.count c.gather-walk.new.quarters)
    c.gather-walk.result.column
gathered g c =
    let K = g.S.Squares.knows in
    let C = g.S.Squares.content in
    let old = c.args.squares.now in
    let now = c.loop-walk.squares in
    let upper = c.args.upper.now in
    let lower = c.args.lower.now in
    let level = c.args.level in
    let same : quad_at (C now) level upper lower ≡ quad_at (C old) level upper lower = λ i x.
    quad-keeps {knows = K old} {knows' = K now} {old = C old} {now = C now} c.loop-walk.invariant.keeps.contents level upper lower c.requires.upper
    c.requires.lower x i in
    subst (λ want. ArePieces (CanJoin (K now) (C now)) (quad_of (C now)) want (blank (suc level)) (2 ^ (MAX_LEVEL - suc level)) c.loop-walk.walk.column
    (take c.gather-walk.result.count c.gather-walk.new.spans) (take c.gather-walk.result.count c.gather-walk.new.quarters) c.gather-walk.result.column)
    same c.gather-walk.ensures.pieces

-- each is one of those that the call needs
needed : (g : Over) (c : After-gather-walk g) (P : Tree → Type 0) → let C = g.S.Squares.content in
    SomeOf P (map (quad_of (C c.loop-walk.squares)) (take c.gather-walk.result.count c.gather-walk.new.quarters))
    → SomeColumn P (c.args.level + 1) (quad_at (C c.args.squares.now) c.args.level c.args.upper.now c.args.lower.now)
needed g c P some =
    let C = g.S.Squares.content in
    let now = c.loop-walk.squares in
    let level = c.args.level in
    let count = c.gather-walk.result.count in
    let one = pieces-some (CanJoin (g.S.Squares.knows now) (C now)) (quad_of (C now))
    (quad_at (C c.args.squares.now) level c.args.upper.now c.args.lower.now) (blank (suc level)) (2 ^ (MAX_LEVEL - suc level)) P c.loop-walk.walk.column
    (take count c.gather-walk.new.spans) (take count c.gather-walk.new.quarters) c.gather-walk.result.column (gathered g c) some in
    let deeper : level + 1 ≡ suc level = omega arith in
    (one.0, subst (λ n. one.0 < 2 ^ (MAX_LEVEL - n)) (sym deeper) one.1, one.2)

pub join_all-requires-clause-each : goal.join_all-requires-clause-each
join_all-requires-clause-each g c =
    let C = g.S.Squares.content in
    let now = c.loop-walk.squares in
    let level = c.args.level in
    let count = c.gather-walk.result.count in
    let k = (goal.at.join_all-requires-clause-each g c).After-gather-walk in
    pieces-can (CanJoin (g.S.Squares.knows now) (C now)) (quad_of (C now))
    (quad_at (C c.args.squares.now) level c.args.upper.now c.args.lower.now) (blank (suc level)) (2 ^ (MAX_LEVEL - suc level)) c.loop-walk.walk.column
    (take count c.gather-walk.new.spans) (take count c.gather-walk.new.quarters) c.gather-walk.result.column (gathered g k)

pub loop-walk-smaller : goal.loop-walk-smaller
loop-walk-smaller g c =
    let C = g.S.Squares.content in
    let now = c.loop-walk.squares in
    let level = c.args.level in
    let count = c.gather-walk.result.count in
    let spans = c.gather-walk.new.spans in
    let walk = c.gather-walk.ensures in
    let inside = walk.walk.within in
    let k = (goal.at.loop-walk-smaller g c).After-gather-walk in
    let rise = pieces-rise (CanJoin (g.S.Squares.knows now) (C now)) (quad_of (C now))
    (quad_at (C c.args.squares.now) level c.args.upper.now c.args.lower.now) (blank (suc level)) (2 ^ (MAX_LEVEL - suc level)) c.loop-walk.walk.column
    (take count spans) (take count c.gather-walk.new.quarters) c.gather-walk.result.column (gathered g k) in
    let len = length-take-le count spans (omega (arith, walk.count, c.gather-walk.auto.spans)) in
    omega (arith, rise, len, inside, c.loop-walk-test.true)

pub loop-walk-preserved : goal.loop-walk-preserved
loop-walk-preserved g c =
    let r = c.requires in
    let inv = c.loop-walk.invariant in
    let K = g.S.Squares.knows in
    let C = g.S.Squares.content in
    let old = c.args.squares.now in
    let now = c.loop-walk.squares in
    let new = c.join_all.new.self in
    let upper = c.args.upper.now in
    let lower = c.args.lower.now in
    let level = c.args.level in
    let count = c.gather-walk.result.count in
    let spans = c.loop-walk.spans.items in
    let walk = c.gather-walk.ensures in
    let join = c.in_ok-join_all.ensures in
    let k = (goal.at.loop-walk-preserved g c).After-gather-walk in
    let want = quad_at (C old) level upper lower in
    let deep : (x : ℕ) → depth (want x) ≡ suc level = λ x. ap suc (depth-square_at (K old) (C old) level upper r.upper (2 * x)) in
    let kept = filled-kept {knows = K now} {knows' = K new} {now = C now} {now' = C new} join.keeps.contents (suc level) want spans c.loop-walk.walk.column
    inv.filled in
    let filled = filled-pieces (K new) (C new) (CanJoin (K now) (C now)) (quad_of (C now)) (suc level) want (2 ^ (MAX_LEVEL - suc level)) deep
    (take count c.gather-walk.new.spans) (take count c.gather-walk.new.quarters) c.join_all.new.squares c.loop-walk.walk.column
    c.gather-walk.result.column spans kept (gathered g k) join.known join.square in
    record {
      filled = subst (λ z. FilledTo (K new) (C new) (suc level) want z c.gather-walk.result.column) (sym c.in_ok-put.ensures.put) filled;
      walk = walk.walk;
      pieces = c.gather-walk.auto.spans ∙ inv.pieces;
      quarters = c.gather-walk.auto.quarters ∙ inv.quarters;
      count = omega (arith, walk.count, inv.pieces);
      over = λ lt. walk.over (omega (arith, lt, inv.pieces));
      keeps = keeps-then inv.keeps join.keeps;
      adds = adds-then _ inv.adds join.adds (λ P n. n) (needed g k);
    }

pub returns-clause-paired : goal.returns-clause-paired
returns-clause-paired g c =
    let r = c.requires in
    let inv = c.loop-walk.invariant in
    let walk = inv.walk in
    let over = inv.over (omega (arith, inv.count, c.loop-walk-test.false)) in
    let column = c.loop-walk.walk.column in
    let upper = c.args.upper.now in
    let lower = c.args.lower.now in
    let side = 2 ^ (MAX_LEVEL - c.args.level) in
    let small : side ≤ NEVER = (let most = pow_mono {i = MAX_LEVEL - c.args.level} {j = MAX_LEVEL} (omega arith) in omega (arith, most)) in
    let north = at-over upper (2 * column) c.loop-walk.walk.north walk.upper_place side r.upper_within small over.0 in
    let south = at-over lower (2 * column) c.loop-walk.walk.south walk.lower_place side r.lower_within small over.1 in
    filled-all (g.S.Squares.knows c.loop-walk.squares) (g.S.Squares.content c.loop-walk.squares) (suc c.args.level)
    (quad_at (g.S.Squares.content c.args.squares.now) c.args.level upper lower) c.loop-walk.spans.items column inv.filled
    (λ x le. quad-blank (g.S.Squares.content c.args.squares.now) c.args.level upper lower (2 * column) x
    (λ y from to. north y from) (λ y from to. south y from) (omega (arith, le)))

pub returns-in_err-spans-clause-grows : goal.returns-in_err-spans-clause-grows
returns-in_err-spans-clause-grows g c = grows-same _ c.args.squares.now (search rules)

pub returns-in_err-join_all-clause-grows : goal.returns-in_err-join_all-clause-grows
returns-in_err-join_all-clause-grows g c =
    let M = λ (P : Tree → Type 0). SomeColumn P (c.args.level + 1)
    (quad_at (g.S.Squares.content c.args.squares.now) c.args.level c.args.upper.now c.args.lower.now) in
    let inv = c.loop-walk.invariant in
    let join = c.in_err-join_all.ensures in
    grows-err {A = Unit {0}} M (grows-behind M inv.keeps inv.adds
    (record { keeps = join.keeps; refusals = join.refusals; needed = λ e. join.needed; adds = join.adds })
    (needed g (goal.at.returns-in_err-join_all-clause-grows g c).After-gather-walk))
    c.from_residual-in_err-join_all.ensures.1 (λ P n. n)

pub returns-in_err-put-clause-grows : goal.returns-in_err-put-clause-grows
returns-in_err-put-clause-grows g c =
    let inv = c.loop-walk.invariant in
    let join = c.in_ok-join_all.ensures in
    grows-still _ (keeps-then inv.keeps join.keeps)
    (adds-then _ inv.adds join.adds (λ P n. n) (needed g (goal.at.returns-in_err-put-clause-grows g c).After-gather-walk)) (search rules)

pub returns-clause-grows : goal.returns-clause-grows
returns-clause-grows g c = let inv = c.loop-walk.invariant in grows-still _ inv.keeps inv.adds tt
