use Rattle.life_base.specs.declared.cell.TheConstants.{MAX_LEVEL}
use Rattle.std.proofs.Common.{◌≡◌, ℕ, ◌+◌, ◌*◌, ◌%◌, ◌-◌, ◌^◌, ◌<◌, ◌≤◌, [], arith, sym, ◌∙◌, ap, subst}
use Rattle.life_base.specs.Tree.{Tree}
use Rattle.life_quad.specs.declared.id.Id.{Id}
use Rattle.life_quad.specs.Refused.{SomePart}
use Rattle.life_quad.proofs.KeepingLemmas.{adds-none, adds-then, keeps-same, keeps-then}
use Rattle.life_quad.proofs.GrowsLemmas.{grows-behind, grows-err}
use Rattle.life_strip.specs.Strip.{FilledTo}
use Rattle.life_strip.specs.Blocks.{four_in}
use Rattle.life_strip.specs.Band.{square_of_words}
use Rattle.life_strip.specs.Needed.{SomeColumn}
use Rattle.life_strip.proofs.SpanLemmas.{filled-all, filled-skip}
use Rattle.life_strip.proofs.BandLemmas.{past-first, rows-alike, rows-beyond, rows-blank, rows-inside, rows-later, rows-none, rows-squares}
use Rattle.life_strip.proofs.bands.band_spans.Given.{Over}
use Rattle.life_strip.proofs.bands.band_spans.Goals as goal
use Rattle.life_strip.proofs.bands.band_spans.Goals.{After-rows_end-next}

-- before the first column nothing is wanted
filled-none : (knows : Id → Type 0) (content : Id → Tree) (want : ℕ → Tree) → FilledTo knows content 2 want [] 0
filled-none knows content want = record {
  before = λ k d lt. absurd (omega (arith, lt));
  rises = λ i j d lt within. absurd (omega (arith, within));
  strip = λ c q e. absurd (cc);
  done = λ c lt. absurd (omega (arith, lt));
}

pub loop-block-init : goal.loop-block-init
loop-block-init g c =
    let K = g.S.Squares.knows c.args.squares.now in
    let C = g.S.Squares.content c.args.squares.now in
    let want = four_in c.args.first.now c.args.second.now c.args.third.now c.args.fourth.now in
    record {
      filled = subst (λ z. FilledTo K C 2 want z 0) (sym c.in_ok-spans.ensures.empty) (filled-none K C want);
      rows = record {
        first = c.next_block-a.ensures 0 (omega arith) (past-first c.args.first.now);
        second = c.next_block-b.ensures 0 (omega arith) (past-first c.args.second.now);
        third = c.next_block-c.ensures 0 (omega arith) (past-first c.args.third.now);
        fourth = c.next_block-d.ensures 0 (omega arith) (past-first c.args.fourth.now);
        least = c.least-block.ensures;
      };
      keeps = keeps-same c.args.squares.now;
      within = omega arith;
      adds = adds-none _ c.args.squares.now;
    }

-- the blocks where the rows go on lie after the first, on the plane
ahead : (g : Over) (c : After-rows_end-next g)
    → (c.loop-block.next ≤ c.loop-block.block) × (c.loop-block.block < c.rows_end-next.result) × (c.rows_end-next.result ≤ 2 ^ (MAX_LEVEL - 6))
ahead g c =
    let rows = c.loop-block.invariant.rows in
    let small = c.loop-block-test.true in
    let goes = c.rows_end-next.ensures in
    (rows-later rows, rows-beyond rows small c.rows_end-next.result goes, rows-inside rows small c.rows_end-next.result goes)

pub push_block-requires-clause-beyond : goal.push_block-requires-clause-beyond
push_block-requires-clause-beyond g c = (ahead g (goal.at.push_block-requires-clause-beyond g c).After-rows_end-next).1

pub push_block-requires-clause-within : goal.push_block-requires-clause-within
push_block-requires-clause-within g c = (ahead g (goal.at.push_block-requires-clause-within g c).After-rows_end-next).2

pub push_block-requires-clause-alike : goal.push_block-requires-clause-alike
push_block-requires-clause-alike g c =
    let u = c.two_words-upper.ensures in
    let l = c.two_words-lower.ensures in
    rows-alike c.loop-block.invariant.rows c.loop-block-test.true c.rows_end-next.result c.rows_end-next.ensures c.two_words-upper.result
    c.two_words-lower.result u.north u.south l.north l.south

-- the squares of the words are those of the rows
wanted : (g : Over) (c : After-rows_end-next g) (x : ℕ) → 16 * c.loop-block.block ≤ x → x < 16 * c.rows_end-next.result
    → four_in c.args.first.now c.args.second.now c.args.third.now c.args.fourth.now x
    ≡ square_of_words c.two_words-upper.result c.two_words-lower.result (x % 16)
wanted g c =
    let u = c.two_words-upper.ensures in
    let l = c.two_words-lower.ensures in
    rows-squares c.loop-block.invariant.rows c.loop-block-test.true c.rows_end-next.result c.rows_end-next.ensures c.two_words-upper.result
    c.two_words-lower.result u.north u.south l.north l.south

-- so a square of the words is one of those that the call needs
needed : (g : Over) (c : After-rows_end-next g) (P : Tree → Type 0)
    → (i : ℕ) × (i < 16) × SomePart P (square_of_words c.two_words-upper.result c.two_words-lower.result i)
    → SomeColumn (SomePart P) 2 (four_in c.args.first.now c.args.second.now c.args.third.now c.args.fourth.now)
needed g c P n =
    let x = 16 * c.loop-block.block + n.0 in
    let inside = n.1 in
    let a = ahead g c in
    let place : x % 16 ≡ n.0 = omega (arith, inside) in
    let square = wanted g c x (omega arith) (omega (arith, inside, a.1)) ∙ ap (square_of_words c.two_words-upper.result c.two_words-lower.result) place in
    (x, omega (arith, inside, a), subst (SomePart P) (sym square) n.2)

pub returns-in_err-push_block-clause-grows : goal.returns-in_err-push_block-clause-grows
returns-in_err-push_block-clause-grows g c =
    let inv = c.loop-block.invariant in
    let M = λ (P : Tree → Type 0). SomeColumn (SomePart P) 2 (four_in c.args.first.now c.args.second.now c.args.third.now c.args.fourth.now) in
    grows-err M (grows-behind M inv.keeps inv.adds c.in_err-push_block.ensures.grows
    (needed g (goal.at.returns-in_err-push_block-clause-grows g c).After-rows_end-next))
    c.from_residual-in_err-push_block.ensures.1 (λ P n. n)

pub pass_blocks-a-requires-clause-place : goal.pass_blocks-a-requires-clause-place
pass_blocks-a-requires-clause-place g c =
    let a = ahead g (goal.at.pass_blocks-a-requires-clause-place g c).After-rows_end-next in
    (c.loop-block.next, omega (arith, a), c.loop-block.invariant.rows.first)

pub pass_blocks-b-requires-clause-place : goal.pass_blocks-b-requires-clause-place
pass_blocks-b-requires-clause-place g c =
    let a = ahead g (goal.at.pass_blocks-b-requires-clause-place g c).After-rows_end-next in
    (c.loop-block.next, omega (arith, a), c.loop-block.invariant.rows.second)

pub pass_blocks-c-requires-clause-place : goal.pass_blocks-c-requires-clause-place
pass_blocks-c-requires-clause-place g c =
    let a = ahead g (goal.at.pass_blocks-c-requires-clause-place g c).After-rows_end-next in
    (c.loop-block.next, omega (arith, a), c.loop-block.invariant.rows.third)

pub pass_blocks-d-requires-clause-place : goal.pass_blocks-d-requires-clause-place
pass_blocks-d-requires-clause-place g c =
    let a = ahead g (goal.at.pass_blocks-d-requires-clause-place g c).After-rows_end-next in
    (c.loop-block.next, omega (arith, a), c.loop-block.invariant.rows.fourth)

pub pass_blocks-a-requires-clause-number : goal.pass_blocks-a-requires-clause-number
pass_blocks-a-requires-clause-number g c =
    let a = ahead g (goal.at.pass_blocks-a-requires-clause-number g c).After-rows_end-next in
    omega (arith, a)

pub pass_blocks-b-requires-clause-number : goal.pass_blocks-b-requires-clause-number
pass_blocks-b-requires-clause-number g c =
    let a = ahead g (goal.at.pass_blocks-b-requires-clause-number g c).After-rows_end-next in
    omega (arith, a)

pub pass_blocks-c-requires-clause-number : goal.pass_blocks-c-requires-clause-number
pass_blocks-c-requires-clause-number g c =
    let a = ahead g (goal.at.pass_blocks-c-requires-clause-number g c).After-rows_end-next in
    omega (arith, a)

pub pass_blocks-d-requires-clause-number : goal.pass_blocks-d-requires-clause-number
pass_blocks-d-requires-clause-number g c =
    let a = ahead g (goal.at.pass_blocks-d-requires-clause-number g c).After-rows_end-next in
    omega (arith, a)

pub loop-block-smaller : goal.loop-block-smaller
loop-block-smaller g c =
    let a = ahead g (goal.at.loop-block-smaller g c).After-rows_end-next in
    omega (arith, a)

pub loop-block-preserved : goal.loop-block-preserved
loop-block-preserved g c =
    let want = four_in c.args.first.now c.args.second.now c.args.third.now c.args.fourth.now in
    let inv = c.loop-block.invariant in
    let rows = inv.rows in
    let next = c.loop-block.next in
    let block = c.loop-block.block in
    let h = c.in_ok-push_block.ensures in
    let k = (goal.at.loop-block-preserved g c).After-rows_end-next in
    let a = ahead g k in
    let skipped = filled-skip (g.S.Squares.knows c.loop-block.squares) (g.S.Squares.content c.loop-block.squares) 2 want c.loop-block.spans.items (16 * next)
    (16 * block) inv.filled (omega (arith, a)) (rows-blank rows) in
    record {
      filled = h.filled want skipped (wanted g k);
      rows = record {
        first = c.pass_blocks-a.ensures;
        second = c.pass_blocks-b.ensures;
        third = c.pass_blocks-c.ensures;
        fourth = c.pass_blocks-d.ensures;
        least = c.least-block-in-loop-block.ensures;
      };
      keeps = keeps-then inv.keeps h.grows.keeps;
      within = a.2;
      adds = adds-then _ inv.adds h.grows.adds (λ P n. n) (needed g k);
    }

pub returns-clause-squares : goal.returns-clause-squares
returns-clause-squares g c =
    let r = c.requires in
    let inv = c.loop-block.invariant in
    filled-all (g.S.Squares.knows c.loop-block.squares) (g.S.Squares.content c.loop-block.squares) 2
    (four_in c.args.first.now c.args.second.now c.args.third.now c.args.fourth.now) c.loop-block.spans.items (16 * c.loop-block.next) inv.filled
    (rows-none inv.rows r.first r.second r.third r.fourth c.loop-block-test.false)
