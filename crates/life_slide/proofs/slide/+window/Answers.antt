use Rattle.std.proofs.Common.{◌≡◌, ◌≤◌, ◌+◌, ◌-◌, ◌∙◌, arith}
use Rattle.life_slide.proofs.NeedLemmas.{nine-of}
use Rattle.life_slide.proofs.SlideLemmas.{begins, block-western}
use Rattle.life_slide.proofs.slide.+window.Goals as goal

pub returns-clause-begins : goal.returns-clause-begins
returns-clause-begins g t c cells x y h =
    let content = g.S.Squares.content c.args.squares.now in
    let k = c.args.level in
    let low : 1 ≤ k = omega (arith, c.if-level-low.false, c.requires.low) in
    let level : k - 1 + 1 ≡ k = omega (arith, low) in
    let n = nine-of content c.args.offset.columns c.args.offset.rows k c.digit.result c.digit-2.result low c.quarters-nine.ensures.pieces cells x y h in
    let b = c.window.ensures.begins cells _ _ (block-western content cells c.western.ensures n.before n.here) in
    record {
      west = b.west;
      north = b.north;
      are = b.are;
      column = b.column ∙ begins c.digit.result c.args.offset.columns (k - 1) k x c.digit.ensures level;
      row = b.row ∙ begins c.digit-2.result c.args.offset.rows (k - 1) k y c.digit-2.ensures level;
    }
