use Rattle.std.proofs.Common.{ℕ, ◌*◌, ◌/◌, ◌%◌, arith, ap, subst}
use Rattle.std.proofs.lemmas.List.{get_or_default}
use Rattle.life_base.specs.Tree.{point}
use Rattle.life_strip.specs.declared.blocks.Block.{Block}
use Rattle.life_strip.specs.Blocks.{cell_in_blocks, cell_in_word}
use Rattle.life_strip.specs.Strip.{FilledTo}
use Rattle.life_strip.proofs.BlockLemmas.{cells_at_index, no_block, spans-cells, spans-more}
use Rattle.life_strip.proofs.blocks.spans_of.Goals as goal

-- of an index that is none of the row
abbrev none : Block
none = record { start = 0; end = 0; cells = 0 }

pub loop-index-preserved : goal.loop-index-preserved
loop-index-preserved g c =
    let K = g.S.Squares.knows c.args.squares.now in
    let C = g.S.Squares.content c.args.squares.now in
    let blocks = c.args.blocks.now in
    let index = c.loop-index.index in
    let within = c.loop-index-test.true in
    let inv = c.loop-index.invariant in
    let want = λ (x : ℕ). point (cell_in_blocks blocks x) in
    let begun = subst (λ b. FilledTo K C 0 want c.loop-index.spans.items (64 * b.start)) (get_or_default blocks index no_block none within) inv.filled in
    record {
      filled = spans-more blocks c.requires.blocks K C c.push_cells.new.spans.items index none within
          (c.in_ok-push_cells.ensures.filled want begun
          (λ x le lt. ap (λ z. point (cell_in_word z (x % 64)))
          (cells_at_index blocks c.requires.blocks index none within (x / 64) (omega (arith, le)) (omega (arith, lt)))));
      before = λ n old. c.in_ok-push_cells.ensures.before n (inv.before n old) (old index none within);
    }

pub returns-clause-cells : goal.returns-clause-cells
returns-clause-cells g c =
    spans-cells c.args.blocks.now c.requires.blocks (g.S.Squares.knows c.args.squares.now) (g.S.Squares.content c.args.squares.now) c.loop-index.spans.items
    c.loop-index.index c.loop-index-test.false c.loop-index.invariant.filled
