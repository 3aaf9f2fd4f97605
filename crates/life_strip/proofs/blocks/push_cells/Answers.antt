use Rattle.std.proofs.Common.{◌≡◌, ◌+◌, ◌-◌, ◌*◌, ◌%◌, arith, refl, sym, ◌∙◌, ap, subst}
use Rattle.std.proofs.lemmas.Result.{on_ok_weaker}
use Rattle.std.proofs.lemmas.Nat.Bits.{bit_at-lt, bit_at_ones}
use Rattle.life_base.specs.Tree.{depth, point}
use Rattle.life_strip.specs.Blocks.{cell_in_word}
use Rattle.life_strip.specs.Strip.{AreBefore, FilledTo}
use Rattle.life_strip.proofs.BlockLemmas.{cell-before}
use Rattle.life_strip.proofs.SpanLemmas.{before_more, filled-more, filled-skip}
use Rattle.life_strip.proofs.blocks.push_cells.Goals as goal
use Rattle.life_strip.proofs.blocks.push_cells.Goals.{then-block-column-eq1+in_ok-extend, else-block-column-eq1}

pub returns-then-block-clause-filled : goal.returns-then-block-clause-filled
returns-then-block-clause-filled g c =
    let K = g.S.Squares.knows c.args.squares.now in
    let C = g.S.Squares.content c.args.squares.now in
    let b = c.args.block in
    let one = c.cell-one.ensures in
    let cells = c.requires.block.long (omega (arith, c.if-block.true)) in
    on_ok_weaker c.extend.result
    (λ columns want p same. filled-more {knows = K} {knows' = K} {now = C} {now' = C} (λ q k. (k, refl))
    0 want c.args.spans.now.items c.extend.new.spans.items (64 * b.start) (64 * b.end) c.cell-one.result p (columns p.before)
    one.known (ap depth one.square)
    (λ x le lt. same x le lt ∙ ap (λ z. point (cell_in_word z (x % 64))) cells ∙ ap point (bit_at_ones 64 (63 - x % 64) (omega arith)) ∙ sym one.square))
    c.extend.ensures.columns

pub loop-column-preserved : goal.loop-column-preserved
loop-column-preserved g c =
    let K = g.S.Squares.knows c.args.squares.now in
    let C = g.S.Squares.content c.args.squares.now in
    let b = c.args.block in
    let one = c.cell-one.ensures in
    let column = c.loop-column.column in
    let spans = c.loop-column.spans.items in
    let inv = c.loop-column.invariant in
    let inside = c.loop-column-test.true in
    elim c.if-block-column-eq1.branch [
      | then-block-column-eq1+in_ok-extend w ↦
          let extended = w.in_ok-extend.ensures.columns inv.placed in
          let bit = w.if-block-column-eq1.true in
          let new = w.extend-then-block-column-eq1.new.spans in record {
            from = omega (arith, inv.from);
            within = omega (arith, inside);
            placed = subst (λ z. AreBefore (column + 1) z.items) (sym w.spans-is) extended.before;
            filled = λ want p same. subst (λ z. FilledTo K C 0 want z.items (column + 1)) (sym w.spans-is)
                (filled-more {knows = K} {knows' = K} {now = C} {now' = C} (λ q k. (k, refl)) 0 want spans new.items column (column + 1) c.cell-one.result
                (inv.filled want p same) extended one.known (ap depth one.square)
                (λ x le lt. let at : x ≡ column = omega (arith, le, lt) in ap want at ∙ same column inv.from inside ∙ ap point bit ∙ sym one.square));
            before = λ n old before. subst (λ z. AreBefore n z.items) (sym w.spans-is)
                (before_more (column + 1) n new.items extended.before
                (let lt = cell-before b n column before (omega (arith, inv.from)) (omega (arith, inside)) bit in omega (arith, lt)));
          }
      | else-block-column-eq1 w ↦
          let none : cell_in_word b.cells (column % 64) ≡ 0 = (let small = bit_at-lt b.cells (63 - column % 64) in let other = w.if-block-column-eq1.false in
          grind arith) in record {
            from = omega (arith, inv.from);
            within = omega (arith, inside);
            placed = subst (λ z. AreBefore (column + 1) z.items) (sym w.spans-is) (before_more column (column + 1) spans inv.placed (omega arith));
            filled = λ want p same. subst (λ z. FilledTo K C 0 want z.items (column + 1)) (sym w.spans-is)
                (filled-skip K C 0 want spans column (column + 1) (inv.filled want p same) (omega arith)
                (λ x le lt. let at : x ≡ column = omega (arith, le, lt) in ap want at ∙ same column inv.from inside ∙ ap point none));
            before = λ n old before. subst (λ z. AreBefore n z.items) (sym w.spans-is) (inv.before n old before);
          }
    ]
