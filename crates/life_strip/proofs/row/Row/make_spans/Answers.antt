use Rattle.std.proofs.Common.{◌≡◌, ℕ, inl, List, [], ◌++◌, sym, ◌∙◌, ap, subst, arith}
use Rattle.life_base.specs.Tree.{Tree, point, state_at}
use Rattle.life_quad.specs.declared.id.Id.{Id}
use Rattle.life_strip.specs.declared.blocks.Block.{Block}
use Rattle.life_strip.specs.declared.row.Row.{Row}
use Rattle.life_strip.specs.declared.spans.Span.{Span}
use Rattle.life_strip.specs.Blocks.{AreBlocksBefore, AreRowBlocks, cell_in_blocks}
use Rattle.life_strip.specs.Row.{WidensRow}
use Rattle.life_strip.specs.Strip.{AreBefore, AreWithin, IsStrip, Rise, square_at}
use Rattle.life_strip.proofs.RowLemmas.{row-of-blocks, row-of-spans}
use Rattle.life_strip.proofs.row.Row.make_spans.Goals as goal

-- spans with the cells of the blocks of a row, in place of these
wide : (knows : Id → Type 0) (content : Id → Tree) (old new : Row) (blocks : List Block) (made : List Span) → old.spans.items ≡ []
    → blocks ≡ old.blocks.items → new.blocks.items ≡ [] → new.spans.items ≡ made → IsStrip knows content 0 made → AreWithin 0 made → Rise made
    → ((c : ℕ) → square_at content 0 made c ≡ point (cell_in_blocks blocks c)) → ((n : ℕ) → AreBlocksBefore n blocks → AreBefore n made)
    → WidensRow knows content old new
wide knows content old new blocks made none all empty spans strip within rises cells before = record {
  row = record {
    blocks = subst AreRowBlocks (sym empty)
        (record { each = λ k d lt. absurd (omega (arith, lt)); rise = λ i j d lt inside. absurd (omega (arith, inside)) });
    squares = subst (IsStrip knows content 0) (sym spans) strip;
    within = subst (AreWithin 0) (sym spans) within;
    rises = subst Rise (sym spans) rises;
    one = inl empty;
  };
  blocks = empty;
  before = λ n h. record {
    blocks = subst (AreBlocksBefore n) (sym empty) (λ k d lt. absurd (omega (arith, lt)));
    spans = subst (AreBefore n) (sym spans) (before n (subst (AreBlocksBefore n) (sym all) h.blocks));
  };
  states = λ c. row-of-spans content new c empty ∙ ap (λ z. state_at (square_at content 0 z c) 0 0) spans ∙ ap (λ t. state_at t 0 0) (cells c)
      ∙ ap (λ z. cell_in_blocks z c) all ∙ sym (row-of-blocks content old c none);
}

pub returns-clause-wide : goal.returns-clause-wide
returns-clause-wide g c =
    let made = c.in_ok-made.ensures in
    wide (g.S.Squares.knows c.args.squares.now) (g.S.Squares.content c.args.squares.now) c.args.self.now
    (record { blocks = c.clear.new.self; spans = c.extend_from_slice.new.self }) c.as_slice.result.now c.in_ok-made.made.items c.requires.none
    c.as_slice.ensures.value c.clear.ensures.items
    (c.in_ok-extend_from_slice.ensures.items ∙ ap (λ z. z ++ c.as_slice-2.result.now) c.requires.none ∙ c.as_slice-2.ensures.value)
    made.strip made.within made.rises made.cells made.before
