use Rattle.std.proofs.Common.{◌≡◌, ℕ, ◌≤◌, [], ◌∙◌, ap, refl, sym, subst, arith, rules}
use Rattle.life_base.specs.Tree.{Tree}
use Rattle.life_quad.specs.declared.id.Id.{Id}
use Rattle.life_quad.proofs.GrowsLemmas.{grows-err, grows-ok, grows-same}
use Rattle.life_strip.specs.declared.pile.Pile.{Pile}
use Rattle.life_strip.specs.declared.row.Row.{Row}
use Rattle.life_strip.specs.Blocks.{AreBlocksBefore}
use Rattle.life_strip.specs.Needed.{SomeSquare}
use Rattle.life_strip.specs.Pile.{pile_state_with}
use Rattle.life_strip.specs.Row.{IsRow, IsRowBefore}
use Rattle.life_strip.specs.Strip.{AreBefore}
use Rattle.life_strip.proofs.NeededLemmas.{SomeSquare-same}
use Rattle.life_strip.proofs.RowLemmas.{blank-row, with-blank}
use Rattle.life_strip.proofs.plane.Plane.begin_row.Goals as goal

pub end_row-requires-clause-pile : goal.end_row-requires-clause-pile
end_row-requires-clause-pile g c =
    let pile = c.requires.filled.pile in
    record { strips = pile.strips; lowest = pile.lowest; rows = pile.rows; few = pile.few }

pub end_row-requires-clause-row : goal.end_row-requires-clause-row
end_row-requires-clause-row g c =
    subst (IsRow (g.S.Squares.knows c.args.squares.now) (g.S.Squares.content c.args.squares.now)) (sym c.replace-begun.ensures.value) c.requires.filled.row

pub end_row-requires-clause-space : goal.end_row-requires-clause-space
end_row-requires-clause-space g c = omega (arith, c.requires.filled.rows, c.requires.later, c.requires.inside)

-- no cell is in an empty row
none-before : (row : Row) (n : ℕ) → row.blocks.items ≡ [] → row.spans.items ≡ [] → IsRowBefore n row
none-before row n blocks spans = record {
  blocks = subst (AreBlocksBefore n) (sym blocks) (λ k d lt. absurd (omega (arith, lt)));
  spans = subst (AreBefore n) (sym spans) (λ k d lt. absurd (omega (arith, lt)));
}

pub returns-clause-begun : goal.returns-clause-begun
returns-clause-begun g c =
    let row = c.replace-begun.new.dest in
    let blocks : row.blocks.items ≡ [] = ap (λ s. s.blocks.items) c.replace-begun.ensures.after ∙ c.in_ok-next.ensures.blocks in
    let spans : row.spans.items ≡ [] = ap (λ s. s.spans.items) c.replace-begun.ensures.after ∙ c.in_ok-next.ensures.spans in
    let over = c.in_ok-end_row.ensures in
    record {
      filled = record {
        pile = over.pile;
        row = blank-row (g.S.Squares.knows c.end_row.new.squares) (g.S.Squares.content c.end_row.new.squares) row blocks spans;
        rows = omega (arith, over.height, c.requires.filled.rows, c.requires.later);
        most = c.requires.inside;
      };
      rows = refl;
      ends = λ n h. none-before row n blocks spans;
      picture = λ i j.
          with-blank (g.S.Squares.content c.end_row.new.squares) c.end_row.new.self.strips.items c.end_row.new.self.band.items row blocks spans i j
          ∙ over.picture i j
          ∙ ap (λ s. pile_state_with (g.S.Squares.content c.args.squares.now) c.args.self.now.pile s i j) c.replace-begun.ensures.value;
    }

-- a square of the rows that are over and of the row before is one of the plane so far
of-rows : (content : Id → Tree) (pile : Pile) (begun row : Row) (rows all : ℕ) → begun ≡ row → rows ≤ all → (P : Tree → Type 0)
    → SomeSquare P rows (pile_state_with content pile begun) → SomeSquare P all (pile_state_with content pile row)
of-rows content pile begun row rows all same le P n =
    subst (λ s. SomeSquare P all (pile_state_with content pile s)) same (SomeSquare-same le (λ i j. refl) n)

pub returns-in_err-next-clause-grows : goal.returns-in_err-next-clause-grows
returns-in_err-next-clause-grows g c = grows-same _ c.args.squares.now (search rules)

pub returns-in_err-end_row-clause-grows : goal.returns-in_err-end_row-clause-grows
returns-in_err-end_row-clause-grows g c =
    grows-err _ c.in_err-end_row.ensures.grows c.from_residual-in_err-end_row.ensures.1
    (of-rows (g.S.Squares.content c.args.squares.now) c.args.self.now.pile _ _ _ c.args.row c.replace-begun.ensures.value
    (omega (arith, c.requires.filled.rows, c.requires.later)))

pub returns-clause-grows : goal.returns-clause-grows
returns-clause-grows g c =
    grows-ok _ c.in_ok-end_row.ensures.grows
    (of-rows (g.S.Squares.content c.args.squares.now) c.args.self.now.pile _ _ _ c.args.row c.replace-begun.ensures.value
    (omega (arith, c.requires.filled.rows, c.requires.later)))
