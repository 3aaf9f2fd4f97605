use Rattle.std.proofs.Common.{◌≡◌, ℕ, ◌==◌, false, if◌then◌else◌, [], arith, ◌∙◌, ap}
use Rattle.life_base.specs.Tree.{Tree}
use Rattle.life_quad.specs.declared.id.Id.{Id}
use Rattle.life_strip.specs.declared.plane.Plane.{Plane}
use Rattle.life_strip.specs.declared.row.Row.{Row}
use Rattle.life_strip.specs.Pile.{pile_height}
use Rattle.life_strip.specs.Plane.{BeginsRow, state_so_far}
use Rattle.life_strip.specs.Row.{IsRowBefore}
use Rattle.life_strip.specs.RowWords.{cell_in_words}
use Rattle.life_strip.proofs.RowLemmas.{row-none, row-of, row-of-blocks, with-replaced}
use Rattle.life_strip.proofs.plane.Plane.add_words.Goals as goal
use Rattle.life_strip.proofs.plane.Plane.add_words.Given.{Over}
use Rattle.life_strip.proofs.plane.Plane.add_words.Goals.{After-drop-self}

-- the row that is begun has no block and no span
begins-none : (knows : Id → Type 0) (before after : Id → Tree) (old new : Plane) (row : ℕ) → BeginsRow knows before after old new row
    → (old.rows ≡ row → IsRowBefore 0 old.row) → (new.row.blocks.items ≡ []) × (new.row.spans.items ≡ [])
begins-none knows before after old new row begun free = row-none knows after new.row begun.filled.row (begun.ends 0 free)

pub blocks_of_words-requires-clause-none : goal.blocks_of_words-requires-clause-none
blocks_of_words-requires-clause-none g c =
    let none = begins-none (g.S.Squares.knows c.go_to_row.new.squares) (g.S.Squares.content c.args.squares.now)
    (g.S.Squares.content c.go_to_row.new.squares) c.args.self.now c.go_to_row.new.self c.args.row c.in_ok-go_to_row.ensures.begun
    c.requires.filled.free in
    ap (λ z. z.items) c.replace-empty.ensures.value ∙ none.0

spans-none : (g : Over) (c : After-drop-self g) → c.go_to_row.new.self.row.spans.items ≡ []
spans-none g c =
    let none = begins-none (g.S.Squares.knows c.go_to_row.new.squares) (g.S.Squares.content c.args.squares.now)
    (g.S.Squares.content c.go_to_row.new.squares) c.args.self.now c.go_to_row.new.self c.args.row c.in_ok-go_to_row.ensures.begun
    c.requires.filled.free in
    none.1

-- the row of the words
row : (g : Over) → After-drop-self g → Row
row g c = record { blocks = c.in_ok-self.field-0; spans = c.go_to_row.new.self.row.spans }

cells : (g : Over) (c : After-drop-self g) (i j : ℕ)
    → state_so_far (g.S.Squares.content c.go_to_row.new.squares) (record c.go_to_row.new.self { row = row g c }) i j
    ≡ (if j == c.args.row then cell_in_words c.args.words.now i else state_so_far (g.S.Squares.content c.args.squares.now) c.args.self.now i j)
unfolding row
cells g c i j =
    let C = g.S.Squares.content c.go_to_row.new.squares in
    let self = c.go_to_row.new.self in
    let begun = c.in_ok-go_to_row.ensures.begun in
    let tall : pile_height self.pile ≡ c.args.row = begun.filled.rows ∙ begun.rows in
    let states = row-of-blocks C (row g c) i (spans-none g c) ∙ c.in_ok-self.ensures.cells i in
    with-replaced C self.pile.strips.items self.pile.band.items self.row (row g c) i j
    ∙ (λ k. if j == tall k then states k else begun.picture i j k)

pub returns-clause-cells : goal.returns-clause-cells
unfolding row
returns-clause-cells g c = cells g (goal.at.returns-clause-cells g c).After-drop-self

pub returns-clause-filled : goal.returns-clause-filled
unfolding row
returns-clause-filled g c =
    let at = (goal.at.returns-clause-filled g c).After-drop-self in
    let begun = c.in_ok-go_to_row.ensures.begun in
    let pile = begun.filled.pile in
    let old = c.requires.filled in
    record {
      filled = record {
        pile = record { strips = pile.strips; lowest = pile.lowest; rows = pile.rows; few = pile.few };
        row = row-of (g.S.Squares.knows c.go_to_row.new.squares) (g.S.Squares.content c.go_to_row.new.squares) (row g c) c.in_ok-self.ensures.blocks
            (spans-none g at);
        rows = begun.filled.rows;
        most = begun.filled.most;
      };
      blank = λ i j below.
          let out : (j == c.args.row) ≡ false = grind (arith, below) in
          cells g at i j
          ∙ ap (λ b. if b then cell_in_words c.args.words.now i else state_so_far (g.S.Squares.content c.args.squares.now) c.args.self.now i j) out
          ∙ old.blank i j (omega (arith, below));
      least = omega (arith, begun.rows);
      free = λ same. absurd (omega (arith, begun.rows, same));
    }
