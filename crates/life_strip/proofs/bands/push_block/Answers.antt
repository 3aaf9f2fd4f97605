use Rattle.std.proofs.Common.{◌≡◌, ℕ, ◌+◌, ◌-◌, ◌*◌, ◌/◌, ◌%◌, ◌<◌, ◌≤◌, arith, sym, ◌∙◌, ap, subst}
use Rattle.std.proofs.lemmas.Result.{on_ok_weaker}
use Rattle.life_base.specs.Tree.{Tree}
use Rattle.life_quad.specs.Refused.{SomePart}
use Rattle.life_quad.specs.Store.{four}
use Rattle.life_quad.proofs.KeepingLemmas.{keeps-then, keeps-same, adds-none, adds-then}
use Rattle.life_quad.proofs.GrowsLemmas.{grows-as, grows-behind, grows-err, grows-still}
use Rattle.life_strip.specs.declared.words.TwoWords.{TwoWords}
use Rattle.life_strip.specs.Band.{cells_among_four, square_of_words}
use Rattle.life_strip.specs.Strip.{FilledTo}
use Rattle.life_strip.proofs.SpanLemmas.{filled-skip}
use Rattle.life_strip.proofs.StretchLemmas.{blank-columns}
use Rattle.life_strip.proofs.bands.push_block.Goals as goal

-- the squares of one block, one by one
by-one : (want : ℕ → Tree) (upper lower : TwoWords) (block next : ℕ) → block < next
    → ((c : ℕ) → 16 * block ≤ c → c < 16 * next → want c ≡ square_of_words upper lower (c % 16))
    → (i : ℕ) → i < 16 → want (16 * block + i) ≡ square_of_words upper lower i
by-one want upper lower block next beyond squares i lt =
    let place : (16 * block + i) % 16 ≡ i = omega (arith, lt) in
    squares (16 * block + i) (omega arith) (omega (arith, beyond, lt)) ∙ ap (square_of_words upper lower) place

-- the first square, by its cells
first-square : (upper lower : TwoWords) (squares cells : ℕ) → ((i : ℕ) → i < 4 → four (cells_among_four squares i) ≡ square_of_words upper lower (4 * 0 + i))
    → cells ≡ cells_among_four squares 0 → four cells ≡ square_of_words upper lower 0
first-square upper lower squares cells are same = ap four same ∙ are 0 (omega arith)

-- one of the four squares of a part is one of those that the call needs
one-of : (upper lower : TwoWords) (part squares : ℕ) → part < 4
    → ((i : ℕ) → i < 4 → four (cells_among_four squares i) ≡ square_of_words upper lower (4 * part + i)) → (P : Tree → Type 0)
    → (i : ℕ) × (i < 4) × SomePart P (four (cells_among_four squares i)) → (i : ℕ) × (i < 16) × SomePart P (square_of_words upper lower i)
one-of upper lower part squares within are P n =
    let inside = n.1 in
    (4 * part + n.0, omega (arith, within, inside), subst (SomePart P) (are n.0 inside) n.2)

pub returns-then-block-next-clause-filled : goal.returns-then-block-next-clause-filled
returns-then-block-next-clause-filled g c =
    let first = first-square c.args.upper c.args.lower c.four_squares-cells.result c.cells_of.result c.four_squares-cells.ensures c.cells_of.ensures in
    on_ok_weaker c.push_square.result
    (λ filled want p squares. filled want p (λ x lo hi. squares x lo hi
    ∙ c.requires.alike (omega (arith, c.if-block-next.true)) (x % 16) (omega arith) ∙ sym first))
    c.push_square.ensures.filled

pub returns-then-block-next-clause-grows : goal.returns-then-block-next-clause-grows
returns-then-block-next-clause-grows g c =
    let first = first-square c.args.upper c.args.lower c.four_squares-cells.result c.cells_of.result c.four_squares-cells.ensures c.cells_of.ensures in
    grows-as _ c.push_square.ensures.grows (λ P n. (0, omega arith, subst (SomePart P) first n))

pub loop-square-init : goal.loop-square-init
loop-square-init g c =
    let r = c.blank_to-square.ensures in
    let square = c.blank_to-square.result in
    record {
      filled = λ want p squares.
          filled-skip (g.S.Squares.knows c.args.squares.now) (g.S.Squares.content c.args.squares.now) 2 want c.args.spans.now.items (16 * c.args.block)
          (16 * c.args.block + square) p (omega arith)
          (λ x le lt. blank-columns want c.args.upper c.args.lower c.args.block 0 square r.within squares
          (λ i from before. r.blank i before) x (omega (arith, le)) lt);
      keeps = keeps-same c.args.squares.now;
      within = r.within;
      adds = adds-none _ c.args.squares.now;
    }

pub loop-square-preserved : goal.loop-square-preserved
loop-square-preserved g c =
    let inv = c.loop-square.invariant in
    let h = c.in_ok-push_some.ensures in
    let block = c.args.block in
    let square = c.loop-square.square in
    let part = square / 4 in
    let last = c.blank_from-last.ensures.within in
    let within : part < 4 = omega (arith, c.loop-square-test.true, last) in
    let are = c.four_squares-cells-in-loop-square.ensures in
    let end = c.min-end.ensures in
    let first : 16 * block + square ≡ 16 * block + 4 * part + square % 4 = omega arith in
    let next : 16 * block + 4 * part + (c.min-end.result - 4 * part) ≡ 16 * block + c.min-end.result =
    omega (arith, end, c.loop-square-test.true) in
    record {
      filled = λ want p squares.
          subst (FilledTo (g.S.Squares.knows c.push_some.new.squares) (g.S.Squares.content c.push_some.new.squares) 2 want c.push_some.new.spans.items) next
          (h.filled want (subst (FilledTo (g.S.Squares.knows c.loop-square.squares) (g.S.Squares.content c.loop-square.squares) 2 want
          c.loop-square.spans.items) first (inv.filled want p squares))
          (λ i lt. let place : 16 * block + 4 * part + i ≡ 16 * block + (4 * part + i) = omega arith in
          ap want place ∙ squares (4 * part + i) (omega (arith, within, lt)) ∙ sym (are i lt)));
      keeps = keeps-then inv.keeps h.grows.keeps;
      within = omega (arith, end, last);
      adds = adds-then _ inv.adds h.grows.adds (λ P k. k)
          (one-of c.args.upper c.args.lower part c.four_squares-cells-in-loop-square.result within are);
    }

pub returns-clause-filled : goal.returns-clause-filled
returns-clause-filled g c want p squares =
    let inv = c.loop-square.invariant in
    let block = c.args.block in
    let square = c.loop-square.square in
    let next : 16 * block + 16 ≡ 16 * c.args.next = omega (arith, c.requires.beyond, c.if-block-next.false) in
    let behind = c.loop-square-test.false in
    let one = by-one want c.args.upper c.args.lower block c.args.next c.requires.beyond squares in
    subst (FilledTo (g.S.Squares.knows c.loop-square.squares) (g.S.Squares.content c.loop-square.squares) 2 want c.loop-square.spans.items) next
    (filled-skip (g.S.Squares.knows c.loop-square.squares) (g.S.Squares.content c.loop-square.squares) 2 want c.loop-square.spans.items (16 * block + square)
    (16 * block + 16) (inv.filled want p one) (omega (arith, inv.within))
    (λ x le lt. blank-columns want c.args.upper c.args.lower block square 16 (omega arith) one
    (λ i from before. c.blank_from-last.ensures.blank i (omega (arith, behind, from)) before) x le lt))

pub returns-in_err-push_some-clause-grows : goal.returns-in_err-push_some-clause-grows
returns-in_err-push_some-clause-grows g c =
    let inv = c.loop-square.invariant in
    let part = c.loop-square.square / 4 in
    let within : part < 4 = omega (arith, c.loop-square-test.true, c.blank_from-last.ensures.within) in
    let M = λ (P : Tree → Type 0). (i : ℕ) × (i < 16) × SomePart P (square_of_words c.args.upper c.args.lower i) in
    grows-err M (grows-behind M inv.keeps inv.adds c.in_err-push_some.ensures.grows
    (one-of c.args.upper c.args.lower part c.four_squares-cells-in-loop-square.result within c.four_squares-cells-in-loop-square.ensures))
    c.from_residual.ensures.1 (λ P n. n)

pub returns-clause-grows : goal.returns-clause-grows
returns-clause-grows g c = let inv = c.loop-square.invariant in grows-still _ inv.keeps inv.adds tt
