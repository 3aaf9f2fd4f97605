use Rattle.std.proofs.Common.{◌≡◌, ℕ, ◌+◌, ◌<◌, arith, sym, ◌∙◌, ap, subst}
use Rattle.life_base.specs.Tree.{Tree}
use Rattle.life_quad.specs.Refused.{SomePart}
use Rattle.life_quad.specs.Store.{four}
use Rattle.life_quad.proofs.KeepingLemmas.{adds-none, adds-then, keeps-same, keeps-then}
use Rattle.life_quad.proofs.GrowsLemmas.{grows-behind, grows-err, grows-still}
use Rattle.life_strip.specs.Band.{cells_among_four}
use Rattle.life_strip.specs.Strip.{FilledTo}
use Rattle.life_strip.proofs.bands.push_some.Goals as goal

-- one of the four squares is one of those that the call needs
one-of : (squares square cells : ℕ) → cells ≡ cells_among_four squares square → square < 4 → (P : Tree → Type 0) → SomePart P (four cells)
    → (i : ℕ) × (i < 4) × SomePart P (four (cells_among_four squares i))
one-of squares square cells same within P n = (square, within, subst (λ (k : ℕ). SomePart P (four k)) same n)

pub loop-square-init : goal.loop-square-init
loop-square-init g c = record {
  filled = λ want p squares. p;
  keeps = keeps-same c.args.squares.now;
  within = c.requires.order;
  adds = adds-none _ c.args.squares.now;
}

pub loop-square-preserved : goal.loop-square-preserved
loop-square-preserved g c =
    let inv = c.loop-square.invariant in
    let h = c.in_ok-push_square.ensures in
    let square = c.loop-square.square in
    let column = c.args.column in
    let before = c.loop-square-test.true in
    let within : square < 4 = omega (arith, before, c.requires.within) in
    let next : column + square + 1 ≡ column + (square + 1) = omega arith in
    record {
      filled = λ want p squares.
          subst (FilledTo (g.S.Squares.knows c.push_square.new.squares) (g.S.Squares.content c.push_square.new.squares)
          2 want c.push_square.new.spans.items) next
          (h.filled want (inv.filled want p squares)
          (λ x le lt. let place : x ≡ column + square = omega (arith, le, lt) in
          ap want place ∙ squares square within ∙ ap four (sym c.cells_of.ensures)));
      keeps = keeps-then inv.keeps h.grows.keeps;
      within = omega (arith, before);
      adds = adds-then _ inv.adds h.grows.adds (λ P n. n) (one-of c.args.cells square c.cells_of.result c.cells_of.ensures within);
    }

pub returns-clause-filled : goal.returns-clause-filled
returns-clause-filled g c want p squares =
    let inv = c.loop-square.invariant in
    let last : c.args.column + c.loop-square.square ≡ c.args.column + c.args.some.end = omega (arith, inv.within, c.loop-square-test.false) in
    subst (FilledTo (g.S.Squares.knows c.loop-square.squares) (g.S.Squares.content c.loop-square.squares) 2 want c.loop-square.spans.items) last
    (inv.filled want p squares)

pub returns-in_err-push_square-clause-grows : goal.returns-in_err-push_square-clause-grows
returns-in_err-push_square-clause-grows g c =
    let inv = c.loop-square.invariant in
    let M = λ (P : Tree → Type 0). (i : ℕ) × (i < 4) × SomePart P (four (cells_among_four c.args.cells i)) in
    let before = c.loop-square-test.true in
    let within : c.loop-square.square < 4 = omega (arith, before, c.requires.within) in
    grows-err M (grows-behind M inv.keeps inv.adds c.in_err-push_square.ensures.grows
    (one-of c.args.cells c.loop-square.square c.cells_of.result c.cells_of.ensures within))
    c.from_residual.ensures.1 (λ P n. n)

pub returns-clause-grows : goal.returns-clause-grows
returns-clause-grows g c = let inv = c.loop-square.invariant in grows-still _ inv.keeps inv.adds tt
