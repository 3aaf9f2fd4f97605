use Rattle.std.proofs.Common.{◌≡◌, ℕ, ◌<◌, arith, sym, ◌∙◌, ap}
use Rattle.life_base.specs.Tree.{Tree}
use Rattle.life_quad.specs.declared.id.Id.{Id}
use Rattle.life_quad.specs.Cells.{population}
use Rattle.life_quad.specs.IdMap.{value_of_id}
use Rattle.life_quad.proofs.CountLemmas.{population-blank, quarters_small, four-ones}
use Rattle.life_quad.proofs.MapLemmas.{after_set}
use Rattle.life_quad.proofs.reads.+count.Goals as goal

pub returns-in-Some-small_cells-clause-number : goal.returns-in-Some-small_cells-clause-number
returns-in-Some-small_cells-clause-number g t c =
    c.from.ensures ∙ sym (four-ones c.in-Some-small_cells.cells (omega arith)) ∙ ap population (sym c.in-Some-small_cells.ensures)

pub returns-then-is_blank_at-clause-number : goal.returns-then-is_blank_at-clause-number
returns-then-is_blank_at-clause-number g t c =
    sym (population-blank (g.S.Squares.content c.args.squares.now c.args.id) (sym c.is_blank_at.ensures ∙ c.if-is_blank_at.true))

pub overflow_add-sum : goal.overflow_add-sum
overflow_add-sum g t c =
    let few = quarters_small _ _ _ _ _ (g.met.S.Squares.full _ _ c.requires.known) (g.met.S.Squares.low _ _ c.requires.known) c.divide.ensures.square in
    omega (arith, few, c.in_ok-a.ensures.number, c.in_ok-b.ensures.number)

pub overflow_add-sum-2 : goal.overflow_add-sum-2
overflow_add-sum-2 g t c =
    let few = quarters_small _ _ _ _ _ (g.met.S.Squares.full _ _ c.requires.known) (g.met.S.Squares.low _ _ c.requires.known) c.divide.ensures.square in
    omega (arith, few, c.in_ok-a.ensures.number, c.in_ok-b.ensures.number, c.in_ok-c.ensures.number)

pub overflow_add-sum-3 : goal.overflow_add-sum-3
overflow_add-sum-3 g t c =
    let few = quarters_small _ _ _ _ _ (g.met.S.Squares.full _ _ c.requires.known) (g.met.S.Squares.low _ _ c.requires.known) c.divide.ensures.square in
    omega (arith, few, c.in_ok-a.ensures.number, c.in_ok-b.ensures.number, c.in_ok-c.ensures.number, c.in_ok-d.ensures.number)

pub returns-clause-number : goal.returns-clause-number
returns-clause-number g t c =
    let all = ap population c.divide.ensures.square in
    omega (arith, all, c.in_ok-a.ensures.number, c.in_ok-b.ensures.number, c.in_ok-c.ensures.number, c.in_ok-d.ensures.number)

pub returns-clause-right : goal.returns-clause-right
returns-clause-right g t c =
    let C : Id → Tree = g.S.Squares.content c.args.squares.now in
    let R : Id → ℕ → Type 0 = λ q n. 0 < n → n ≡ population (C q) in
    after_set R _ (value_of_id c.set.new.self) _ _ c.in_ok-d.ensures.right c.set.ensures.only (λ some. returns-clause-number g t c)

pub returns-in_err-set-clause-right : goal.returns-in_err-set-clause-right
returns-in_err-set-clause-right g t c =
    let C : Id → Tree = g.S.Squares.content c.args.squares.now in
    let R : Id → ℕ → Type 0 = λ q n. 0 < n → n ≡ population (C q) in
    let all = ap population c.divide.ensures.square in
    after_set R _ (value_of_id c.set.new.self) _ _ c.in_ok-d.ensures.right c.set.ensures.only
    (λ some. omega (arith, all, c.in_ok-a.ensures.number, c.in_ok-b.ensures.number, c.in_ok-c.ensures.number, c.in_ok-d.ensures.number))
