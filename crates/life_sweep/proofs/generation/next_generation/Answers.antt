use Rattle.std.proofs.Common.{ℕ, ◌<◌, inl, inr, List, Some, sym, ◌∙◌, subst, ap, arith, true≢false, All}
use Rattle.std.proofs.lemmas.Result.{IfOk-weaker, IfErr-weaker, err_from_is_err_and}
use Rattle.life_base.specs.Refusal.{fault_of}
use Rattle.life_base.specs.Tree.{tree_cell}
use Rattle.life_base.specs.declared.cell.Cell.{Cell}
use Rattle.life_base.specs.declared.fault.Fault.{Fault}
use Rattle.life_base.specs.declared.kind.Kind.{Kind}
use Rattle.life_quad.specs.Cells.{population}
use Rattle.life_quad.proofs.KeepingLemmas.{adds-as}
use Rattle.life_sweep.specs.Refused.{GenerationRefusal, HasStateFrom}
use Rattle.life_sweep.specs.Rows.{IsInside, IsRestOf, first_coordinate}
use Rattle.life_sweep.specs.Sweep.{IsSorted}
use Rattle.life_sweep.proofs.CellLemmas.{blank-before, cells-sorted, cells-inside}
use Rattle.life_sweep.proofs.RefusedLemmas.{has-from, none-from, beyond, step-refused, accepted}
use Rattle.life_sweep.proofs.generation.next_generation.Given.{Over}
use Rattle.life_sweep.proofs.generation.next_generation.Goals.{After-deref-2}
use Rattle.life_base.proofs.Results.{if_ok_two}
use Rattle.life_sweep.proofs.generation.next_generation.Goals as goal

pub returns-in_err-list-clause-refusals : goal.returns-in_err-list-clause-refusals
returns-in_err-list-clause-refusals g c =
    let p = err_from_is_err_and c.from_residual.result c.from_residual.ensures.1 in
    rw (p.1, p.2) (elim c.in_err-list.ensures.refusals [
      | inl e ↦ inr (inl (c.in_err-list.ensures.many e, ap (λ (k : Kind). Some (fault_of k)) e))
      | inr e ↦ inl (inl (ap fault_of e))
    ])

-- the list has the square's cells, which the store's levels bound
sorted : (g : Over) (c : After-deref-2 g) → IsSorted (tree_cell (g.S.Squares.content c.args.squares.now c.args.id)) c.deref-2.result.now
sorted g c =
    let t = g.S.Squares.content c.args.squares.now c.args.id in
    let low = g.met.S.Squares.low _ _ c.requires.known in
    record {
      cells_are = subst (λ z. IsRestOf (tree_cell t) first_coordinate first_coordinate z) (sym c.deref-2.ensures.value)
          (cells-sorted t c.in_ok-list.list.items low c.in_ok-list.ensures.cells);
      blank = blank-before t low;
    }

-- no more cells than these, and each of a state of the law
few : (g : Over) (c : After-deref-2 g) → ¬ (c.args.most < population (g.S.Squares.content c.args.squares.now c.args.id))
few g c = λ m. omega (arith, m, c.in_ok-list.ensures.number, c.in_ok-list.ensures.few)

none : (g : Over) (c : After-deref-2 g) → ¬ (HasStateFrom (g.L.Law.bound c.args.law.now) (tree_cell (g.S.Squares.content c.args.squares.now c.args.id)))
none g c =
    none-from _ c.in_ok-list.list.items (g.L.Law.bound c.args.law.now) (g.met.L.Law.positive c.args.law.now) c.in_ok-list.ensures.cells
    (subst (λ (n : ℕ). All (λ (d : Cell). d.state < n) c.in_ok-list.list.items) c.n_states.ensures
    (subst (λ (l : List Cell). All (λ (d : Cell). d.state < c.n_states.result) l) c.deref.ensures.value (c.are_below.ensures.0 c.if-not-are_below.false)))

pub next_square-requires-clause-inside : goal.next_square-requires-clause-inside
next_square-requires-clause-inside g c =
    let t = g.S.Squares.content c.args.squares.now c.args.id in
    let low = g.met.S.Squares.low c.args.squares.now c.args.id c.requires.known in
    subst (λ z. All IsInside z) (sym c.deref-2.ensures.value) (cells-inside t c.in_ok-list.list.items low c.in_ok-list.ensures.cells)

pub next_square-requires-clause-sorted : goal.next_square-requires-clause-sorted
next_square-requires-clause-sorted g c = let s = sorted g (goal.at.next_square-requires-clause-sorted g c).After-deref-2 in
    (tree_cell (g.S.Squares.content c.args.squares.now c.args.id), s.blank, s.cells_are)

pub returns-then-not-are_below-clause-refusals : goal.returns-then-not-are_below-clause-refusals
returns-then-not-are_below-clause-refusals g c =
    let t = g.S.Squares.content c.args.squares.now c.args.id in
    let law = c.args.law.now in
    let h = c.in_ok-list.ensures in
    let bound = g.L.Law.bound law in
    let not : ¬ (All (λ (d : Cell). d.state < bound) c.in_ok-list.list.items) =
    λ all. true≢false (sym (c.are_below.ensures.1 (subst (λ (l : List Cell). All (λ (d : Cell). d.state < c.n_states.result) l) (sym c.deref.ensures.value)
    (subst (λ (n : ℕ). All (λ (d : Cell). d.state < n) c.in_ok-list.list.items) (sym c.n_states.ensures) all))) ∙ c.if-not-are_below.true) in
    let few : ¬ (c.args.most < population t) = λ m. omega (arith, m, h.number, h.few) in
    inr (subst (λ (f : Fault). GenerationRefusal (g.L.Law.answers law) bound c.args.most t (Some f)) (sym c.of.ensures)
    (beyond (g.L.Law.answers law) (g.met.L.Law.one_answer law) bound c.args.most t few (has-from t c.in_ok-list.list.items bound h.cells not)))

pub returns-clause-next : goal.returns-clause-next
returns-clause-next g c = IfOk-weaker c.next_square.result _ _ (λ r h. h _ (sorted g (goal.at.returns-clause-next g c).After-deref-2))
    c.next_square.ensures.next

pub returns-clause-accepted : goal.returns-clause-accepted
returns-clause-accepted g c =
    let law = c.args.law.now in
    if_ok_two c.next_square.result
    (λ r level next. accepted (g.L.Law.answers law) (g.met.L.Law.one_answer law) (g.L.Law.bound law) c.args.most
    (g.S.Squares.content c.args.squares.now c.args.id) (few g (goal.at.returns-clause-accepted g c).After-deref-2)
    (none g (goal.at.returns-clause-accepted g c).After-deref-2)
    (g.S.Squares.content c.next_square.new.squares r) level (next _ (sorted g (goal.at.returns-clause-accepted g c).After-deref-2)))
    c.next_square.ensures.level c.next_square.ensures.next

pub returns-clause-refusals : goal.returns-clause-refusals
returns-clause-refusals g c =
    let law = c.args.law.now in
    IfErr-weaker c.next_square.result _ _ (λ f e. elim e [
      | inl want ↦ inl want
      | inr r ↦ inr (step-refused (g.L.Law.answers law) (g.met.L.Law.one_answer law) (g.L.Law.bound law) c.args.most
          (g.S.Squares.content c.args.squares.now c.args.id) (few g (goal.at.returns-clause-refusals g c).After-deref-2)
          (none g (goal.at.returns-clause-refusals g c).After-deref-2) f
          (r _ (sorted g (goal.at.returns-clause-refusals g c).After-deref-2)))
    ]) c.next_square.ensures.refusals

pub returns-clause-needed : goal.returns-clause-needed
returns-clause-needed g c full = c.next_square.ensures.needed full _ (sorted g (goal.at.returns-clause-needed g c).After-deref-2)

pub returns-clause-adds : goal.returns-clause-adds
returns-clause-adds g c = adds-as _ c.next_square.ensures.adds (λ P some. some _ (sorted g (goal.at.returns-clause-adds g c).After-deref-2))
