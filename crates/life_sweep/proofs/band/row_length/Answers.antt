use Rattle.std.proofs.Common.{◌≡◌, pos, ℕ, List, ◌<◌, ◌+◌, suc, length, take, get_or, sym, ◌∙◌, subst, refl, arith, w64, to_z, of_z, All, IsTrue, take_all}
use Rattle.std.proofs.lemmas.Int.{ints}
use Rattle.std.proofs.lemmas.List.{drop_all}
use Rattle.std.proofs.lemmas.List.Elements.{All-push}
use Rattle.std.proofs.Math.Seq.{take-suc}
use Rattle.life_base.specs.declared.cell.Cell.{Cell}
use Rattle.life_sweep.specs.Rows.{BeginsAt}
use Rattle.life_sweep.proofs.band.row_length.Goals as goal

next-take : (P : Cell → Type 0) (xs : List Cell) (i : ℕ) (d : Cell) → i < length xs → All P (take i xs) → P (get_or xs i d) → All P (take (suc i) xs)
next-take P xs i d l h p = subst (λ z. All P z) (sym (take-suc xs i d l)) (All-push P (take i xs) (get_or xs i d) h p)

pub loop-i-preserved : goal.loop-i-preserved
loop-i-preserved c =
    let P = λ (cell : Cell). cell.y ≡ to_z w64 (of_z w64 c.args.y) in
    let cells = c.args.cells.now in
    let e : suc c.loop-i.i ≡ c.loop-i.i + 1 = omega arith in
    let lt : c.loop-i.i < length cells = omega (arith, c.loop-i-test.true) in
    let yes = subst (λ b. IsTrue b) (sym c.if-not-is_in_row.false) refl in
    subst (λ n. All P (take n cells)) e
    (next-take P cells c.loop-i.i (record { x = pos 0; y = pos 0; state = 0 }) lt c.loop-i.invariant (c.is_in_row.ensures.0 yes))

pub returns-clause-row : goal.returns-clause-row
returns-clause-row c =
    let cells = c.args.cells.now in
    let n = length cells in
    let y = to_z w64 (of_z w64 c.args.y) in
    let same : y ≡ c.args.y = omega (arith, ints, c.ranges.y) in
    let all : take c.loop-i.i cells ≡ take n cells = take_all c.loop-i.i cells c.loop-i-test.false ∙ sym (take_all n cells (omega arith)) in
    let here : All (λ (cell : Cell). cell.y ≡ y) (take n cells) = subst (λ z. All (λ (cell : Cell). cell.y ≡ y) z) all c.loop-i.invariant in
    subst (λ z. All (λ (cell : Cell). cell.y ≡ z) (take n cells)) same here

pub returns-clause-rest : goal.returns-clause-rest
returns-clause-rest c =
    let cells = c.args.cells.now in
    subst (λ z. ¬ BeginsAt c.args.y z) (sym (drop_all (length cells) cells (omega arith))) (λ b. b)
