-- The last row of a builder that was given runs has a cell, if that of its last run has.
use Rattle.std.proofs.Common.{◌≡◌, ℕ, ◌-◌, ◌^◌, ◌≤◌, ◌<◌, inl, inr, pos, neg_ℤ, ◌+ℤ◌, List, [], ◌∷◌, ◌++◌, length, length-append, Some, slice_get, get_or, refl, sym, ◌∙◌, ap, subst, arith}
use Rattle.std.proofs.lemmas.Bool.{cases_lt}
use Rattle.std.proofs.lemmas.Int.{ints}
use Rattle.std.proofs.lemmas.Option.{same_Some, slice_get-get_or}
use Rattle.life_base.specs.declared.cell.TheConstants.{MAX_LEVEL}
use Rattle.life_base.specs.declared.cell.Run.{Run}
use Rattle.life_base.specs.Tree.{Tree}
use Rattle.life_quad.specs.declared.id.Id.{Id}
use Rattle.life_strip.specs.Filling.{Building, IsFilling}
use Rattle.life_strip.specs.Given.{half_plane, state_by, IsAfterRun, IsNextRunStart}
use Rattle.life_strip.specs.Middle.{EndsInCell, EndsWithCell}
use Rattle.life_strip.specs.Plane.{cell_so_far, state_so_far}
use Rattle.life_strip.proofs.MiddlePlanes.{cell-at}
use Rattle.life_strip.proofs.MiddleConsumed.{with-beyond}

pub ends-in-cell : (knows : Id → Type 0) (content : Id → Tree) (b : Building) → IsFilling knows content b → EndsWithCell b.runs → EndsInCell content b.kept
ends-in-cell knows content b filling ends some = by b.runs refl
  where
    by : (runs : List Run) → b.runs ≡ runs → (column : ℕ) × (column < 2 ^ MAX_LEVEL) × ¬ (state_so_far content b.kept column b.kept.rows ≡ 0)
    by [] e =
        let next : IsNextRunStart b.runs (pos 0) (neg_ℤ (pos half_plane)) = subst (λ rs. IsNextRunStart rs (pos 0) (neg_ℤ (pos half_plane))) (sym e)
        (λ last at. absurd (cc)) in
        let free = (filling.next (pos 0) (neg_ℤ (pos half_plane)) (omega (arith, ints)) next).row in
        absurd (omega (arith, ints, free, some))
    by (run ∷ more) e = at (get_or (run ∷ more) (length (run ∷ more) - 1) run)
        (ap (λ rs. slice_get rs (length rs - 1)) e ∙ slice_get-get_or (run ∷ more) (length (run ∷ more) - 1) run (omega arith))
      where
        at : (last : Run) → slice_get b.runs (length b.runs - 1) ≡ Some last
            → (column : ℕ) × (column < 2 ^ MAX_LEVEL) × ¬ (state_so_far content b.kept column b.kept.rows ≡ 0)
        at last there =
            let end = ends last there in
            let c = cell-at (state_so_far content b.kept) end.0 last.y (λ z. end.1 (sym (filling.cells end.0 last.y) ∙ z)) in
            let r = c.is_row in
            let next : IsNextRunStart b.runs (last.x +ℤ pos last.len) last.y =
            (λ l found. let same : last ≡ l = same_Some _ _ (sym there ∙ found) in
            subst (λ (q : Run). IsAfterRun q (last.x +ℤ pos last.len) last.y) same (inr (refl, omega (arith, ints)))) in
            let free = (filling.next (last.x +ℤ pos last.len) last.y (omega (arith, ints, r)) next).row in
            let n = length-append b.kept.pile.band.items (b.kept.row ∷ []) in
            let h = filling.filled.rows in
            let most : c.row ≤ b.kept.rows = elim (cases_lt b.kept.rows c.row) [
              | inl lt ↦
                  absurd (c.live (with-beyond content b.kept.pile.strips.items (b.kept.pile.band.items ++ b.kept.row ∷ []) c.column c.row
                  (omega (arith, n, h, lt))))
              | inr le ↦ le
            ] in
            let same : c.row ≡ b.kept.rows = omega (arith, ints, r, free, most) in
            (c.column, c.east, λ z. c.live (ap (state_so_far content b.kept c.column) same ∙ z))

-- the same by what contracts see of the builder
pub ends-seen : (knows : Id → Type 0) (content : Id → Tree) (inside seen : Building) → inside ≡ seen → IsFilling knows content seen → EndsWithCell seen.runs
    → EndsInCell content inside.kept
ends-seen knows content inside seen same filling ends =
    ends-in-cell knows content inside (subst (IsFilling knows content) (sym same) filling) (subst (λ (b : Building). EndsWithCell b.runs) (sym same) ends)

-- the states that the runs give
pub states-seen : (knows : Id → Type 0) (content : Id → Tree) (inside seen : Building) → inside ≡ seen → IsFilling knows content seen
    → cell_so_far content inside.kept ≡ state_by seen.runs
states-seen knows content inside seen same filling =
    let fill = subst (IsFilling knows content) (sym same) filling in
    (λ k x y. fill.cells x y k) ∙ ap (λ (b : Building). state_by b.runs) same
