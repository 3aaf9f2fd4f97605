-- The sorted cells of a square are what is left of the plane from its first place on.
use Rattle.std.proofs.Common.{◌≡◌, ◌≢◌, ℕ, suc, ◌-◌, ◌^◌, ◌≤◌, inl, inr, ℤ, pos, neg_ℤ, ◌≤ℤ◌, ◌<ℤ◌, List, [], ◌∷◌, get_or, refl, sym, ◌∙◌, ap, subst, arith, All, AllPairs, Contains}
use Rattle.std.proofs.lemmas.Int.{ints}
use Rattle.std.proofs.lemmas.Bool.Decides.{eqb_tells}
use Rattle.std.proofs.Math.Pow.{pow_mono}
use Rattle.std.proofs.lemmas.List.{get_or_default}
use Rattle.life_sweep.proofs.RowLemmas.{less-or-not}
use Rattle.life_base.specs.declared.cell.Cell.{Cell}
use Rattle.life_base.specs.declared.cell.TheConstants.{MAX_LEVEL}
use Rattle.life_base.specs.Tree.{Tree, depth, half_side, tree_cell}
use Rattle.life_quad.specs.Cells.{IsBefore, IsCellList}
use Rattle.life_quad.proofs.LawLemmas.{cells_lie_inside}
use Rattle.life_next.specs.Generation.{one_after}
use Rattle.life_sweep.specs.Rows.{IsRestOf, IsFrom, Precedes, IsInside, IsBlankBefore, first_coordinate}
use Rattle.life_base.proofs.Members.{in_cases, in_tail}

first-before : (cell d : Cell) (rest : List Cell) → AllPairs IsBefore (cell ∷ rest) → Contains rest d → IsBefore cell d
first-before cell d rest h (k, l, e) = subst (λ z. IsBefore cell z) e (h 0 (suc k) d (omega arith) (omega (arith, l)))

later-pairs : (cell : Cell) (rest : List Cell) → AllPairs IsBefore (cell ∷ rest) → AllPairs IsBefore rest
later-pairs cell rest h i j d l m = h (suc i) (suc j) d (omega (arith, l)) (omega (arith, m))

pub sorted-from : (f : ℤ → ℤ → ℕ) (x y : ℤ) (list : List Cell) → AllPairs IsBefore list
    → ((d : Cell) → Contains list d → (f d.x d.y ≡ d.state) × IsFrom x y d.x d.y)
    → ((c r : ℤ) → IsFrom x y c r → f c r ≢ 0 → Contains list (record { x = c; y = r; state = f c r }))
    → IsRestOf f x y list
sorted-from f x y [] pairs here all = λ c r p. elim (eqb_tells (f c r) 0) [ inl t ↦ t.1 | inr t ↦ (let h = all c r p t.1 in absurd (omega (arith, h.1))) ]
sorted-from f x y (cell ∷ rest) pairs here all = (
  first.1,
  gap,
  first.0,
  sorted-from f (one_after cell.x) cell.y rest (later-pairs cell rest pairs)
      (λ d h. ((here d (in_tail cell rest d h)).0, behind d (first-before cell d rest pairs h))) more,
)
  where
    first : (f cell.x cell.y ≡ cell.state) × IsFrom x y cell.x cell.y
    first = here cell (0, omega arith, refl)

    behind : (d : Cell) → IsBefore cell d → IsFrom (one_after cell.x) cell.y d.x d.y
    behind d (inl l) = inl l
    behind d (inr p) = inr (p.0, omega (arith, ints, p.1))

    clash : (c r : ℤ) → Precedes c r cell.x cell.y → (d : Cell) → d.x ≡ c → d.y ≡ r → IsBefore cell d → ⊥
    clash c r (inl l) d ex ey (inl m) = omega (arith, ints, l, m, ey)
    clash c r (inl l) d ex ey (inr m) = omega (arith, ints, l, m.0, ey)
    clash c r (inr l) d ex ey (inl m) = omega (arith, ints, l.0, m, ey)
    clash c r (inr l) d ex ey (inr m) = omega (arith, ints, l.1, m.1, ex)

    itself : (c r : ℤ) → Precedes c r cell.x cell.y → cell.x ≡ c → cell.y ≡ r → ⊥
    itself c r (inl l) ex ey = omega (arith, ints, l, ey)
    itself c r (inr l) ex ey = omega (arith, ints, l.1, ex)

    gap : (c r : ℤ) → IsFrom x y c r → Precedes c r cell.x cell.y → f c r ≡ 0
    gap c r p q = elim (eqb_tells (f c r) 0) [
      | inl t ↦ t.1
      | inr t ↦ elim (in_cases cell rest (record { x = c; y = r; state = f c r }) (all c r p t.1)) [
        | inl e ↦ absurd (itself c r q (ap (λ (z : Cell). z.x) e) (ap (λ (z : Cell). z.y) e))
        | inr h ↦ absurd (clash c r q (record { x = c; y = r; state = f c r }) refl refl
            (first-before cell (record { x = c; y = r; state = f c r }) rest pairs h))
      ]
    ]

    from-first : (c r : ℤ) → IsFrom (one_after cell.x) cell.y c r → IsFrom x y c r
    from-first c r (inl l) = elim first.1 [ inl m ↦ inl (omega (arith, ints, l, m)) | inr m ↦ inl (omega (arith, ints, l, m.0)) ]
    from-first c r (inr l) = elim first.1 [ inl m ↦ inl (omega (arith, ints, l.0, m)) | inr m ↦ inr (m.0 ∙ l.0, omega (arith, ints, l.1, m.1)) ]

    not-first : (c r : ℤ) → IsFrom (one_after cell.x) cell.y c r → cell.x ≡ c → cell.y ≡ r → ⊥
    not-first c r (inl l) ex ey = omega (arith, ints, l, ey)
    not-first c r (inr l) ex ey = omega (arith, ints, l.1, ex)

    more : (c r : ℤ) → IsFrom (one_after cell.x) cell.y c r → f c r ≢ 0 → Contains rest (record { x = c; y = r; state = f c r })
    more c r p n = elim (in_cases cell rest (record { x = c; y = r; state = f c r }) (all c r (from-first c r p) n)) [
      | inl e ↦ absurd (not-first c r p (ap (λ (z : Cell). z.x) e) (ap (λ (z : Cell). z.y) e))
      | inr h ↦ h
    ]

-- the cells of a square that aren't 0 are in the square
pub record Inside (h : ℕ) (x y : ℤ) : Type 0 where
  pub west : neg_ℤ (pos h) ≤ℤ x
  pub east : x <ℤ pos h
  pub north : neg_ℤ (pos h) ≤ℤ y
  pub south : y <ℤ pos h

pub nonzero-inside : (t : Tree) (x y : ℤ) → tree_cell t x y ≢ 0 → Inside (half_side t) x y
nonzero-inside t x y n = let i = cells_lie_inside t x y n in record { west = i.0; east = i.1; north = i.2; south = i.3 }

half-small : (k : ℕ) → k ≤ MAX_LEVEL → 2 ^ (k - 1) ≤ 2 ^ 61
half-small k l = pow_mono {i = k - 1} {j = 61} (omega (arith, l))

pub blank-before : (t : Tree) → depth t ≤ MAX_LEVEL → IsBlankBefore (tree_cell t)
blank-before t l = record {
  west = λ x y u. elim (eqb_tells (tree_cell t x y) 0)
      [ inl e ↦ e.1 | inr n ↦ (let i = nonzero-inside t x y n.1 in let s = half-small (depth t) l in absurd (omega (arith, ints, u, i.west, s))) ];
  north = λ x y u. elim (eqb_tells (tree_cell t x y) 0)
      [ inl e ↦ e.1 | inr n ↦ (let i = nonzero-inside t x y n.1 in let s = half-small (depth t) l in absurd (omega (arith, ints, u, i.north, s))) ];
}

pub cells-sorted : (t : Tree) (list : List Cell) → depth t ≤ MAX_LEVEL → IsCellList t list → IsRestOf (tree_cell t) first_coordinate first_coordinate list
cells-sorted t list l h = sorted-from (tree_cell t) first_coordinate first_coordinate list h.in_order
    (λ d c. let here = h.true_cells d c in let i = inside d here in (here.0, from d i))
    (λ c r p n. h.all_cells (record { x = c; y = r; state = tree_cell t c r }) refl n)
  where
    inside : (d : Cell) → (tree_cell t d.x d.y ≡ d.state) × (d.state ≢ 0) → Inside (half_side t) d.x d.y
    inside d e = nonzero-inside t d.x d.y (λ z. e.1 (sym e.0 ∙ z))

    from : (d : Cell) → Inside (half_side t) d.x d.y → IsFrom first_coordinate first_coordinate d.x d.y
    from d i = let s = half-small (depth t) l in
        elim (less-or-not first_coordinate d.y) [ inl u ↦ inl u | inr u ↦ inr (omega (arith, ints, u, i.north, s), omega (arith, ints, i.west, s)) ]

pub cells-inside : (t : Tree) (list : List Cell) → depth t ≤ MAX_LEVEL → IsCellList t list → All IsInside list
cells-inside t list l h k d m =
    let c = get_or list k d in
    let e = h.true_cells c (k, m, get_or_default list k c d m) in
    let i = nonzero-inside t c.x c.y (λ z. e.1 (sym e.0 ∙ z)) in
    let s = half-small (depth t) l in
    record {
      west = omega (arith, ints, i.west, s);
      east = omega (arith, ints, i.east, s);
      north = omega (arith, ints, i.north, s);
      south = omega (arith, ints, i.south, s);
    }
