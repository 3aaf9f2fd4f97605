-- Runs that grow by one cell.
use Rattle.std.proofs.Common.{◌≡◌, ℕ, ◌+◌, inl, inr, ℤ, pos, ◌+ℤ◌, ◌<ℤ◌, List, [], ◌∷◌, ◌++◌, refl, sym, subst, arith, to_z, of_z, w64, IfSome, Option, Some}
use Rattle.std.proofs.lemmas.Int.{ints}
use Rattle.life_quad.specs.Cells.{IsInRun}
use Rattle.life_strip.specs.Given.{IsNextRunStart, IsAfterRun, AreInOrder, state_by}
use Rattle.life_strip.proofs.GivenLemmas.{runs_grow}
use Rattle.life_base.specs.declared.cell.Run.{Run}
use Rattle.life_sweep.specs.RunBuilder.{IsOpenRun, one_cell}

-- the state of a run of a list's end, and of other cells
pub inside-last : (runs : List Run) (run : Run) (x y : ℤ) → AreInOrder runs → IsNextRunStart runs run.x run.y → IsInRun run.x run.y run.len x y
    → state_by (runs ++ run ∷ []) x y ≡ run.state
inside-last runs run x y order next here = sym ((runs_grow runs run x y).1 order next run.state (λ _. refl) (λ out. absurd (out here)))

pub outside-last : (runs : List Run) (run : Run) (x y : ℤ) → AreInOrder runs → IsNextRunStart runs run.x run.y → ¬ (IsInRun run.x run.y run.len x y)
    → state_by (runs ++ run ∷ []) x y ≡ state_by runs x y
outside-last runs run x y order next out = sym ((runs_grow runs run x y).1 order next (state_by runs x y) (λ i. absurd (out i)) (λ _. refl))

-- a cell more
pub cell-here : (runs : List Run) (x y : ℤ) (state : ℕ) → AreInOrder runs → IsNextRunStart runs x y → state_by (runs ++ one_cell x y state ∷ []) x y ≡ state
cell-here runs x y state order next = inside-last runs (one_cell x y state) x y order next
    (record { same_row = refl; from = omega (arith, ints); to = omega (arith, ints) })

pub cell-others : (runs : List Run) (x y : ℤ) (state : ℕ) → AreInOrder runs → IsNextRunStart runs x y → (c r : ℤ) → (c ≡ x → r ≡ y → ⊥)
    → state_by (runs ++ one_cell x y state ∷ []) c r ≡ state_by runs c r
cell-others runs x y state order next c r ne =
    outside-last runs (one_cell x y state) c r order next (λ (i : IsInRun x y 1 c r). ne (omega (arith, ints, i.from, i.to)) i.same_row)

-- a run that is a cell longer
abbrev pub run_of : ℤ → ℤ → ℕ → ℕ → Run
run_of x y len state = record { x = x; y = y; len = len; state = state }

pub longer-here : (runs : List Run) (left y : ℤ) (len state : ℕ) (x : ℤ) → AreInOrder runs → IsNextRunStart runs left y → (left +ℤ pos len) ≡ x
    → state_by (runs ++ run_of left y (len + 1) state ∷ []) x y ≡ state
longer-here runs left y len state x order next e =
    inside-last runs (run_of left y (len + 1) state) x y order next (record { same_row = refl; from = omega (arith, ints, e); to = omega (arith, ints, e) })

pub longer-others : (runs : List Run) (left y : ℤ) (len state : ℕ) (x : ℤ) → AreInOrder runs → IsNextRunStart runs left y → (left +ℤ pos len) ≡ x → (c r : ℤ)
    → (c ≡ x → r ≡ y → ⊥)
    → state_by (runs ++ run_of left y (len + 1) state ∷ []) c r ≡ state_by (runs ++ run_of left y len state ∷ []) c r
longer-others runs left y len state x order next e c r ne =
    sym ((runs_grow runs (run_of left y (len + 1) state) c r).1 order next (state_by (runs ++ run_of left y len state ∷ []) c r) inside outside)
  where
    east : (c ≡ x → ⊥) → c <ℤ (left +ℤ pos (len + 1)) → c <ℤ (left +ℤ pos len)
    east n l = omega (arith, ints, n, l, e)

    inside : IsInRun left y (len + 1) c r → state_by (runs ++ run_of left y len state ∷ []) c r ≡ state
    inside i = inside-last runs (run_of left y len state) c r order next
        (record { same_row = i.same_row; from = i.from; to = east (λ k. ne k i.same_row) i.to })

    outside : ¬ (IsInRun left y (len + 1) c r) → state_by (runs ++ run_of left y len state ∷ []) c r ≡ state_by runs c r
    outside o = outside-last runs (run_of left y len state) c r order next
        (λ (i : IsInRun left y len c r). let to = i.to in o (record { same_row = i.same_row; from = i.from; to = omega (arith, ints, to) }))

pub longer-next : (runs : List Run) (left y : ℤ) (len state : ℕ) (x : ℤ) → (left +ℤ pos len) ≡ x → (c r : ℤ) → IsAfterRun (one_cell x y state) c r
    → IsNextRunStart (runs ++ run_of left y (len + 1) state ∷ []) c r
longer-next runs left y len state x e c r h =
    (runs_grow runs (run_of left y (len + 1) state) c r).0.1 (elim h [ inl l ↦ inl l | inr p ↦ inr (p.0, omega (arith, ints, p.1, e)) ])

-- ---- numbers as they are kept in 64 bits

abbrev pub kept : ℤ → ℤ
kept x = to_z w64 (of_z w64 x)

-- the cell is the one east of the run, and has its state
abbrev pub IsContinuedBy : Run → ℤ → ℤ → ℕ → Type 0
IsContinuedBy run x y state = (run.y ≡ y) × ((run.x +ℤ pos run.len) ≡ x) × (run.state ≡ state)

-- the open run is continued by a cell
pub record GoesOn (runs : List Run) (run : Run) (x y : ℤ) (state : ℕ) : Type 0 where
  pub opened : IsOpenRun runs run
  pub column : run.x ≡ kept run.x
  pub row : run.y ≡ kept run.y
  pub next : IsNextRunStart runs (kept run.x) (kept run.y)
  pub more : IsContinuedBy run x y state

pub goes-on : (runs : List Run) (unclosed : Option Run) (run : Run) (x y : ℤ) (state : ℕ) → unclosed ≡ Some run → IfSome unclosed (IsOpenRun runs)
    → kept x ≡ x → kept y ≡ y → IsContinuedBy run (kept x) (kept y) state → GoesOn runs run x y state
goes-on runs unclosed run x y state is open_run ax ay more =
    let opened : IsOpenRun runs run = subst (λ (o : Option Run). IfSome o (IsOpenRun runs)) is open_run in
    let ex : run.x ≡ kept run.x = omega (arith, ints, opened.inside.west, opened.inside.east) in
    let ey : run.y ≡ kept run.y = omega (arith, ints, opened.inside.north, opened.inside.south) in
    record {
      opened = opened;
      column = ex;
      row = ey;
      next = subst (λ z. IsNextRunStart runs z (kept run.y)) ex (subst (λ z. IsNextRunStart runs run.x z) ey opened.next);
      more = subst (λ z. IsContinuedBy run z y state) ax (subst (λ z. IsContinuedBy run (kept x) z state) ay more);
    }

-- a run is begun by a cell
pub next-kept : (runs there : List Run) (x y : ℤ) → x ≡ kept x → y ≡ kept y → runs ≡ there → IsNextRunStart there x y → IsNextRunStart runs (kept x) (kept y)
next-kept runs there x y ex ey e h =
    subst (λ (l : List Run). IsNextRunStart l (kept x) (kept y)) (sym e)
    (subst (λ z. IsNextRunStart there z (kept y)) ex (subst (λ z. IsNextRunStart there x z) ey h))
