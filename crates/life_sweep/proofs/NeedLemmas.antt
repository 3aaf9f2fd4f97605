-- The squares that a call stores, and those that a refused call lacked: of the runs that were drawn, and so of the next generation.
use Rattle.std.proofs.Common.{◌≡◌, ℕ, ◌<◌, Bool, true, false, inl, inr, ◌⊎◌, ℤ, pos, neg_ℤ, ◌+ℤ◌, ◌-ℤ◌, ◌<ℤ◌, ◌≤ℤ◌, List, [], ◌∷◌, ◌++◌, refl, sym, ◌∙◌, ap, subst, arith, nat_abs, Result, Err}
use Rattle.std.proofs.lemmas.Int.{ints}
use Rattle.life_base.specs.Tree.{Tree}
use Rattle.life_base.specs.Refusal.{fault_of}
use Rattle.life_base.specs.declared.fault.Fault.{Fault}
use Rattle.life_base.specs.declared.kind.Kind.{Kind}
use Rattle.life_base.specs.declared.kind.Kind.TheVariants.{Full, Ambiguous}
use Rattle.life_base.proofs.Squares.{is_inside, inside_facts}
use Rattle.life_quad.specs.Cells.{IsInRun}
use Rattle.life_quad.specs.declared.id.Id.{Id}
use Rattle.life_strip.specs.Filling.{Building, IsFilling}
use Rattle.life_strip.specs.Given.{AreInOrder, IsRunOnPlane, state_by, by_columns, half_plane}
use Rattle.life_strip.specs.Needed.{SomeSquare}
use Rattle.life_strip.specs.Plane.{state_so_far}
use Rattle.life_strip.proofs.NeededLemmas.{SomeSquare-within}
use Rattle.life_strip.proofs.PlaneLemmas.{plane_outside}
use Rattle.life_table.specs.Meaning.{Answer, Becomes}
use Rattle.life_base.specs.declared.cell.Run.{Run}
use Rattle.life_sweep.specs.Refused.{SomeAbove, SomeOfAll, SomeNext, above_cell, of_plane}
use Rattle.life_sweep.specs.RunBuilder.{IsOpenRun}
use Rattle.life_sweep.specs.Rows.{Precedes}
use Rattle.life_sweep.specs.Generation.{states_at}
use Rattle.life_sweep.specs.Sweep.{IsDrawnAt, IsSwept}
use Rattle.life_sweep.proofs.RunBuilderLemmas.{inside-last, outside-last}
use Rattle.life_sweep.proofs.RowLemmas.{less-or-not}

north : (row : ℕ) (y : ℤ) → neg_ℤ (pos half_plane) ≤ℤ y → row < nat_abs (y +ℤ pos half_plane) → (pos row -ℤ pos half_plane) <ℤ y
north row y on l = omega (arith, ints, on, l)

-- the same square of a plane with the same cells above a row of the plane
same-above : (P : Tree → Type 0) (f g : ℤ → ℤ → ℕ) (y : ℤ) → neg_ℤ (pos half_plane) ≤ℤ y → ((c r : ℤ) → r <ℤ y → f c r ≡ g c r)
    → SomeSquare P (nat_abs (y +ℤ pos half_plane)) (by_columns f) → SomeSquare P (nat_abs (y +ℤ pos half_plane)) (by_columns g)
same-above P f g y on same =
    SomeSquare-within (omega arith) (λ i j li lj. same (pos i -ℤ pos half_plane) (pos j -ℤ pos half_plane) (north j y on lj))

-- a run that can't be given is above none of the cells before it
pub open-needs : (P : Tree → Type 0) (runs : List Run) (run : Run) → AreInOrder runs → IsOpenRun runs run
    → SomeSquare P (nat_abs (run.y +ℤ pos half_plane)) (by_columns (state_by runs)) → SomeAbove P (runs ++ run ∷ [])
open-needs P runs run order opened s =
    let on = opened.inside in
    let some = opened.some_cell in
    let here : IsInRun run.x run.y run.len run.x run.y = record { same_row = refl; from = omega (arith, ints); to = omega (arith, ints, some) } in
    record {
      x = run.x;
      y = run.y;
      inside = record { west = on.west; east = omega (arith, ints, some, on.east); north = on.north; south = on.south };
      nonzero = λ e. opened.nonzero (sym (inside-last runs run run.x run.y order opened.next here) ∙ e);
      square = same-above P (state_by runs) (state_by (runs ++ run ∷ [])) run.y opened.inside.north
          (λ c r l. sym (outside-last runs run c r order opened.next (λ (i : IsInRun run.x run.y run.len c r). let e = i.same_row in
          omega (arith, ints, l, e)))) s;
    }

-- no cell outside the plane was given
pub none-outside : {knows : Id → Type 0} {content : Id → Tree} {b : Building} → IsFilling knows content b → (x y : ℤ) → ¬ (IsRunOnPlane x y 1)
    → state_by b.runs x y ≡ 0
none-outside {content = content} {b = b} filling x y outside = by (is_inside half_plane x y) refl
  where
    by : (c : Bool) → is_inside half_plane x y ≡ c → state_by b.runs x y ≡ 0
    by false e = sym (filling.cells x y) ∙ plane_outside (state_so_far content b.kept) x y e
    by true e =
        let i = inside_facts half_plane x y e in
        absurd (outside (record {
          west = omega (arith, ints, i.west);
          east = omega (arith, ints, i.east);
          north = omega (arith, ints, i.north);
          south = omega (arith, ints, i.south);
        }))

-- what was drawn is the next generation
pub drawn-needs : (P : Tree → Type 0) (A : List ℕ → Answer → Type 0) (cells : ℤ → ℤ → ℕ) (runs : List Run) (leaves : Bool) (s : SomeAbove P runs)
    → ((c r : ℤ) → (r <ℤ s.y) ⊎ ((c ≡ s.x) × (r ≡ s.y)) → IsDrawnAt A cells (state_by runs) leaves c r) → SomeNext P A cells
drawn-needs P A cells runs leaves s done =
    let here = done s.x s.y (inr (refl, refl)) in
    above_cell s.x s.y here.next (state_by runs) s.inside here.answer (λ e. s.nonzero (here.kept (inr s.inside) ∙ e))
    (λ x y on l. let d = done x y (inl l) in subst (λ n. A (states_at cells x y) (Becomes n)) (sym (d.kept (inr on))) d.answer) s.square

-- as far as it was drawn
pub swept-needs : (P : Tree → Type 0) (A : List ℕ → Answer → Type 0) (cells : ℤ → ℤ → ℕ) (runs : List Run) (leaves : Bool) (x y : ℤ)
    → IsSwept A cells (state_by runs) leaves x y → SomeAbove P runs → SomeNext P A cells
swept-needs P A cells runs leaves x y swept s = drawn-needs P A cells runs leaves s (λ c r h. swept.done c r (earlier c r h))
  where
    first : Precedes s.x s.y x y
    first = elim (less-or-not s.y y) [
      | inl l ↦ inl l
      | inr l ↦ elim (less-or-not y s.y) [
        | inl b ↦ absurd (s.nonzero (swept.clear s.x s.y (inl b)))
        | inr b ↦ elim (less-or-not s.x x) [
          | inl w ↦ inr (omega (arith, ints, l, b), w)
          | inr w ↦ absurd (s.nonzero (swept.clear s.x s.y (inr (omega (arith, ints, l, b), w))))
        ]
      ]
    ]

    earlier : (c r : ℤ) → (r <ℤ s.y) ⊎ ((c ≡ s.x) × (r ≡ s.y)) → Precedes c r x y
    earlier c r (inl l) = elim first [ inl m ↦ inl (omega (arith, ints, l, m)) | inr m ↦ let e = m.0 in inl (omega (arith, ints, l, e)) ]
    earlier c r (inr e) = let column = e.0 in let row = e.1 in elim first [
      | inl m ↦ inl (omega (arith, ints, row, m))
      | inr m ↦ let a = m.0 in let b = m.1 in inr (omega (arith, ints, row, a), omega (arith, ints, column, b))
    ]

-- the whole of it
pub all-needs : (P : Tree → Type 0) (A : List ℕ → Answer → Type 0) (cells : ℤ → ℤ → ℕ) (runs : List Run) (leaves : Bool) → leaves ≡ false
    → ((c r : ℤ) → IsDrawnAt A cells (state_by runs) leaves c r) → SomeAbove P runs ⊎ SomeOfAll P runs → SomeNext P A cells
all-needs P A cells runs leaves stay done (inl s) = drawn-needs P A cells runs leaves s (λ c r h. done c r)
all-needs P A cells runs leaves stay done (inr s) =
    of_plane (state_by runs) (λ x y. let d = done x y in subst (λ n. A (states_at cells x y) (Becomes n)) (sym (d.kept (inl stay))) d.answer) s.outside s.square

-- a full store is that whatever else is answered
err-is : {T : Type 0} (a b : Fault) → ◌≡◌ {A = Result T Fault} (Err a) (Err b) → a ≡ b
err-is a b e = cc

pub full-again : {T U : Type 0} (f : Fault) → ◌≡◌ {A = Result T Fault} (Err f) (Err (fault_of Full)) → ◌≡◌ {A = Result U Fault} (Err f) (Err (fault_of Full))
full-again f e = ap (λ (d : Fault). Err d) (err-is f (fault_of Full) e)

pub full-kind : {T U : Type 0} (k : Kind) → ◌≡◌ {A = Result T Fault} (Err (fault_of k)) (Err (fault_of Full)) → ◌≡◌ {A = Result U Kind} (Err k) (Err Full)
full-kind k e = ap (λ (d : Fault). Err d.kind) (err-is (fault_of k) (fault_of Full) e)

-- and that the law is ambiguous is none
pub not-full : {T : Type 0} {P : Type 0} (f : Fault) → f.kind ≡ Ambiguous → ◌≡◌ {A = Result T Fault} (Err f) (Err (fault_of Full)) → P
not-full f kind e = absurd (other (sym kind ∙ ap (λ (d : Fault). d.kind) (err-is f (fault_of Full) e)))
  where
    other : ◌≡◌ {A = Kind} Ambiguous Full → ⊥
    other k = cc

-- ---- what calls add
