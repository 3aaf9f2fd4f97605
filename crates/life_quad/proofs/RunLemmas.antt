-- Facts about runs of cells on the plane.
use Rattle.std.proofs.Common.{◌≡◌, ℕ, ◌+◌, ◌-◌, ◌^◌, ◌≤◌, ◌<◌, Bool, true, false, ℤ, pos, neg_ℤ, ◌+ℤ◌, ◌≤ℤ◌, ◌<ℤ◌, refl, sym, ◌∙◌, ap, subst, arith, if◌then◌else◌}
use Rattle.std.proofs.lemmas.Int.{ints}
use Rattle.life_base.specs.declared.cell.Run.{Run}
use Rattle.life_base.specs.Tree.{Tree, depth, state_at, half_side, tree_cell as cell}
use Rattle.life_base.proofs.Squares.{is_inside, inside_offset, inside_facts, inside_test, cell_inside, cell_outside}
use Rattle.life_base.proofs.Spans.{span_from_run, run_from_span}
use Rattle.life_base.proofs.Basics.{halves}
use Rattle.life_quad.specs.Cells.{IsInRun, IsRunInside, SetsRun}
use Rattle.life_quad.specs.declared.runs.RowSpan.{RowSpan}
use Rattle.life_quad.specs.Span.{SetsSpan}
use Rattle.life_quad.proofs.SpanLemmas.{is_within}

-- a span of columns sets a run of cells
pub SetsRun-span : (old new : Tree) (run : Run) (column row : ℕ) → 1 ≤ depth old → IsRunInside old run
    → pos column ≡ run.x +ℤ pos (half_side old) → pos row ≡ run.y +ℤ pos (half_side old)
    → SetsSpan old new (record { column = column; row = row; len = run.len; state = run.state }) → SetsRun old new run
SetsRun-span old new run column row high inside e f s =
    record { full = s.full; level = s.level; cells = in_run; others = out_of_run }
  where
    span : RowSpan
    span = record { column = column; row = row; len = run.len; state = run.state }

    h : ℕ
    h = half_side old

    same : half_side new ≡ half_side old
    same = ap (λ d. 2 ^ (d - 1)) s.level

    at : (i j : ℤ) (n m : ℕ) → is_inside h i j ≡ true → i +ℤ pos h ≡ pos n → j +ℤ pos h ≡ pos m → n < h + h → m < h + h
        → cell new i j ≡ (if is_within span n m then run.state else state_at old n m)
    at i j n m t p q a b =
        let w = halves (depth old) high in
        cell_inside new i j n m (ap (λ z. is_inside z i j) same ∙ t) (ap (λ z. i +ℤ pos z) same ∙ p) (ap (λ z. j +ℤ pos z) same ∙ q)
        ∙ s.cells n m (subst (λ z. n < z) w a) (subst (λ z. m < z) w b)

    in_run : (i j : ℤ) → IsInRun run.x run.y run.len i j → cell new i j ≡ run.state
    in_run i j r =
        let w : neg_ℤ (pos h) ≤ℤ i = omega (arith, ints, inside.west, r.from) in
        let u : i <ℤ pos h = omega (arith, ints, inside.east, r.to) in
        let v : neg_ℤ (pos h) ≤ℤ j = subst (λ z. neg_ℤ (pos h) ≤ℤ z) (sym r.same_row) inside.north in
        let z : j <ℤ pos h = subst (λ k. k <ℤ pos h) (sym r.same_row) inside.south in
        let a = inside_offset h i w u in
        let b = inside_offset h j v z in
        let t = span_from_run h run.x run.y i j column row run.len a.0 b.0 e f a.1 b.1 r.same_row r.from r.to in
        at i j a.0 b.0 (inside_test h i j (record { west = w; east = u; north = v; south = z })) a.1 b.1 a.2 b.2
        ∙ ap (λ c. if c then run.state else state_at old a.0 b.0) t

    out_of_run : (i j : ℤ) → ¬ IsInRun run.x run.y run.len i j → cell new i j ≡ cell old i j
    out_of_run i j r = by (is_inside h i j) refl
      where
        by : (c : Bool) → is_inside h i j ≡ c → cell new i j ≡ cell old i j
        by false t = cell_outside new i j (ap (λ z. is_inside z i j) same ∙ t) ∙ sym (cell_outside old i j t)
        by true t =
            let k = inside_facts h i j t in
            let a = inside_offset h i k.west k.east in
            let b = inside_offset h j k.north k.south in
            at i j a.0 b.0 t a.1 b.1 a.2 b.2 ∙ out (is_within span a.0 b.0) refl ∙ sym (cell_inside old i j a.0 b.0 t a.1 b.1)
          where
            n : ℕ
            n = (inside_offset h i (inside_facts h i j t).west (inside_facts h i j t).east).0

            m : ℕ
            m = (inside_offset h j (inside_facts h i j t).north (inside_facts h i j t).south).0

            p : i +ℤ pos h ≡ pos n
            p = (inside_offset h i (inside_facts h i j t).west (inside_facts h i j t).east).1

            q : j +ℤ pos h ≡ pos m
            q = (inside_offset h j (inside_facts h i j t).north (inside_facts h i j t).south).1

            out : (d : Bool) → is_within span n m ≡ d → (if is_within span n m then run.state else state_at old n m) ≡ state_at old n m
            out false g = ap (λ c. if c then run.state else state_at old n m) g
            out true g =
                let k = run_from_span h run.x run.y i j column row run.len n m e f p q g in absurd (r (record { same_row = k.0; from = k.1; to = k.2 }))
