-- Facts about the cells of the plane as far as it is filled.
use Rattle.std.proofs.Common.{◌≡◌, ℕ, ◌+◌, ◌≤◌, Bool, true, false, [], ◌∷◌, ◌++◌, get_or, refl, sym, ◌∙◌, ap, arith, ℤ, pos, ◌+ℤ◌, ◌≤ℤ◌, ◌<ℤ◌, w64, to_z, of_z, if◌then◌else◌, unsigned_abs}
use Rattle.std.proofs.lemmas.List.Elements.{All-push}
use Rattle.std.proofs.lemmas.Int.{ints}
use Rattle.life_base.specs.Tree.{Tree}
use Rattle.life_quad.specs.declared.id.Id.{Id}
use Rattle.life_quad.specs.Cells.{IsInRun}
use Rattle.life_quad.specs.Span.{is_in_span}
use Rattle.life_base.proofs.Spans.{span_from_run, run_from_span}
use Rattle.life_base.proofs.Squares.{Inside, is_inside, inside_offset, inside_facts, inside_test}
use Rattle.life_base.specs.declared.cell.Run.{Run}
use Rattle.life_strip.specs.declared.pile.Pile.{Pile}
use Rattle.life_strip.specs.declared.plane.Plane.{Plane}
use Rattle.life_strip.specs.Pile.{IsPile}
use Rattle.life_strip.specs.Given.{half_plane, IsRunOnPlane}
use Rattle.life_strip.specs.Plane.{on_plane, cell_so_far, IsFilled, IsFree, AddsRun}
use Rattle.life_strip.specs.Row.{IsRow, IsRowBefore}
use Rattle.life_strip.proofs.SpanLemmas.{Keeps}
use Rattle.life_strip.proofs.PictureLemmas.{all-keeps}
use Rattle.life_strip.proofs.RowLemmas.{row-keeps, row-later, with-keeps}

-- the column and the row of a run, which fit their types, by the numbers that the code adds
pub column_of_run : (run : Run) (column : ℕ) → IsRunOnPlane run.x run.y run.len → 1 ≤ run.len → pos column ≡ to_z w64 (of_z w64 run.x) +ℤ pos half_plane
    → pos column ≡ run.x +ℤ pos half_plane
column_of_run run column inside some e = omega (arith, ints, e, inside.west, inside.east, some)

pub row_of_run : (run : Run) (row : ℕ) → IsRunOnPlane run.x run.y run.len → pos row ≡ to_z w64 (of_z w64 run.y) +ℤ pos half_plane
    → pos row ≡ run.y +ℤ pos half_plane
row_of_run run row inside e = omega (arith, ints, e, inside.north, inside.south)

-- the cells of the row that is gone on with are before the run
pub next_ends : (b : Plane) (x y : ℤ) (column row : ℕ) → pos column ≡ x +ℤ pos half_plane → pos row ≡ y +ℤ pos half_plane → IsFree b x y → b.rows ≡ row
    → IsRowBefore column b.row
next_ends b x y column row e f next same = next.column (sym f ∙ ap pos (sym same)) column e

-- a cell below the run may come next
pub below_run : (b : Plane) (y i j : ℤ) (row : ℕ) → pos row ≡ y +ℤ pos half_plane → b.rows ≡ row → y <ℤ j → IsFree b i j
below_run b y i j row f same below =
    record { row = omega (arith, ints, f, same, below); column = λ h n p. absurd (omega (arith, ints, f, same, below, h)) }

-- and so may one east of it
pub adjacent_run : (b : Plane) (x y i : ℤ) (column row len : ℕ) → pos column ≡ x +ℤ pos half_plane → pos row ≡ y +ℤ pos half_plane → b.rows ≡ row
    → IsRowBefore (column + len) b.row → (x +ℤ pos len) ≤ℤ i → IsFree b i y
adjacent_run b x y i column row len e f same before adjacent = record {
  row = omega (arith, ints, f, same);
  column = λ h n p. row-later b.row (column + len) n (omega (arith, ints, e, p, adjacent)) before;
}

-- the state of a pair on the plane
pub plane_inside : (P : ℕ → ℕ → ℕ) (x y : ℤ) (n m : ℕ) → is_inside half_plane x y ≡ true → x +ℤ pos half_plane ≡ pos n → y +ℤ pos half_plane ≡ pos m
    → on_plane P x y ≡ P n m
plane_inside P x y n m i e f =
    ap (λ b. if b then P (unsigned_abs (x +ℤ pos half_plane)) (unsigned_abs (y +ℤ pos half_plane)) else 0) i
    ∙ (λ j. P (unsigned_abs (e j)) (unsigned_abs (f j)))

pub plane_outside : (P : ℕ → ℕ → ℕ) (x y : ℤ) → is_inside half_plane x y ≡ false → on_plane P x y ≡ 0
plane_outside P x y i = ap (λ b. if b then P (unsigned_abs (x +ℤ pos half_plane)) (unsigned_abs (y +ℤ pos half_plane)) else 0) i

-- a span of columns of the plane is a run of cells
pub AddsRun-span : (P Q : ℕ → ℕ → ℕ) (run : Run) (column row : ℕ) → IsRunOnPlane run.x run.y run.len
    → pos column ≡ run.x +ℤ pos half_plane → pos row ≡ run.y +ℤ pos half_plane
    → ((n m : ℕ) → Q n m ≡ (if is_in_span column row run.len n m then run.state else P n m)) → AddsRun (on_plane P) (on_plane Q) run
AddsRun-span P Q run column row inside e f cells = record { inside = in_run; others = out_of_run }
  where
    h : ℕ
    h = half_plane

    in_run : (i j : ℤ) → IsInRun run.x run.y run.len i j → on_plane Q i j ≡ run.state
    in_run i j r =
        let same = r.same_row in
        let on : Inside h i j = record {
          west = omega (arith, ints, inside.west, r.from);
          east = omega (arith, ints, inside.east, r.to);
          north = omega (arith, ints, inside.north, same);
          south = omega (arith, ints, inside.south, same);
        } in
        let a = inside_offset h i on.west on.east in
        let b = inside_offset h j on.north on.south in
        let t = span_from_run h run.x run.y i j column row run.len a.0 b.0 e f a.1 b.1 same r.from r.to in
        plane_inside Q i j a.0 b.0 (inside_test h i j on) a.1 b.1 ∙ cells a.0 b.0 ∙ ap (λ c. if c then run.state else P a.0 b.0) t

    out_of_run : (i j : ℤ) → ¬ IsInRun run.x run.y run.len i j → on_plane Q i j ≡ on_plane P i j
    out_of_run i j r = by (is_inside h i j) refl
      where
        by : (c : Bool) → is_inside h i j ≡ c → on_plane Q i j ≡ on_plane P i j
        by false t = plane_outside Q i j t ∙ sym (plane_outside P i j t)
        by true t =
            let k = inside_facts h i j t in
            let a = inside_offset h i k.west k.east in
            let b = inside_offset h j k.north k.south in
            plane_inside Q i j a.0 b.0 t a.1 b.1 ∙ cells a.0 b.0 ∙ out a.0 b.0 a.1 b.1 (is_in_span column row run.len a.0 b.0) refl
            ∙ sym (plane_inside P i j a.0 b.0 t a.1 b.1)
          where
            out : (n m : ℕ) → i +ℤ pos h ≡ pos n → j +ℤ pos h ≡ pos m → (d : Bool) → is_in_span column row run.len n m ≡ d
                → (if is_in_span column row run.len n m then run.state else P n m) ≡ P n m
            out n m p q false g = ap (λ c. if c then run.state else P n m) g
            out n m p q true g =
                let k = run_from_span h run.x run.y i j column row run.len n m e f p q g in absurd (r (record { same_row = k.0; from = k.1; to = k.2 }))

module _ {knows knows' : Id → Type 0} {old new : Id → Tree} (keeps : Keeps knows knows' old new) where
  -- the squares are there in a store that keeps its Ids
  pub pile-keeps : (pile : Pile) → IsPile knows old pile → IsPile knows' new pile
  pile-keeps pile h =
      record {
        strips = record {
          sound = all-keeps {knows = knows} {knows' = knows'} {old = old} {new = new} keeps pile.strips.items h.strips.sound;
          falling = h.strips.falling;
        };
        lowest = h.lowest;
        rows = λ k d lt.
            row-keeps {knows = knows} {knows' = knows'} {old = old} {new = new} keeps (get_or pile.band.items k d) (h.rows k d lt);
        few = h.few;
      }

  pub filled-keeps : (b : Plane) → IsFilled knows old b → IsFilled knows' new b
  filled-keeps b h =
      record {
        pile = pile-keeps b.pile h.pile;
        row = row-keeps {knows = knows} {knows' = knows'} {old = old} {new = new} keeps b.row h.row;
        rows = h.rows;
        most = h.most;
      }

  -- with the same cells
  pub cells-keep : (b : Plane) → IsFilled knows old b → (x y : ℤ) → cell_so_far new b x y ≡ cell_so_far old b x y
  cells-keep b h x y =
      let same = with-keeps {knows = knows} {knows' = knows'} {old = old} {new = new} keeps b.pile.strips.items (b.pile.band.items ++ b.row ∷ [])
      h.pile.strips.sound (All-push (IsRow knows old) b.pile.band.items b.row h.pile.rows h.row) in
      λ k. if is_inside half_plane x y then same (unsigned_abs (x +ℤ pos half_plane)) (unsigned_abs (y +ℤ pos half_plane)) k else 0
