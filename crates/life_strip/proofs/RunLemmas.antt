-- Facts about runs that go into the blocks of the row that was begun, while this row is apart from the plane.
use Rattle.std.proofs.Common.{◌≡◌, ℕ, ◌+◌, ◌≤◌, ◌<◌, false, ◌&&◌, nat_lt, nat_le, ◌⊎◌, List, [], ◌∷◌, ◌++◌, drop, drop-cons, suc, length, length-append, get_or, append_assoc, refl, sym, ◌∙◌, ap, subst, arith, pos, nat_abs, ◌+ℤ◌, if◌then◌else◌, unsigned_abs}
use Rattle.std.proofs.lemmas.Int.{ints}
use Rattle.life_base.specs.Tree.{Tree, state_at}
use Rattle.life_base.specs.declared.cell.Run.{Run}
use Rattle.life_base.proofs.Squares.{inside_offset, is_inside}
use Rattle.life_quad.specs.declared.id.Id.{Id}
use Rattle.life_quad.specs.Span.{is_in_span}
use Rattle.life_strip.specs.declared.open_blocks.OpenBlocks.{OpenBlocks}
use Rattle.life_strip.specs.declared.plane.Plane.{Plane}
use Rattle.life_strip.specs.declared.row.Row.{Row}
use Rattle.life_strip.specs.Blocks.{AddsCells, AreBlocksBefore, AreRowBlocks, cell_in_blocks}
use Rattle.life_strip.specs.Filling.{IsFilling}
use Rattle.life_strip.specs.Given.{AreNext, IsNextRunStart, IsRunOnPlane, by_columns, half_plane, state_by}
use Rattle.life_strip.specs.Needed.{SomeOfRuns, SomeSquare}
use Rattle.life_strip.specs.Open.{AreOpen, blocks_of}
use Rattle.life_strip.specs.Pile.{pile_height, pile_state_with}
use Rattle.life_strip.specs.Plane.{cell_so_far, state_so_far}
use Rattle.life_strip.specs.Row.{IsRow, IsRowBefore, row_state}
use Rattle.life_strip.specs.Strip.{AreBefore, AreWithin, IsStrip, Rise, square_at}
use Rattle.life_strip.proofs.FillingLemmas.{filling-push}
use Rattle.life_strip.proofs.PlaneLemmas.{AddsRun-span, below_run, adjacent_run}
use Rattle.life_strip.proofs.RowLemmas.{fills-blocks, with-filled}

-- ---- a row with the same blocks and spans in the place of the plane's

module _ (knows : Id → Type 0) (content : Id → Tree) (p : Plane) (row : Row) (blocks : row.blocks.items ≡ p.row.blocks.items)
    (spans : row.spans.items ≡ p.row.spans.items) where
  same-row : IsRow knows content p.row → IsRow knows content row
  same-row is = record {
    blocks = subst AreRowBlocks (sym blocks) is.blocks;
    squares = subst (IsStrip knows content 0) (sym spans) is.squares;
    within = subst (AreWithin 0) (sym spans) is.within;
    rises = subst Rise (sym spans) is.rises;
    one = subst (λ z. (z ≡ []) ⊎ (row.spans.items ≡ [])) (sym blocks) (subst (λ z. (p.row.blocks.items ≡ []) ⊎ (z ≡ [])) (sym spans) is.one);
  }

  same-before : (n : ℕ) → IsRowBefore n p.row → IsRowBefore n row
  same-before n is = record { blocks = subst (AreBlocksBefore n) (sym blocks) is.blocks; spans = subst (AreBefore n) (sym spans) is.spans }

  same-cells : (i j : ℕ) → pile_state_with content p.pile row i j ≡ pile_state_with content p.pile p.row i j
  same-cells i j =
      with-filled content p.pile.strips.items p.pile.band.items p.row row 0 0 0
      (λ c. (λ k. state_at (square_at content 0 (spans k) c) 0 0 + cell_in_blocks (blocks k) c)
      ∙ sym (ap (λ b. if b then 0 else row_state content p.row c) (none c))) i j
      ∙ ap (λ b. if b then 0 else pile_state_with content p.pile p.row i j) (nowhere (pile_height p.pile))
    where
      none : (c : ℕ) → (nat_le 0 c && nat_lt c (0 + 0)) ≡ false
      none c = grind arith

      nowhere : (tall : ℕ) → is_in_span 0 tall 0 i j ≡ false
      nowhere tall = grind arith

  pub filling-row : (runs : List Run) → IsFilling knows content (record { runs = runs; kept = p })
      → IsFilling knows content (record { runs = runs; kept = record p { row = row } })
  filling-row runs h = record {
    filled = record { pile = h.filled.pile; row = same-row h.filled.row; rows = h.filled.rows; most = h.filled.most };
    cells = λ x y. (λ k. if is_inside half_plane x y then same-cells (unsigned_abs (x +ℤ pos half_plane)) (unsigned_abs (y +ℤ pos half_plane)) k else 0)
        ∙ h.cells x y;
    order = h.order;
    next = λ x y north start. let free = h.next x y north start in record { row = free.row; column = λ e n at. same-before n (free.column e n at) };
  }

-- ---- a run of that row more

module _ (knows : Id → Type 0) (content : Id → Tree) (p : Plane) (old new : Row) (runs : List Run) (run : Run)
    (filling : IsFilling knows content (record { runs = runs; kept = record p { row = old } })) (inside : IsRunOnPlane run.x run.y run.len)
    (some : 1 ≤ run.len) (next : IsNextRunStart runs run.x run.y) (here : run.y +ℤ pos half_plane ≡ pos p.rows) where
  -- no cell of the row is in its first column or after it
  pub free-blocks : (column : ℕ) → pos column ≡ run.x +ℤ pos half_plane → AreBlocksBefore column old.blocks.items
  free-blocks column e = ((filling.next run.x run.y inside.north next).column here column e).blocks

  module _ (none : old.spans.items ≡ []) (same : new.spans.items ≡ old.spans.items) (one : run.state ≡ 1)
      (adds : (column : ℕ) → pos column ≡ run.x +ℤ pos half_plane → AddsCells old.blocks.items new.blocks.items column (column + run.len)) where
    pub filling-more : IsFilling knows content (record { runs = runs ++ run ∷ []; kept = record p { row = new } })
    filling-more =
        let a = inside_offset half_plane run.x inside.west (omega (arith, ints, inside.east, some)) in
        let ex : pos a.0 ≡ run.x +ℤ pos half_plane = sym a.1 in
        let ey : pos p.rows ≡ run.y +ℤ pos half_plane = sym here in
        let added = adds a.0 ex in
        let was : Plane = record p { row = old } in
        let is : Plane = record p { row = new } in
        let fills = fills-blocks knows content old new a.0 (a.0 + run.len) run.state filling.filled.row none same one added.blocks added.before added.inside
        added.others in
        filling-push knows content is (cell_so_far content was) runs run filling.order next filling.cells
        (record { pile = filling.filled.pile; row = fills.row; rows = filling.filled.rows; most = filling.filled.most })
        (AddsRun-span (state_so_far content was) (state_so_far content is) run a.0 p.rows inside ex ey
        (λ i j. with-filled content p.pile.strips.items p.pile.band.items old new a.0 run.len run.state fills.states i j
        ∙ ap (λ tall. if is_in_span a.0 tall run.len i j then run.state else state_so_far content was i j) filling.filled.rows))
        (λ i j below. below_run is run.y i j p.rows ey refl below)
        (λ i adjacent. adjacent_run is run.x run.y i a.0 p.rows run.len ex ey refl fills.before adjacent)

-- ---- lists of runs

-- one run more of those that are left
pub left-more : (all so_far next runs : List Run) (i : ℕ) (d : Run) → i < length runs → so_far ++ drop i runs ≡ all → next ≡ so_far ++ get_or runs i d ∷ []
    → next ++ drop (i + 1) runs ≡ all
left-more all so_far next runs i d within e f =
    let same : i + 1 ≡ suc i = omega arith in
    (λ k. f k ++ drop (same k) runs) ∙ append_assoc so_far (get_or runs i d ∷ []) (drop (suc i) runs)
    ∙ ap (λ z. so_far ++ z) (sym (drop-cons runs i d within)) ∙ e

-- the first of further runs, and those after it
pub next-first : (so_far runs : List Run) (i : ℕ) (d : Run) → i < length runs → AreNext so_far (drop i runs)
    → AreNext so_far (get_or runs i d ∷ drop (suc i) runs)
next-first so_far runs i d within a = subst (AreNext so_far) (drop-cons runs i d within) a

pub next-more : (so_far next runs : List Run) (i : ℕ) (d : Run) → i < length runs → AreNext so_far (drop i runs)
    → next ≡ so_far ++ get_or runs i d ∷ [] → AreNext next (drop (i + 1) runs)
next-more so_far next runs i d within a f =
    let same : i + 1 ≡ suc i = omega arith in
    subst (λ n. AreNext next (drop n runs)) (sym same) (subst (λ z. AreNext z (drop (suc i) runs)) (sym f) (next-first so_far runs i d within a).3)

-- the square that a run needs is one of all the runs'
pub some-above : (P : Tree → Type 0) (all before behind : List Run) (run : Run) → before ++ run ∷ behind ≡ all
    → SomeSquare P (nat_abs (run.y +ℤ pos half_plane)) (by_columns (state_by before)) → SomeOfRuns P all
some-above P all before behind run e s = record { before = before; run = run; behind = behind; are = sym e; above = s }

-- ---- the row of blocks of which the last is apart

abbrev pub shut : (r : OpenBlocks) → AreOpen r → Row → Row
shut r is row = record row {
  blocks = record r.blocks {
    len = r.blocks.len + 1;
    items = blocks_of r;
    ok = (let n = length-append r.blocks.items (r.last ∷ []) in let ok = r.blocks.ok.0 in omega (arith, n, ok), let space = is.space in omega (arith, space));
  };
}
