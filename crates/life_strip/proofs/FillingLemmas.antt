-- Facts about a builder's runs in a store.
use Rattle.std.proofs.Common.{◌≡◌, ℕ, ◌+◌, ◌^◌, ◌≤◌, ◌<◌, inl, inr, Bool, true, false, List, [], ◌∷◌, ◌++◌, length, refl, sym, ◌∙◌, ap, subst, arith, ℤ, pos, ◌+ℤ◌, ◌≤ℤ◌, ◌<ℤ◌, if◌then◌else◌, unsigned_abs, ◌-ℤ◌}
use Rattle.std.proofs.lemmas.Int.{ints}
use Rattle.life_base.specs.declared.cell.TheConstants.{MAX_LEVEL}
use Rattle.life_base.specs.Tree.{Tree}
use Rattle.life_quad.specs.declared.id.Id.{Id}
use Rattle.life_base.proofs.Squares.{is_inside, inside_test}
use Rattle.life_base.specs.declared.cell.Run.{Run}
use Rattle.life_strip.specs.declared.plane.Plane.{Plane}
use Rattle.life_strip.specs.Blocks.{AreBlocksBefore}
use Rattle.life_strip.specs.Picture.{height}
use Rattle.life_strip.specs.Row.{state_with_rows}
use Rattle.life_strip.specs.Strip.{AreBefore}
use Rattle.life_strip.specs.Given.{IsAfterRun, IsNextRunStart, AreInOrder, state_by, by_columns, half_plane}
use Rattle.life_strip.specs.Needed.{SomeSquare}
use Rattle.life_strip.specs.Plane.{IsFilled, IsUnfilled, IsFree, AddsRun, state_so_far, cell_so_far, on_plane}
use Rattle.life_strip.specs.Filling.{Building, IsFilling, EmptyFills, FillingStays}
use Rattle.life_strip.proofs.RowLemmas.{blank-row, with-blank, with-none}
use Rattle.life_strip.proofs.NeededLemmas.{SomeSquare-within}
use Rattle.life_strip.proofs.PlaneLemmas.{plane_inside, filled-keeps, cells-keep}
use Rattle.life_strip.proofs.GivenLemmas.{order-push, next-last, state_by-push}

-- one run more
pub filling-push : (knows : Id → Type 0) (content : Id → Tree) (new : Plane) (before : ℤ → ℤ → ℕ) (runs : List Run) (run : Run) → AreInOrder runs
    → IsNextRunStart runs run.x run.y
    → ((x y : ℤ) → before x y ≡ state_by runs x y) → IsFilled knows content new → AddsRun before (cell_so_far content new) run
    → ((x y : ℤ) → run.y <ℤ y → IsFree new x y) → ((x : ℤ) → (run.x +ℤ pos run.len) ≤ℤ x → IsFree new x run.y)
    → IsFilling knows content (record { runs = runs ++ run ∷ []; kept = new })
filling-push knows content new before runs run order next cells filled adds below adjacent =
    record {
      filled = filled;
      cells = λ x y. state_by-push runs run x y (before x y) (cell_so_far content new x y) order next (cells x y) (adds.inside x y) (adds.others x y);
      order = order-push runs run order next;
      next = λ x y north h. free x y (next-last runs run x y h);
    }
  where
    free : (x y : ℤ) → IsAfterRun run x y → IsFree new x y
    free x y (inl h) = below x y h
    free x y (inr (e, h)) = subst (IsFree new x) e (adjacent x h)

-- a square of the plane is one of the runs'
needed-runs : {P : Tree → Type 0} (content : Id → Tree) (b : Building) (rows : ℕ) → rows ≤ 2 ^ MAX_LEVEL
    → ((x y : ℤ) → cell_so_far content b.kept x y ≡ state_by b.runs x y) → SomeSquare P rows (state_so_far content b.kept)
    → SomeSquare P rows (by_columns (state_by b.runs))
needed-runs content b rows most cells s = SomeSquare-within (omega arith) (λ i j li lj. at i j li (omega (arith, lj, most))) s
  where
    at : (i j : ℕ) → i < 2 ^ MAX_LEVEL → j < 2 ^ MAX_LEVEL → state_so_far content b.kept i j ≡ by_columns (state_by b.runs) i j
    at i j li lj =
        let x = pos i -ℤ pos half_plane in
        let y = pos j -ℤ pos half_plane in
        let inside : is_inside half_plane x y ≡ true = inside_test half_plane x y
        (record { west = omega (arith, ints); east = omega (arith, ints, li); north = omega (arith, ints); south = omega (arith, ints, lj) }) in
        let column : x +ℤ pos half_plane ≡ pos i = omega (arith, ints) in
        let row : y +ℤ pos half_plane ≡ pos j = omega (arith, ints) in
        sym (plane_inside (state_so_far content b.kept) x y i j inside column row) ∙ cells x y

-- the same by what contracts see of the builder
pub needed-seen : (knows : Id → Type 0) (content : Id → Tree) (inside seen : Building) (rows : ℕ) → rows ≤ 2 ^ MAX_LEVEL → inside ≡ seen
    → IsFilling knows content seen → (P : Tree → Type 0) → SomeSquare P rows (state_so_far content inside.kept)
    → SomeSquare P rows (by_columns (state_by seen.runs))
needed-seen knows content inside seen rows most same filling P s =
    let fill : IsFilling knows content inside = subst (IsFilling knows content) (sym same) filling in
    subst (λ (b : Building). SomeSquare P rows (by_columns (state_by b.runs))) same (needed-runs content inside rows most fill.cells s)

unfilled-filled : (knows : Id → Type 0) (content : Id → Tree) (p : Plane) → IsUnfilled p → IsFilled knows content p
unfilled-filled knows content p h =
    let none : length p.pile.strips.items ≡ 0 = ap length h.strips in
    let no_rows : length p.pile.band.items ≡ 0 = ap length h.band in
    record {
      pile = record {
        strips = record {
          sound = λ k d lt. absurd (omega (arith, lt, none));
          falling = λ i j d ij jl. absurd (omega (arith, jl, none));
        };
        lowest = λ k d lt. absurd (omega (arith, lt, none));
        rows = λ k d lt. absurd (omega (arith, lt, no_rows));
        few = omega (arith, no_rows);
      };
      row = blank-row knows content p.row h.blocks h.spans;
      rows = (λ k. height (h.strips k) + length (h.band k)) ∙ sym h.rows;
      most = let e = h.rows in omega (arith, e);
    }

unfilled-cells : (content : Id → Tree) (p : Plane) (x y : ℤ) → IsUnfilled p → cell_so_far content p x y ≡ 0
unfilled-cells content p x y h =
    (λ k. on_plane (state_with_rows content (h.strips k) (h.band k ++ p.row ∷ [])) x y)
    ∙ (λ k. if is_inside half_plane x y then blank (unsigned_abs (x +ℤ pos half_plane)) (unsigned_abs (y +ℤ pos half_plane)) k else 0)
    ∙ by (is_inside half_plane x y) 0
  where
    blank : (i j : ℕ) → state_with_rows content [] (p.row ∷ []) i j ≡ 0
    blank i j = with-blank content [] [] p.row h.blocks h.spans i j ∙ with-none content [] i j

    by : (b : Bool) (n : ℕ) → (if b then n else n) ≡ n
    by true n = refl
    by false n = refl

-- an empty builder fills any store
pub empty-fills : (X : Type 0) (knows : X → Id → Type 0) (content : X → Id → Tree) → EmptyFills X knows content
empty-fills X knows content store b h =
    let none : length b.runs ≡ 0 = ap length h.runs in
    record {
      filled = unfilled-filled (knows store) (content store) b.kept h.kept;
      cells = λ x y. unfilled-cells (content store) b.kept x y h.kept ∙ sym (ap (λ runs. state_by runs x y) h.runs);
      order = λ i j d ij jl. absurd (omega (arith, jl, none));
      next = λ x y north n. record {
        row = let e = h.kept.rows in omega (arith, ints, e, north);
        column = λ e n p. record {
          blocks = subst (AreBlocksBefore n) (sym h.kept.blocks) (λ k d lt. absurd (omega (arith, lt)));
          spans = subst (AreBefore n) (sym h.kept.spans) (λ k d lt. absurd (omega (arith, lt)));
        };
      };
    }

-- a builder fills a store that keeps its Ids
pub filling-stays : (X : Type 0) (knows : X → Id → Type 0) (content : X → Id → Tree) → FillingStays X knows content
filling-stays X knows content before after b keeps h =
    record {
      filled = filled-keeps {knows = knows before} {knows' = knows after} {old = content before} {new = content after} keeps b.kept h.filled;
      cells = λ x y. cells-keep {knows = knows before} {knows' = knows after} {old = content before} {new = content after} keeps b.kept h.filled x y
          ∙ h.cells x y;
      order = h.order;
      next = h.next;
    }
