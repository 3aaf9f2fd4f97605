-- Facts about three rows of a pattern, and the next generation of the rows before them.
use Rattle.std.proofs.Common.{◌≡◌, ℕ, zero, suc, ◌+◌, ◌-◌, ◌/◌, ◌%◌, ◌^◌, ◌<◌, ◌≤◌, ◌==◌, ◌⊎◌, inl, inr, Bool, true, false, if◌then◌else◌, ℤ, pos, negsuc, ◌+ℤ◌, ◌<ℤ◌, ◌≤ℤ◌, List, [], ◌∷◌, ◌++◌, length, get_or, All, refl, sym, ◌∙◌, ap, subst, arith}
use Rattle.std.proofs.lemmas.Bool.{cases_lt, eq-eqb, ne_eqb}
use Rattle.std.proofs.lemmas.Int.{ints, by_lt_z}
use Rattle.std.proofs.lemmas.List.{get_or_default}
use Rattle.std.proofs.lemmas.List.Elements.{All-tail}
use Rattle.std.proofs.lemmas.Nat.Bits.{bit_at-zero}
use Rattle.life_base.specs.Rules.{IsLifeRule, has_digit}
use Rattle.life_base.specs.Sets.{OuterTotalistic}
use Rattle.life_base.specs.Tree.{Tree}
use Rattle.life_base.specs.declared.cell.Run.{Run}
use Rattle.life_base.specs.declared.cell.TheConstants.{MAX_LEVEL}
use Rattle.life_base.proofs.Squares.{inside_facts, inside_offset, inside_test, is_inside}
use Rattle.life_next.proofs.NextLemmas.{next-zero}
use Rattle.life_quad.specs.Cells.{IsInRun}
use Rattle.life_quad.specs.declared.id.Id.{Id}
use Rattle.life_rows.specs.RowCells.{AreInner, AreWordsBefore, PutsCells, next_in_row}
use Rattle.life_rows.specs.Stepping.{AreCellsTo, KeepsThreeRows, HasRow, run_cells}
use Rattle.life_rows.proofs.AroundLemmas.{next-alike, next-blank, next-in_row}
use Rattle.life_strip.specs.Blocks.{cell_in_word}
use Rattle.life_strip.specs.Given.{AreInOrder, IsAfterRun, IsNextRunStart, IsRunOnPlane, half_plane, state_by}
use Rattle.life_strip.specs.Plane.{IsUnfilled, cell_so_far, on_plane, state_so_far}
use Rattle.life_strip.specs.Filling.{Building}
use Rattle.life_strip.specs.Row.{state_with_rows}
use Rattle.life_strip.specs.RowWords.{AreRowWords, IsFilledAbove, cell_in_words, cells_at_place}
use Rattle.life_strip.specs.declared.plane.Plane.{Plane}
use Rattle.life_strip.specs.declared.row_builder.RowWord.{RowWord}
use Rattle.life_strip.proofs.FillingLemmas.{empty-fills}
use Rattle.life_strip.proofs.GivenLemmas.{next-last, order-push, state_by-push}
use Rattle.life_strip.proofs.PlaneLemmas.{plane_inside, plane_outside}
use Rattle.life_strip.proofs.RowLemmas.{with-blank, with-none}
use Rattle.life_next.specs.Generation.{next_life, one_after, one_before}
use Rattle.life_rows.proofs.PutLemmas.{words-before_later}

-- ---- words

-- where no word is, there is no cell
no-word : (words : List RowWord) (place : ℕ) → All (λ w. ¬ (w.place ≡ place)) words → cells_at_place words place ≡ 0
no-word [] place none = refl
no-word (w ∷ rest) place none =
    ap (λ b. if b then w.cells else cells_at_place rest place) (ne_eqb w.place place (none 0 w (omega arith)))
    ∙ no-word rest place (All-tail (λ z. ¬ (z.place ≡ place)) w rest none)

no-cell : (words : List RowWord) (column : ℕ) → All (λ w. ¬ (w.place ≡ column / 64)) words → cell_in_words words column ≡ 0
no-cell words column none = ap (λ z. cell_in_word z (column % 64)) (no-word words (column / 64) none) ∙ bit_at-zero (63 - column % 64)

no-words : (words : List RowWord) (column : ℕ) → words ≡ [] → cell_in_words words column ≡ 0
no-words words column none = ap (λ z. cell_in_words z column) none ∙ bit_at-zero (63 - column % 64)

inner-west : (words : List RowWord) → AreInner words → (column : ℕ) → column < 64 → cell_in_words words column ≡ 0
inner-west words h column low = no-cell words column (λ k d lt e. let p = (h.inner k d lt).0 in omega (arith, p, e, low))

inner-east : (words : List RowWord) → AreInner words → (column : ℕ) → 2 ^ MAX_LEVEL ≤ column + 64 → cell_in_words words column ≡ 0
inner-east words h column high = no-cell words column (λ k d lt e. let p = (h.inner k d lt).1 in omega (arith, p, e, high))

pub inner-none : (words : List RowWord) → words ≡ [] → AreInner words
inner-none words none =
    let n : length words ≡ 0 = ap length none in
    record {
      are = record { within = λ k d lt. absurd (omega (arith, lt, n)); rise = λ i j d ij jl. absurd (omega (arith, jl, n)) };
      inner = λ k d lt. absurd (omega (arith, lt, n));
    }

-- no word is at an edge of the plane where the first and the last one aren't
pub inner-by_ends : (words : List RowWord) (d : RowWord) → AreRowWords words → 0 < (get_or words 0 d).place
    → (get_or words (length words - 1) d).place < 2 ^ (MAX_LEVEL - 6) - 1 → AreInner words
inner-by_ends words d are first last = record { are = are; inner = λ k e lt. (from k e lt, to k e lt) }
  where
    same : (k : ℕ) (e : RowWord) → k < length words → get_or words k e ≡ get_or words k d
    same k e lt = get_or_default words k e d lt

    from : (k : ℕ) (e : RowWord) → k < length words → 0 < (get_or words k e).place
    from zero e lt = subst (λ (w : RowWord). 0 < w.place) (sym (same 0 e lt)) first
    from (suc k) e lt = let rise = are.rise 0 (suc k) e (omega arith) lt in omega (arith, rise)

    to : (k : ℕ) (e : RowWord) → k < length words → suc (get_or words k e).place < 2 ^ (MAX_LEVEL - 6)
    to k e lt = elim (cases_lt k (length words - 1)) [
      | inl before ↦
          (let rise = are.rise k (length words - 1) e before (omega (arith, lt)) in
          let at_last = ap (λ (w : RowWord). w.place) (same (length words - 1) e (omega (arith, lt))) in
          omega (arith, rise, at_last, last))
      | inr beyond ↦
          (let at : k ≡ length words - 1 = omega (arith, beyond, lt) in
          let at_last = ap (λ (w : RowWord). w.place) (ap (λ n. get_or words n e) at ∙ same (length words - 1) e (omega (arith, lt))) in
          omega (arith, at_last, last))
    ]

-- ---- coordinates

sign : (z : ℤ) → (z <ℤ pos 0) ⊎ ((n : ℕ) × (z ≡ pos n))
sign (pos n) = inr (n, refl)
sign (negsuc n) = inl (omega (arith, ints))

-- one of three rows
at-three : {P : Type 0} (z : ℤ) (row : ℕ) → pos row ≤ℤ z → z ≤ℤ pos (row + 2) → (z ≡ pos row → P) → (z ≡ pos (row + 1) → P) → (z ≡ pos (row + 2) → P) → P
at-three z row low high first second third =
    by_lt_z z (pos (row + 1)) (λ l. first (omega (arith, ints, low, l)))
    (λ g. by_lt_z z (pos (row + 2)) (λ l. second (omega (arith, ints, g, l))) (λ h. third (omega (arith, ints, high, h))))

-- ---- the edges of a row

module _ (state : ℤ → ℤ → ℕ) (row last : ℕ) (words : List RowWord) (cells : AreCellsTo last state) (has : HasRow state row words) where
  row-none : words ≡ [] → (x y : ℤ) → y +ℤ pos half_plane ≡ pos row → state x y ≡ 0
  row-none none x y at = elim (sign (x +ℤ pos half_plane)) [
    | inl out ↦ cells.west x y out
    | inr p ↦ has.cells x y p.0 p.1 at ∙ no-words words p.0 none
  ]

  row-west : AreInner words → (x y : ℤ) → (x +ℤ pos half_plane) <ℤ pos 64 → y +ℤ pos half_plane ≡ pos row → state x y ≡ 0
  row-west inner x y low at = elim (sign (x +ℤ pos half_plane)) [
    | inl out ↦ cells.west x y out
    | inr p ↦ has.cells x y p.0 p.1 at ∙ inner-west words inner p.0 (let e = p.1 in omega (arith, ints, e, low))
  ]

  row-east : AreInner words → (x y : ℤ) → pos half_plane ≤ℤ (x +ℤ pos 64) → y +ℤ pos half_plane ≡ pos row → state x y ≡ 0
  row-east inner x y high at = elim (sign (x +ℤ pos half_plane)) [
    | inl out ↦ cells.west x y out
    | inr p ↦ has.cells x y p.0 p.1 at ∙ inner-east words inner p.0 (let e = p.1 in omega (arith, ints, e, high))
  ]

-- ---- three rows, and the next generation of the middle one

module _ (rule : OuterTotalistic) (quiet : has_digit rule.sets.births 0 ≡ false) (state : ℤ → ℤ → ℕ) (row : ℕ) (north here south : List RowWord)
    (cells : AreCellsTo (row + 2) state) (is_north : HasRow state row north) (is_here : HasRow state (row + 1) here) (is_south : HasRow state (row + 2) south)
    (north_inner : AreInner north) (here_inner : AreInner here) (south_inner : AreInner south) where
  west-three : (x y : ℤ) → pos row ≤ℤ (y +ℤ pos half_plane) → (y +ℤ pos half_plane) ≤ℤ pos (row + 2) → (x +ℤ pos half_plane) <ℤ pos 64 → state x y ≡ 0
  west-three x y low high west =
      at-three (y +ℤ pos half_plane) row low high (row-west state row (row + 2) north cells is_north north_inner x y west)
      (row-west state (row + 1) (row + 2) here cells is_here here_inner x y west) (row-west state (row + 2) (row + 2) south cells is_south south_inner x y west)

  east-three : (x y : ℤ) → pos row ≤ℤ (y +ℤ pos half_plane) → (y +ℤ pos half_plane) ≤ℤ pos (row + 2) → pos half_plane ≤ℤ (x +ℤ pos 64) → state x y ≡ 0
  east-three x y low high east =
      at-three (y +ℤ pos half_plane) row low high (row-east state row (row + 2) north cells is_north north_inner x y east)
      (row-east state (row + 1) (row + 2) here cells is_here here_inner x y east) (row-east state (row + 2) (row + 2) south cells is_south south_inner x y east)

  next-west : (x y : ℤ) → (x +ℤ pos half_plane) <ℤ pos 1 → y +ℤ pos half_plane ≡ pos (row + 1) → next_life rule state x y ≡ 0
  next-west x y west at =
      next-zero rule state x y quiet
      (λ u v a b c d. west-three u v (omega (arith, ints, at, c)) (omega (arith, ints, at, d)) (omega (arith, ints, west, b)))

  next-east : (x y : ℤ) → pos half_plane ≤ℤ x → y +ℤ pos half_plane ≡ pos (row + 1) → next_life rule state x y ≡ 0
  next-east x y east at =
      next-zero rule state x y quiet
      (λ u v a b c d. east-three u v (omega (arith, ints, at, c)) (omega (arith, ints, at, d)) (omega (arith, ints, east, a)))

  next-inside : (x y : ℤ) (west : ℕ) → x +ℤ pos half_plane ≡ pos (suc west) → y +ℤ pos half_plane ≡ pos (row + 1)
      → next_life rule state x y ≡ next_in_row rule (cell_in_words north) (cell_in_words here) (cell_in_words south) west
  next-inside x y west e at =
      let first : one_before y +ℤ pos half_plane ≡ pos row = omega (arith, ints, at) in
      let third : one_after y +ℤ pos half_plane ≡ pos (row + 2) = omega (arith, ints, at) in
      let left : one_before x +ℤ pos half_plane ≡ pos west = omega (arith, ints, e) in
      let right : one_after x +ℤ pos half_plane ≡ pos (west + 2) = omega (arith, ints, e) in
      next-in_row rule state x y (cell_in_words north) (cell_in_words here) (cell_in_words south) west
      (is_north.cells (one_before x) (one_before y) west left first) (is_north.cells x (one_before y) (suc west) e first)
      (is_north.cells (one_after x) (one_before y) (west + 2) right first) (is_here.cells (one_before x) y west left at)
      (is_here.cells x y (suc west) e at) (is_here.cells (one_after x) y (west + 2) right at)
      (is_south.cells (one_before x) (one_after y) west left third) (is_south.cells x (one_after y) (suc west) e third)
      (is_south.cells (one_after x) (one_after y) (west + 2) right third)

  module _ (next : List RowWord) (edge : cell_in_words next 0 ≡ 0)
      (inside : (west : ℕ) → cell_in_words next (suc west) ≡ next_in_row rule (cell_in_words north) (cell_in_words here) (cell_in_words south) west) where
    next-at : (x y : ℤ) (column : ℕ) → x +ℤ pos half_plane ≡ pos column → y +ℤ pos half_plane ≡ pos (row + 1)
        → cell_in_words next column ≡ next_life rule state x y
    next-at x y zero e at = edge ∙ sym (next-west x y (omega (arith, ints, e)) at)
    next-at x y (suc west) e at = inside west ∙ sym (next-inside x y west e at)

    -- a plane with that row more
    module _ (old new : ℕ → ℕ → ℕ) (more : (i j : ℕ) → new i j ≡ (if j == row + 1 then cell_in_words next i else old i j))
        (done : (x y : ℤ) → (y +ℤ pos half_plane) ≤ℤ pos row → on_plane old x y ≡ next_life rule state x y) (low : row + 1 < 2 ^ MAX_LEVEL) where
      earlier : (x y : ℤ) → (y +ℤ pos half_plane) <ℤ pos (row + 1) → (b : Bool) → is_inside half_plane x y ≡ b → on_plane new x y ≡ on_plane old x y
      earlier x y lt false t = plane_outside new x y t ∙ sym (plane_outside old x y t)
      earlier x y lt true t =
          let k = inside_facts half_plane x y t in
          let a = inside_offset half_plane x k.west k.east in
          let b = inside_offset half_plane y k.north k.south in
          let ne : ¬ (b.0 ≡ row + 1) = (λ e. let at = b.1 in omega (arith, ints, at, e, lt)) in
          plane_inside new x y a.0 b.0 t a.1 b.1 ∙ more a.0 b.0 ∙ ap (λ z. if z then cell_in_words next a.0 else old a.0 b.0) (ne_eqb b.0 (row + 1) ne)
          ∙ sym (plane_inside old x y a.0 b.0 t a.1 b.1)

      here-at : (x y : ℤ) → y +ℤ pos half_plane ≡ pos (row + 1) → (b : Bool) → is_inside half_plane x y ≡ b → on_plane new x y ≡ next_life rule state x y
      here-at x y at true t =
          let k = inside_facts half_plane x y t in
          let a = inside_offset half_plane x k.west k.east in
          plane_inside new x y a.0 (row + 1) t a.1 at ∙ more a.0 (row + 1)
          ∙ ap (λ z. if z then cell_in_words next a.0 else old a.0 (row + 1)) (eq-eqb (row + 1) (row + 1) refl) ∙ next-at x y a.0 a.1 at
      here-at x y at false t =
          plane_outside new x y t
          ∙ sym (by_lt_z (x +ℤ pos half_plane) (pos 0) (λ west. next-west x y (omega (arith, ints, west)) at)
          (λ west. by_lt_z x (pos half_plane)
          (λ east.
          let yes = inside_test half_plane x y
          (record { west = omega (arith, ints, west); east = east; north = omega (arith, ints, at); south = omega (arith, ints, at, low) }) in
          let no : false ≡ true = sym t ∙ yes in absurd cc)
          (λ east. next-east x y east at)))

      pub done-more : (x y : ℤ) → (y +ℤ pos half_plane) ≤ℤ pos (row + 1) → on_plane new x y ≡ next_life rule state x y
      done-more x y le =
          by_lt_z (y +ℤ pos half_plane) (pos (row + 1))
          (λ lt. earlier x y lt (is_inside half_plane x y) refl ∙ done x y (omega (arith, ints, lt)))
          (λ ge. here-at x y (omega (arith, ints, le, ge)) (is_inside half_plane x y) refl)

-- ---- where no cells follow

plane-blank : (plane : ℕ → ℕ → ℕ) (row : ℕ) → ((i j : ℕ) → row + 1 ≤ j → plane i j ≡ 0) → (x y : ℤ) → pos row <ℤ (y +ℤ pos half_plane)
    → on_plane plane x y ≡ 0
plane-blank plane row none x y after = by (is_inside half_plane x y) refl
  where
    by : (b : Bool) → is_inside half_plane x y ≡ b → on_plane plane x y ≡ 0
    by false t = plane_outside plane x y t
    by true t =
        let k = inside_facts half_plane x y t in
        let a = inside_offset half_plane x k.west k.east in
        let b = inside_offset half_plane y k.north k.south in
        plane_inside plane x y a.0 b.0 t a.1 b.1 ∙ none a.0 b.0 (let at = b.1 in omega (arith, ints, at, after))

-- a plane that has the next generation of all rows to one from which on there are no cells has the whole next generation
pub done-all : (rule : OuterTotalistic) (quiet : has_digit rule.sets.births 0 ≡ false) (state : ℤ → ℤ → ℕ) (row : ℕ) (plane : ℕ → ℕ → ℕ)
    → ((x y : ℤ) → pos row ≤ℤ (y +ℤ pos half_plane) → state x y ≡ 0) → ((i j : ℕ) → row + 1 ≤ j → plane i j ≡ 0)
    → ((x y : ℤ) → (y +ℤ pos half_plane) ≤ℤ pos row → on_plane plane x y ≡ next_life rule state x y)
    → (x y : ℤ) → on_plane plane x y ≡ next_life rule state x y
done-all rule quiet state row plane none blank done x y =
    by_lt_z (pos row) (y +ℤ pos half_plane) (λ after. plane-blank plane row blank x y after ∙ sym (next-blank rule state row quiet none x y after)) (done x y)

-- ---- a row ends

module _ (knows knows' : Id → Type 0) (content content' : Id → Tree) (rule : OuterTotalistic) (builder builder' : Plane) (north here south next : List RowWord)
    (row left : ℕ) (runs : List Run) (are : KeepsThreeRows knows content rule builder north here south row left runs) where
  pub rows-end : AreInner south → row + 1 < 2 ^ MAX_LEVEL → cell_in_words next 0 ≡ 0
      → ((west : ℕ) → cell_in_words next (suc west) ≡ next_in_row rule (cell_in_words north) (cell_in_words here) (cell_in_words south) west)
      → IsFilledAbove knows' content' (row + 1 + 1) builder'
      → ((i j : ℕ) → state_so_far content' builder' i j ≡ (if j == row + 1 then cell_in_words next i else state_so_far content builder i j))
      → KeepsThreeRows knows' content' rule builder' here south [] (row + 1) left runs
  rows-end south_inner low edge inside filled more = record {
    is_rule = are.is_rule;
    filled = filled;
    done = done-more rule are.is_rule.no_birth_on_zero (state_by runs) row north here south are.cells are.has_north are.has_here are.has_south are.north_inner
        are.here_inner south_inner next edge inside (state_so_far content builder) (state_so_far content' builder') more are.done low;
    cells = record {
      west = are.cells.west;
      east = are.cells.east;
      north = are.cells.north;
      south = λ x y after. are.cells.south x y (omega (arith, ints, after));
    };
    north_inner = are.here_inner;
    here_inner = south_inner;
    south_words = (inner-none [] refl).are;
    has_north = are.has_here;
    has_here = record { cells = λ x y column e at. are.has_south.cells x y column e (omega (arith, ints, at)) };
    has_south = record { cells = λ x y column e at. are.cells.south x y (omega (arith, ints, at)) ∙ sym (no-words [] column refl) };
    order = are.order;
    next = λ x y column start e at k d lt. absurd (omega (arith, lt));
    count = are.count;
  }

-- ---- rows without cells are skipped

module _ (knows : Id → Type 0) (content : Id → Tree) (rule : OuterTotalistic) (builder : Plane) (north here south : List RowWord)
    (row left : ℕ) (runs : List Run) (are : KeepsThreeRows knows content rule builder north here south row left runs) where
  filled-later : (later : ℕ) → row ≤ later → IsFilledAbove knows content (later + 1) builder
  filled-later later order = elim (cases_lt row later) [
    | inl lt ↦
        (let least = are.filled.least in
        record {
          filled = are.filled.filled;
          blank = λ i j le. are.filled.blank i j (omega (arith, le, lt));
          least = omega (arith, least, lt);
          free = λ e. absurd (omega (arith, least, e, lt));
        })
    | inr ge ↦ (let same : row + 1 ≡ later + 1 = omega (arith, ge, order) in subst (λ z. IsFilledAbove knows content z builder) same are.filled)
  ]

  module _ (no_north : north ≡ []) (no_here : here ≡ []) (no_south : south ≡ []) where
    blank-from : (x y : ℤ) → pos row ≤ℤ (y +ℤ pos half_plane) → state_by runs x y ≡ 0
    blank-from x y from =
        by_lt_z (pos (row + 2)) (y +ℤ pos half_plane) (are.cells.south x y)
        (λ to. at-three (y +ℤ pos half_plane) row from to (row-none (state_by runs) row (row + 2) north are.cells are.has_north no_north x y)
        (row-none (state_by runs) (row + 1) (row + 2) here are.cells are.has_here no_here x y)
        (row-none (state_by runs) (row + 2) (row + 2) south are.cells are.has_south no_south x y))

    -- a row after the northern one has no cell
    row-blank : (other : ℕ) (words : List RowWord) → row ≤ other → words ≡ [] → HasRow (state_by runs) other words
    row-blank other words order none =
        record { cells = λ x y column e at. blank-from x y (omega (arith, ints, at, order)) ∙ sym (no-words words column none) }

    pub rows-skip : (later : ℕ) → row ≤ later → KeepsThreeRows knows content rule builder north here south later left runs
    rows-skip later order = record {
      is_rule = are.is_rule;
      filled = filled-later later order;
      done = λ x y le. done-all rule are.is_rule.no_birth_on_zero (state_by runs) row (state_so_far content builder) blank-from are.filled.blank are.done x y;
      cells = record {
        west = are.cells.west;
        east = are.cells.east;
        north = are.cells.north;
        south = λ x y after. blank-from x y (omega (arith, ints, after, order));
      };
      north_inner = are.north_inner;
      here_inner = are.here_inner;
      south_words = are.south_words;
      has_north = row-blank later north order no_north;
      has_here = row-blank (later + 1) here (omega (arith, order)) no_here;
      has_south = row-blank (later + 2) south (omega (arith, order)) no_south;
      order = are.order;
      next = λ x y column start e at k d lt. absurd (let n : length south ≡ 0 = ap length no_south in omega (arith, lt, n));
      count = are.count;
    }

-- ---- one run more

run_cells-push : (runs : List Run) (run : Run) → run_cells (runs ++ run ∷ []) ≡ run_cells runs + run.len
run_cells-push [] run = omega arith
run_cells-push (a ∷ runs) run = let e = run_cells-push runs run in omega (arith, e)

module _ (runs : List Run) (run : Run) (order : AreInOrder runs) (next : IsNextRunStart runs run.x run.y) where
  state-in : (x y : ℤ) → IsInRun run.x run.y run.len x y → state_by (runs ++ run ∷ []) x y ≡ run.state
  state-in x y h =
      sym (state_by-push runs run x y (state_by runs x y) run.state order next refl (λ k. refl) (λ out. absurd (out h)))

  state-out : (x y : ℤ) → ¬ IsInRun run.x run.y run.len x y → state_by (runs ++ run ∷ []) x y ≡ state_by runs x y
  state-out x y out =
      sym (state_by-push runs run x y (state_by runs x y) (state_by runs x y) order next refl (λ h. absurd (out h)) (λ k. refl))

module _ (knows : Id → Type 0) (content : Id → Tree) (rule : OuterTotalistic) (builder : Plane) (north here south new : List RowWord)
    (row left start : ℕ) (runs : List Run) (run : Run) (are : KeepsThreeRows knows content rule builder north here south row left runs) (one : run.state ≡ 1)
    (few : run.len ≤ left) (inside : IsRunOnPlane run.x run.y run.len) (next : IsNextRunStart runs run.x run.y)
    (in_row : run.y +ℤ pos half_plane ≡ pos (row + 2)) (from : run.x +ℤ pos half_plane ≡ pos start) (puts : PutsCells south new start (start + run.len)) where
  abbrev more : List Run
  more = runs ++ run ∷ []

  -- a cell in another row keeps its state
  other-row : (x y : ℤ) → ¬ (y +ℤ pos half_plane ≡ pos (row + 2)) → state_by more x y ≡ state_by runs x y
  other-row x y other = state-out runs run are.order next x y (λ h. other (let e = h.same_row in omega (arith, ints, e, in_row)))

  has-more : (other : ℕ) (words : List RowWord) → other < row + 2 → HasRow (state_by runs) other words → HasRow (state_by more) other words
  has-more other words lt has =
      record { cells = λ x y column e at. other-row x y (λ z. omega (arith, ints, at, z, lt)) ∙ has.cells x y column e at }

  south-more : (x y : ℤ) (column : ℕ) → x +ℤ pos half_plane ≡ pos column → y +ℤ pos half_plane ≡ pos (row + 2) → state_by more x y ≡ cell_in_words new column
  south-more x y column e at = elim (cases_lt column start) [
    | inl west ↦ outside (λ p. let q = p.0 in omega (arith, q, west))
    | inr le ↦ elim (cases_lt column (start + run.len)) [
      | inl lt ↦ state-in runs run are.order next x y
          (record { same_row = omega (arith, ints, at, in_row); from = omega (arith, ints, e, from, le); to = omega (arith, ints, e, from, lt) })
          ∙ one ∙ sym (puts.inside column le lt)
      | inr east ↦ outside (λ p. let q = p.1 in omega (arith, q, east))
    ]
  ]
    where
      outside : ¬ ((start ≤ column) × (column < start + run.len)) → state_by more x y ≡ cell_in_words new column
      outside out =
          state-out runs run are.order next x y
          (λ h. out (let west = h.from in omega (arith, ints, west, e, from), let east = h.to in omega (arith, ints, east, e, from)))
          ∙ are.has_south.cells x y column e at ∙ sym (puts.others column out)

  next-more : (x y : ℤ) (column : ℕ) → IsNextRunStart more x y → x +ℤ pos half_plane ≡ pos column → y +ℤ pos half_plane ≡ pos (row + 2)
      → AreWordsBefore column new
  next-more x y column starts e at = by (next-last runs run x y starts)
    where
      by : IsAfterRun run x y → AreWordsBefore column new
      by (inl below) = absurd (omega (arith, ints, below, at, in_row))
      by (inr (same, east)) = words-before_later new (start + run.len) column (omega (arith, ints, east, e, from)) puts.before

  pub rows-push : KeepsThreeRows knows content rule builder north here new row (left - run.len) more
  rows-push = record {
    is_rule = are.is_rule;
    filled = are.filled;
    done = λ x y le. are.done x y le
        ∙ next-alike rule (state_by runs) (state_by more) x y
        (λ u v below. sym (other-row u v (λ at. omega (arith, ints, at, le, below))));
    cells = record {
      west = λ x y out. state-out runs run are.order next x y (λ h. let p = h.from in let w = inside.west in omega (arith, ints, p, w, out))
          ∙ are.cells.west x y out;
      east = λ x y out. state-out runs run are.order next x y (λ h. let p = h.to in let e = inside.east in omega (arith, ints, p, e, out))
          ∙ are.cells.east x y out;
      north = λ x y out. other-row x y (λ at. omega (arith, ints, at, out)) ∙ are.cells.north x y out;
      south = λ x y out. other-row x y (λ at. omega (arith, ints, at, out)) ∙ are.cells.south x y out;
    };
    north_inner = are.north_inner;
    here_inner = are.here_inner;
    south_words = puts.words;
    has_north = has-more row north (omega arith) are.has_north;
    has_here = has-more (row + 1) here (omega arith) are.has_here;
    has_south = record { cells = south-more };
    order = order-push runs run are.order next;
    next = next-more;
    count = let e = run_cells-push runs run in let h = are.count in omega (arith, e, h, few);
  }

-- ---- the same by equal parts

module _ (knows : Id → Type 0) (content : Id → Tree) {rule rule' : OuterTotalistic} {builder builder' : Plane}
    {north north' here here' south south' : List RowWord} {row row' left left' : ℕ} {runs runs' : List Run} where
  pub rows-same : rule' ≡ rule → builder' ≡ builder → north' ≡ north → here' ≡ here → south' ≡ south → row' ≡ row → left' ≡ left → runs' ≡ runs
      → KeepsThreeRows knows content rule builder north here south row left runs
      → KeepsThreeRows knows content rule' builder' north' here' south' row' left' runs'
  rows-same a b c d e f g h are =
      let all : KeepsThreeRows knows content rule builder north here south row left runs
      ≡ KeepsThreeRows knows content rule' builder' north' here' south' row' left' runs' =
      (λ i. KeepsThreeRows knows content (sym a i) (sym b i) (sym c i) (sym d i) (sym e i) (sym f i) (sym g i) (sym h i)) in
      subst (λ (X : Type 0). X) all are

-- ---- no run

unfilled-state : (content : Id → Tree) (p : Plane) (i j : ℕ) → IsUnfilled p → state_so_far content p i j ≡ 0
unfilled-state content p i j h =
    (λ k. state_with_rows content (h.strips k) (h.band k ++ p.row ∷ []) i j)
    ∙ with-blank content [] [] p.row h.blocks h.spans i j ∙ with-none content [] i j

pub rows-new : (knows : Id → Type 0) (content : Id → Tree) (rule : OuterTotalistic) (builder : Plane) (north here south : List RowWord) (runs : List Run)
    → IsLifeRule rule → IsUnfilled builder → north ≡ [] → here ≡ [] → south ≡ [] → runs ≡ []
    → KeepsThreeRows knows content rule builder north here south 0 (2 ^ 20) runs
rows-new knows content rule builder north here south runs is_rule empty no_north no_here no_south no_runs =
    let given : Building = record { runs = []; kept = builder } in
    let filled = empty-fills (Unit {0}) (λ _. knows) (λ _. content) tt given (record { runs = refl; kept = empty }) in
    let none : (x y : ℤ) → state_by runs x y ≡ 0 = (λ x y. ap (λ z. state_by z x y) no_runs) in
    let has : (row : ℕ) (words : List RowWord) → words ≡ [] → HasRow (state_by runs) row words
    = (λ row words no. record { cells = λ x y column e at. none x y ∙ sym (no-words words column no) }) in
    let n : length runs ≡ 0 = ap length no_runs in
    record {
      is_rule = is_rule;
      filled = record {
        filled = filled.filled;
        blank = λ i j le. unfilled-state content builder i j empty;
        least = let e = empty.rows in omega (arith, e);
        free = λ e. absurd (let z = empty.rows in omega (arith, e, z));
      };
      done = λ x y le. filled.cells x y ∙ sym (next-zero rule (state_by runs) x y is_rule.no_birth_on_zero (λ u v a b c d. none u v));
      cells = record { west = λ x y out. none x y; east = λ x y out. none x y; north = λ x y out. none x y; south = λ x y out. none x y };
      north_inner = inner-none north no_north;
      here_inner = inner-none here no_here;
      south_words = (inner-none south no_south).are;
      has_north = has 0 north no_north;
      has_here = has (0 + 1) here no_here;
      has_south = has (0 + 2) south no_south;
      order = λ i j d ij jl. absurd (omega (arith, jl, n));
      next = λ x y column start e at k d lt. absurd (let m : length south ≡ 0 = ap length no_south in omega (arith, lt, m));
      count = ap (λ z. run_cells z + 2 ^ 20) no_runs ∙ (let e : 0 + 2 ^ 20 ≡ 2 ^ 20 = omega arith in e);
    }

-- ---- three rows have ended since the last run

module _ (knows : Id → Type 0) (content : Id → Tree) (rule : OuterTotalistic) (builder : Plane) (north here south : List RowWord) (row left : ℕ)
    (runs : List Run) (are : KeepsThreeRows knows content rule builder north here south row left runs) where
  pub rows-all : AreCellsTo (row - 1) (state_by runs) → 1 ≤ row → (x y : ℤ) → cell_so_far content builder x y ≡ next_life rule (state_by runs) x y
  rows-all cells some =
      done-all rule are.is_rule.no_birth_on_zero (state_by runs) row (state_so_far content builder)
      (λ x y from. cells.south x y (omega (arith, ints, from, some))) are.filled.blank are.done
