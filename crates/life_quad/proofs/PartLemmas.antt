-- The four rows of a band of level 2, taken from its squares.
use Rattle.std.proofs.Common.{◌≡◌, ◌==◌, ℕ, ◌+◌, ◌-◌, ◌*◌, ◌/◌, ◌≤◌, ◌<◌, Bool, true, false, ◌&&◌, ℤ, pos, ◌+ℤ◌, List, [], ◌∷◌, ◌++◌, length, length-append, get_or, take, set, refl, sym, ◌∙◌, ap, arith, true≢false, if◌then◌else◌, append_assoc, append-nil}
use Rattle.std.specs.List.{flat_map}
use Rattle.std.proofs.lemmas.Int.{ints}
use Rattle.std.proofs.lemmas.Grind.{flat_map-append}
use Rattle.std.proofs.lemmas.Bool.Decides.{nat_tests}
use Rattle.std.proofs.lemmas.List.{map-append, length-map, flat_map_more, take-set, take_more_set}
use Rattle.life_base.specs.declared.cell.Cell.{Cell}
use Rattle.life_base.specs.Tree.{Tree, point, quad, depth, state_at, is_blank_tree, IsFull}
use Rattle.life_quad.specs.Cells.{population}
use Rattle.life_quad.specs.Bands.{Piece, piece_unless_blank, northern, southern, row_cells, band_cells, pair_of, row_states, live_cells, part_cells, IsBand, InBand, pieces}
use Rattle.life_quad.specs.declared.id.Id.{Id}
use Rattle.life_quad.specs.declared.listing.Placed.{Placed}
use Rattle.life_quad.proofs.CellListLemmas.{band_length, band_population, pieces_more}

abbrev piece : Tree → ℤ → Piece
piece t column = record { square = t; column = column }

-- a cell, unless its state is 0
abbrev one : ℤ → ℤ → ℕ → List Cell
one x y s = if s == 0 then [] else record { x = x; y = y; state = s } ∷ []

-- the quarters of one half of a piece, and of each of a band
abbrev quarters_at : Bool → ℕ → Piece → List Piece
quarters_at south half p = if south then southern half p.square p.column else northern half p.square p.column

abbrev half_band : Bool → ℕ → List Piece → List Piece
half_band south half band = flat_map (quarters_at south half) band

kept_cell : (x y : ℤ) (t : Tree) → depth t ≡ 0 → row_cells y (piece_unless_blank t x) ≡ one x y (state_at t 0 0)
kept_cell x y (point s) d = by (s == 0)
  where
    by : (b : Bool) → row_cells y (if b then [] else piece (point s) x ∷ []) ≡ (if b then [] else record { x = x; y = y; state = s } ∷ [])
    by true = refl
    by false = refl
kept_cell x y (quad a b c e) d = absurd (omega arith)

blank_cell : (x y : ℤ) (t : Tree) → depth t ≡ 0 → is_blank_tree t ≡ true → [] ≡ one x y (state_at t 0 0)
blank_cell x y (point s) d e = sym (ap (λ b. if b then [] else record { x = x; y = y; state = s } ∷ []) e)
blank_cell x y (quad a b c e) d f = absurd (omega arith)

kept_two : (x y : ℤ) (a b : Tree) → depth a ≡ 0 → depth b ≡ 0
    → row_cells y ((piece_unless_blank a x ++ piece_unless_blank b (x +ℤ pos 1)) ++ []) ≡ live_cells x y (state_at a 0 0 ∷ state_at b 0 0 ∷ [])
kept_two x y a b da db =
    ap (row_cells y) (append-nil (piece_unless_blank a x ++ piece_unless_blank b (x +ℤ pos 1)))
    ∙ map-append _ (piece_unless_blank a x) (piece_unless_blank b (x +ℤ pos 1))
    ∙ (λ i. kept_cell x y a da i ++ kept_cell (x +ℤ pos 1) y b db i) ∙ ap (λ l. one x y (state_at a 0 0) ++ l) (sym (append-nil _))

blank_two : (x y : ℤ) (a b : Tree) → depth a ≡ 0 → depth b ≡ 0 → is_blank_tree a ≡ true → is_blank_tree b ≡ true
    → [] ≡ live_cells x y (state_at a 0 0 ∷ state_at b 0 0 ∷ [])
blank_two x y a b da db ea eb = λ i. blank_cell x y a da ea i ++ (blank_cell (x +ℤ pos 1) y b db eb i ++ [])

all_four : (p q r s : Bool) → (p && q && r && s) ≡ true → (p ≡ true) × (q ≡ true) × (r ≡ true) × (s ≡ true)
all_four true true true true e = (refl, refl, refl, refl)
all_four true true true false e = absurd (true≢false (sym e))
all_four true true false s e = absurd (true≢false (sym e))
all_four true false r s e = absurd (true≢false (sym e))
all_four false q r s e = absurd (true≢false (sym e))

-- a row of a square of level 1, kept or not
pair_kept : (low : Bool) (x y : ℤ) (t : Tree) → IsFull t → depth t ≡ 1 → row_cells y (half_band low 1 (piece_unless_blank t x)) ≡ live_cells x y (pair_of low t)
pair_kept low x y (point s) f e = absurd (omega arith)
pair_kept low x y (quad a b c d) f e = by low (is_blank_tree a && is_blank_tree b && is_blank_tree c && is_blank_tree d) refl
  where
    da : depth a ≡ 0
    da = omega arith

    by : (l k : Bool) → (is_blank_tree a && is_blank_tree b && is_blank_tree c && is_blank_tree d) ≡ k
        → row_cells y (half_band l 1 (if k then [] else piece (quad a b c d) x ∷ [])) ≡ live_cells x y (pair_of l (quad a b c d))
    by false true h = let g = all_four (is_blank_tree a) (is_blank_tree b) (is_blank_tree c) (is_blank_tree d) h in blank_two x y a b da (f.4 ∙ da) g.0 g.1
    by false false h = kept_two x y a b da (f.4 ∙ da)
    by true true h =
        let g = all_four (is_blank_tree a) (is_blank_tree b) (is_blank_tree c) (is_blank_tree d) h in blank_two x y c d (f.5 ∙ da) (f.6 ∙ da) g.2 g.3
    by true false h = kept_two x y c d (f.5 ∙ da) (f.6 ∙ da)

-- the rows of bands one after the other
row_append : (low : Bool) (y : ℤ) (l m : List Piece)
    → row_cells y (half_band low 1 (l ++ m)) ≡ row_cells y (half_band low 1 l) ++ row_cells y (half_band low 1 m)
row_append low y l m = ap (row_cells y) (flat_map-append (quarters_at low 1) l m) ∙ map-append _ (half_band low 1 l) (half_band low 1 m)

live_two : (x y : ℤ) (s t : ℕ) (states : List ℕ) → live_cells x y (s ∷ t ∷ []) ++ live_cells (x +ℤ pos 2) y states ≡ live_cells x y (s ∷ t ∷ states)
live_two x y s t states =
    let next : x +ℤ pos 2 ≡ (x +ℤ pos 1) +ℤ pos 1 = omega (arith, ints) in
    joined (one x y s) (one (x +ℤ pos 1) y t) _ ∙ ap (λ z. one x y s ++ (one (x +ℤ pos 1) y t ++ live_cells z y states)) next
  where
    joined : (u v w : List Cell) → (u ++ (v ++ [])) ++ w ≡ u ++ (v ++ w)
    joined u v w = simp (append_assoc, append-nil)

live_pairs : (low : Bool) (x y : ℤ) (a : Tree) (states : List ℕ) → depth a ≡ 1
    → live_cells x y (pair_of low a) ++ live_cells (x +ℤ pos 2) y states ≡ live_cells x y (pair_of low a ++ states)
live_pairs low x y (point s) states d = absurd (omega arith)
live_pairs false x y (quad a b c e) states d = live_two x y (state_at a 0 0) (state_at b 0 0) states
live_pairs true x y (quad a b c e) states d = live_two x y (state_at c 0 0) (state_at e 0 0) states

two_pairs : (low : Bool) (x y : ℤ) (a b : Tree) → IsFull a → depth a ≡ 1 → IsFull b → depth b ≡ 1
    → row_cells y (half_band low 1 (piece_unless_blank a x ++ piece_unless_blank b (x +ℤ pos 2))) ≡ live_cells x y (pair_of low a ++ pair_of low b)
two_pairs low x y a b fa da fb db =
    row_append low y (piece_unless_blank a x) (piece_unless_blank b (x +ℤ pos 2)) ∙ (λ i. pair_kept low x y a fa da i ++ pair_kept low (x +ℤ pos 2) y b fb db i)
    ∙ live_pairs low x y a (pair_of low b) da

row_piece : (south low : Bool) (x y : ℤ) (t : Tree) → IsFull t → depth t ≡ 2
    → row_cells y (half_band low 1 (quarters_at south 2 (piece t x))) ≡ live_cells x y (row_states south low t)
row_piece south low x y (point s) f e = absurd (omega arith)
row_piece false low x y (quad a b c d) f e = let da : depth a ≡ 1 = omega arith in two_pairs low x y a b f.0 da f.1 (f.4 ∙ da)
row_piece true low x y (quad a b c d) f e = let da : depth a ≡ 1 = omega arith in two_pairs low x y c d f.2 (f.5 ∙ da) f.3 (f.6 ∙ da)

part_is : (south low : Bool) (y west : ℤ) (band : List Piece) → IsBand 2 west band
    → row_cells y (half_band low 1 (half_band south 2 band)) ≡ part_cells south low y band
part_is south low y west [] w = refl
part_is south low y west (p ∷ band) w =
    row_append low y (quarters_at south 2 p) (half_band south 2 band)
    ∙ (λ i. row_piece south low p.column y p.square w.0 w.1 i ++ part_is south low y (p.column +ℤ pos 4) band w.4 i)

four_parts : (row west : ℤ) (band : List Piece) → IsBand 2 west band
    → (part_cells false false row band ++ part_cells false true (row +ℤ pos 1) band)
    ++ (part_cells true false (row +ℤ pos 2) band ++ part_cells true true ((row +ℤ pos 2) +ℤ pos 1) band)
    ≡ band_cells 2 row band
four_parts row west band w =
    let row_at = λ (south low : Bool) (y : ℤ). sym (part_is south low y west band w) in
    λ i.
    (row_at false false row i ++ row_at false true (row +ℤ pos 1) i)
    ++ (row_at true false (row +ℤ pos 2) i ++ row_at true true ((row +ℤ pos 2) +ℤ pos 1) i)

-- four rows, one after the other, are the cells of the band
pub rows_are : (row r0 r1 r2 r3 : ℤ) (band : List Piece) (old first second third new : List Cell) → InBand 2 band
    → r0 ≡ row → r1 ≡ row +ℤ pos 1 → r2 ≡ row +ℤ pos 2 → r3 ≡ row +ℤ pos 3
    → first ≡ old ++ part_cells false false r0 band → second ≡ first ++ part_cells false true r1 band → third ≡ second ++ part_cells true false r2 band
    → new ≡ third ++ part_cells true true r3 band → new ≡ old ++ band_cells 2 row band
rows_are row r0 r1 r2 r3 band old first second third new (west, w) e0 e1 e2 e3 a b c d =
    let last : r3 ≡ (row +ℤ pos 2) +ℤ pos 1 = omega (arith, ints, e3) in
    d ∙ ap (λ l. l ++ part_cells true true r3 band) (c ∙ ap (λ l. l ++ part_cells true false r2 band) (b ∙ ap (λ l. l ++ part_cells false true r1 band) a))
    ∙ joined old _ _ _ _
    ∙ (λ i. old ++ ((part_cells false false (e0 i) band ++ part_cells false true (e1 i) band)
    ++ (part_cells true false (e2 i) band ++ part_cells true true (last i) band)))
    ∙ ap (λ l. old ++ l) (four_parts row west band w)
  where
    joined : (o u v w x : List Cell) → (((o ++ u) ++ v) ++ w) ++ x ≡ o ++ ((u ++ v) ++ (w ++ x))
    joined o u v w x = simp append_assoc

-- four states, one after the other
pub states_are : (x y x0 x1 x2 x3 y0 : ℤ) (a b c d : ℕ) (old first second third new : List Cell) → x0 ≡ x → x1 ≡ x +ℤ pos 1 → x2 ≡ x +ℤ pos 2 → x3 ≡ x +ℤ pos 3
    → y0 ≡ y → first ≡ old ++ live_cells x0 y0 (a ∷ []) → second ≡ first ++ live_cells x1 y0 (b ∷ []) → third ≡ second ++ live_cells x2 y0 (c ∷ [])
    → new ≡ third ++ live_cells x3 y0 (d ∷ []) → new ≡ old ++ live_cells x y (a ∷ b ∷ c ∷ d ∷ [])
states_are x y x0 x1 x2 x3 y0 a b c d old first second third new e0 e1 e2 e3 ey f g h k =
    let third_is : x2 ≡ (x +ℤ pos 1) +ℤ pos 1 = omega (arith, ints, e2) in
    let last_is : x3 ≡ ((x +ℤ pos 1) +ℤ pos 1) +ℤ pos 1 = omega (arith, ints, e3) in
    k ∙ ap (λ l. l ++ live_cells x3 y0 (d ∷ [])) (h ∙ ap (λ l. l ++ live_cells x2 y0 (c ∷ [])) (g ∙ ap (λ l. l ++ live_cells x1 y0 (b ∷ [])) f))
    ∙ joined old (one x0 y0 a) (one x1 y0 b) (one x2 y0 c) (one x3 y0 d)
    ∙ (λ i. old ++ (one (e0 i) (ey i) a ++ (one (e1 i) (ey i) b ++ (one (third_is i) (ey i) c ++ (one (last_is i) (ey i) d ++ [])))))
  where
    joined : (o u v w z : List Cell) → (((o ++ (u ++ [])) ++ (v ++ [])) ++ (w ++ [])) ++ (z ++ []) ≡ o ++ (u ++ (v ++ (w ++ (z ++ []))))
    joined o u v w z = simp (append_assoc, append-nil)

-- a cell of state 0 is not counted
pub gathered-none : (cells : List Cell) (count : ℕ) (cell : Cell) (x y : ℤ) (s : ℕ) → s ≡ 0
    → take count (set cells count cell) ≡ take count cells ++ live_cells x y (s ∷ [])
gathered-none cells count cell x y s zero_state =
    let e : (s == 0) ≡ true = grind (arith, nat_tests) in
    take-set cells count cell ∙ sym (append-nil (take count cells))
    ∙ sym (ap (λ b. take count cells ++ ((if b then [] else record { x = x; y = y; state = s } ∷ []) ++ [])) e)

-- and another one is
pub gathered-one : (cells : List Cell) (count : ℕ) (x y x0 y0 : ℤ) (s : ℕ) → x0 ≡ x → y0 ≡ y → (s ≡ 0 → ⊥) → count < length cells
    → take (count + 1) (set cells count (record { x = x0; y = y0; state = s })) ≡ take count cells ++ live_cells x y (s ∷ [])
gathered-one cells count x y x0 y0 s ex ey live inside =
    let e : (s == 0) ≡ false = grind (arith, nat_tests) in
    take_more_set cells count (record { x = x0; y = y0; state = s }) inside
    ∙ (λ i. take count cells ++ record { x = ex i; y = ey i; state = s } ∷ [])
    ∙ sym (ap (λ b. take count cells ++ ((if b then [] else record { x = x; y = y; state = s } ∷ []) ++ [])) e)

-- what was gathered, and the cells of one more square
pub gathered-more : (before list space gathered after live : List Cell) → list ++ space ≡ before → after ≡ space ++ live → gathered ≡ list ++ after
    → gathered ≡ before ++ live
gathered-more before list space gathered after live e f g = g ∙ ap (λ l. list ++ l) f ∙ sym (append_assoc list space live) ∙ ap (λ l. l ++ live) e

-- the cells of one more square, after those of the squares before it
pub part_more : (content : Id → Tree) (band : List Placed) (i : ℕ) (p : Placed) (lt : i < length band) (south low : Bool) (y x0 y0 : ℤ) (states : List ℕ)
    (old list new : List Cell) → x0 ≡ (get_or band i p).column → y0 ≡ y → states ≡ row_states south low (content (get_or band i p).square)
    → list ≡ old ++ part_cells south low y (pieces content (take i band)) → new ≡ list ++ live_cells x0 y0 states
    → new ≡ old ++ part_cells south low y (pieces content (take (i + 1) band))
part_more content band i p lt south low y x0 y0 states old list new ex ey es e f =
    let part = λ (q : Piece). live_cells q.column y (row_states south low q.square) in
    let q = piece (content (get_or band i p).square) (get_or band i p).column in
    f ∙ (λ j. e j ++ live_cells (ex j) (ey j) (es j))
    ∙ append_assoc old (part_cells south low y (pieces content (take i band))) (part q)
    ∙ ap (λ l. old ++ l) (flat_map_more part [] (pieces content (take i band)) q ∙ ap (part_cells south low y) (sym (pieces_more content band i p lt)))

-- a square of level 2 has sixteen cells
cell_population : (t : Tree) → depth t ≡ 0 → population t ≤ 1
cell_population (point s) d = grind arith
cell_population (quad a b c e) d = absurd (omega arith)

four_population : (t : Tree) → IsFull t → depth t ≡ 1 → population t ≤ 4
four_population (point s) f d = absurd (omega arith)
four_population (quad a b c e) f d =
    let da : depth a ≡ 0 = omega arith in
    let pa = cell_population a da in
    let pb = cell_population b (f.4 ∙ da) in
    let pc = cell_population c (f.5 ∙ da) in
    let pe = cell_population e (f.6 ∙ da) in
    omega (arith, pa, pb, pc, pe)

sixteen_population : (t : Tree) → IsFull t → depth t ≡ 2 → population t ≤ 16
sixteen_population (point s) f d = absurd (omega arith)
sixteen_population (quad a b c e) f d =
    let da : depth a ≡ 1 = omega arith in
    let pa = four_population a f.0 da in
    let pb = four_population b f.1 (f.4 ∙ da) in
    let pc = four_population c f.2 (f.5 ∙ da) in
    let pe = four_population e f.3 (f.6 ∙ da) in
    omega (arith, pa, pb, pc, pe)

most_population : (west : ℤ) (band : List Piece) → IsBand 2 west band → band_population band ≤ 16 * length band
most_population west [] w = omega arith
most_population west (p ∷ band) w =
    let h = most_population (p.column +ℤ pos 4) band w.4 in
    let k = sixteen_population p.square w.0 w.1 in
    omega (arith, h, k)

pub most_cells : (row : ℤ) (band : List Piece) → InBand 2 band → length (band_cells 2 row band) ≤ 16 * length band
most_cells row band (west, w) = let h = most_population west band w in let l = band_length 2 row west band w in omega (arith, h, l)

-- the list is within its limit after them, where it had the space for them
pub within_limit : (row : ℤ) (content : Id → Tree) (named seen : List Placed) (count limit : ℕ) (old new : List Cell) → InBand 2 (pieces content named)
    → seen ≡ named → count ≡ length named → count ≤ (limit - length old) / 16 → length old ≤ limit
    → new ≡ old ++ band_cells 2 row (pieces content seen) → length new ≤ limit
within_limit row content named seen count limit old new band is counted space few e =
    let most = most_cells row (pieces content named) band in
    let squares : length (pieces content named) ≡ length named = length-map _ _ in
    let whole : length new ≡ length old + length (band_cells 2 row (pieces content named)) =
    ap length (e ∙ ap (λ l. old ++ band_cells 2 row (pieces content l)) is) ∙ length-append old (band_cells 2 row (pieces content named)) in
    let sixteen : 16 * length named ≤ limit - length old = grind arith in
    omega (arith, most, squares, whole, sixteen, few)
