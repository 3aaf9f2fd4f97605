-- The list of the cells of a square.
use Rattle.std.proofs.Common.{◌≡◌, ◌≢◌, ℕ, zero, suc, ◌+◌, ◌-◌, ◌^◌, ◌≤◌, ◌<◌, Bool, true, false, ◌&&◌, ◌⊎◌, inl, inr, ℤ, pos, neg_ℤ, ◌+ℤ◌, ◌≤ℤ◌, ◌<ℤ◌, List, [], ◌∷◌, ◌++◌, length, length-append, Contains, get_or, take, refl, sym, ◌∙◌, ap, subst, arith, if◌then◌else◌, append_assoc, append-nil, Result, IfErr}
use Rattle.std.proofs.lemmas.Result.{IfErr-weaker}
use Rattle.std.specs.List.{AllPairs, flat_map}
use Rattle.std.proofs.lemmas.Int.{ints}
use Rattle.std.proofs.lemmas.List.{flat_map_more, map_push, take_more}
use Rattle.std.proofs.lemmas.List.Kept.{AllPairs-cons}
use Rattle.std.proofs.lemmas.List.Elements.{Contains-get_or}
use Rattle.life_base.specs.declared.cell.Cell.{Cell}
use Rattle.life_base.specs.Tree.{Tree, point, quad, depth, state_at, is_blank_tree, IsFull, tree_cell as cell, half_side}
use Rattle.life_quad.specs.Cells.{IsBefore, IsCellList, population}
use Rattle.life_quad.specs.Bands.{Piece, piece_unless_blank, northern, southern, upper, lower, row_cells, band_cells, IsBand, InBand, pieces}
use Rattle.life_quad.specs.declared.id.Id.{Id}
use Rattle.life_quad.specs.declared.listing.Placed.{Placed}
use Rattle.life_base.specs.declared.kind.Kind.{Kind}
use Rattle.life_base.specs.declared.kind.Kind.TheVariants.{TooManyCells}
use Rattle.life_quad.proofs.CountLemmas.{population-blank}
use Rattle.life_quad.proofs.PlaneLemmas.{IsPlace, place_of, cell_at}
use Rattle.life_quad.proofs.BandLemmas.{IsBand-upper, IsBand-lower, IsCellOf, OnBand, Has, SomeOf-cases, band_from, band_has, kept_has, kept_from, no_cells, band_step}
use Rattle.life_base.proofs.Basics.{halves}

-- each cell is before the later ones
abbrev pub InOrder : List Cell → Type 0
InOrder [] = Unit
InOrder (c ∷ cells) = ((d : Cell) → Has cells d → IsBefore c d) × InOrder cells

InOrder-append : (xs ys : List Cell) → InOrder xs → InOrder ys → ((c d : Cell) → Has xs c → Has ys d → IsBefore c d) → InOrder (xs ++ ys)
InOrder-append [] ys hx hy between = hy
InOrder-append (c ∷ xs) ys hx hy between = (λ d h. by d (SomeOf-cases _ xs ys h), InOrder-append xs ys hx.1 hy (λ a b ha hb. between a b (inr ha) hb))
  where
    by : (d : Cell) → Has xs d ⊎ Has ys d → IsBefore c d
    by d (inl h) = hx.0 d h
    by d (inr h) = between c d (inl refl) h

-- the rows and columns of the cells of a band
row_of : (k : ℕ) (top west : ℤ) (band : List Piece) (c : Cell) → IsBand k west band → OnBand top band c → (top ≤ℤ c.y) × (c.y <ℤ (top +ℤ pos (2 ^ k)))
    × (west ≤ℤ c.x)
row_of k top west [] c w h = absurd h
row_of k top west (p ∷ band) c w (inl h) =
    let l = h.nonzero.row in
    let x = h.x in
    let y = h.y in
    let west = w.3 in
    let below : h.j < 2 ^ k = subst (λ n. h.j < 2 ^ n) w.1 l in
    (omega (arith, ints, y), omega (arith, ints, y, below), omega (arith, ints, x, west))
row_of k top west (p ∷ band) c w (inr h) =
    let r = row_of k top (p.column +ℤ pos (2 ^ k)) band c w.4 h in
    let a = r.2 in
    let b = w.3 in
    (r.0, r.1, omega (arith, ints, a, b))

row_in_order : (top west : ℤ) (band : List Piece) → IsBand 0 west band → InOrder (row_cells top band)
row_in_order top west [] w = tt
row_in_order top west (p ∷ band) w = (
  λ d h. later d h (row_of 0 top (p.column +ℤ pos 1) band d w.4 (band_from 0 top (p.column +ℤ pos 1) band d w.4 h)),
  row_in_order top (p.column +ℤ pos 1) band w.4,
)
  where
    later : (d : Cell) → Has (row_cells top band) d → (top ≤ℤ d.y) × (d.y <ℤ (top +ℤ pos 1)) × ((p.column +ℤ pos 1) ≤ℤ d.x)
        → IsBefore (record { x = p.column; y = top; state = state_at p.square 0 0 }) d
    later d h r =
        let a = r.0 in
        let b = r.1 in
        let e = r.2 in
        inr (omega (arith, ints), omega (arith, ints))

pub band_in_order : (k : ℕ) (top west : ℤ) (band : List Piece) → IsBand k west band → InOrder (band_cells k top band)
band_in_order zero top west band w = row_in_order top west band w
band_in_order (suc k) top west band w =
    InOrder-append _ _ (band_in_order k top west (upper (2 ^ k) band) (IsBand-upper k west band w))
    (band_in_order k (top +ℤ pos (2 ^ k)) west (lower (2 ^ k) band) (IsBand-lower k west band w))
    (λ c d hc hd.
    let a = row_of k top west _ c (IsBand-upper k west band w) (band_from k top west _ c (IsBand-upper k west band w) hc) in
    let b = row_of k (top +ℤ pos (2 ^ k)) west _ d (IsBand-lower k west band w) (band_from k (top +ℤ pos (2 ^ k)) west _ d (IsBand-lower k west band w) hd) in
    let ya = a.1 in
    let yb = b.0 in
    inl (omega (arith, ints)))

-- how many nonzero cells the squares of a band have
abbrev pub band_population : List Piece → ℕ
band_population [] = 0
band_population (p ∷ band) = population p.square + band_population band

band_population-append : (xs ys : List Piece) → band_population (xs ++ ys) ≡ band_population xs + band_population ys
band_population-append [] ys = omega arith
band_population-append (p ∷ xs) ys = let h = band_population-append xs ys in omega arith

kept_population : (t : Tree) (column : ℤ) → band_population (piece_unless_blank t column) ≡ population t
kept_population t column = by (is_blank_tree t) refl
  where
    by : (b : Bool) → is_blank_tree t ≡ b → band_population (if b then [] else record { square = t; column = column } ∷ []) ≡ population t
    by true e = sym (population-blank t e)
    by false e = omega arith

quarters_population : (k : ℕ) (t : Tree) (column : ℤ) → depth t ≡ suc k → band_population (northern (2 ^ k) t column) + band_population
    (southern (2 ^ k) t column) ≡ population t
quarters_population k (point s) column e = absurd (omega arith)
quarters_population k (quad a b c d) column e =
    let n = band_population-append (piece_unless_blank a column) (piece_unless_blank b (column +ℤ pos (2 ^ k))) in
    let s = band_population-append (piece_unless_blank c column) (piece_unless_blank d (column +ℤ pos (2 ^ k))) in
    let pa = kept_population a column in
    let pb = kept_population b (column +ℤ pos (2 ^ k)) in
    let pc = kept_population c column in
    let pd = kept_population d (column +ℤ pos (2 ^ k)) in
    omega arith

halves_population : (k : ℕ) (west : ℤ) (band : List Piece) → IsBand (suc k) west band
    → band_population (upper (2 ^ k) band) + band_population (lower (2 ^ k) band) ≡ band_population band
halves_population k west [] w = omega arith
halves_population k west (p ∷ band) w =
    let h = halves_population k (p.column +ℤ pos (2 ^ suc k)) band w.4 in
    let q = quarters_population k p.square p.column w.1 in
    let n = band_population-append (northern (2 ^ k) p.square p.column) (upper (2 ^ k) band) in
    let s = band_population-append (southern (2 ^ k) p.square p.column) (lower (2 ^ k) band) in
    omega arith

flat_population : (t : Tree) → depth t ≡ 0 → is_blank_tree t ≡ false → population t ≡ 1
flat_population (point s) d h = grind (arith, h)
flat_population (quad a b c e) d h = absurd (omega arith)

row_length : (top west : ℤ) (band : List Piece) → IsBand 0 west band → length (row_cells top band) ≡ band_population band
row_length top west [] w = refl
row_length top west (p ∷ band) w =
    let h = row_length top (p.column +ℤ pos 1) band w.4 in
    let one = flat_population p.square w.1 w.2 in
    omega arith

-- the list is as long as the squares have nonzero cells
pub band_length : (k : ℕ) (top west : ℤ) (band : List Piece) → IsBand k west band → length (band_cells k top band) ≡ band_population band
band_length zero top west band w = row_length top west band w
band_length (suc k) top west band w =
    let a = band_length k top west (upper (2 ^ k) band) (IsBand-upper k west band w) in
    let b = band_length k (top +ℤ pos (2 ^ k)) west (lower (2 ^ k) band) (IsBand-lower k west band w) in
    let both = halves_population k west band w in
    let l = length-append (band_cells k top (upper (2 ^ k) band)) (band_cells k (top +ℤ pos (2 ^ k)) (lower (2 ^ k) band)) in
    omega (arith, l, a, b, both)

-- a square that isn't blank has one
pub some_population : (t : Tree) → is_blank_tree t ≡ false → 1 ≤ population t
some_population (point s) h = grind (arith, h)
some_population (quad a b c d) h = by (is_blank_tree a) refl (is_blank_tree b) refl (is_blank_tree c) refl (some_population a) (some_population b)
    (some_population c) (some_population d)
  where
    by : (p : Bool) → is_blank_tree a ≡ p → (q : Bool) → is_blank_tree b ≡ q → (r : Bool) → is_blank_tree c ≡ r
        → (is_blank_tree a ≡ false → 1 ≤ population a) → (is_blank_tree b ≡ false → 1 ≤ population b) → (is_blank_tree c ≡ false → 1 ≤ population c)
        → (is_blank_tree d ≡ false → 1 ≤ population d)
        → 1 ≤ population a + population b + population c + population d
    by false e q f r g ha hb hc hd = let n = ha e in omega arith
    by true e false f r g ha hb hc hd = let n = hb f in omega arith
    by true e true f false g ha hb hc hd = let n = hc g in omega arith
    by true e true f true g ha hb hc hd = let n = hd (sym (λ i. e i && f i && g i && is_blank_tree d) ∙ h) in omega arith

pub band_length_least : (k : ℕ) (west : ℤ) (band : List Piece) → IsBand k west band → length band ≤ band_population band
band_length_least k west [] w = omega arith
band_length_least k west (p ∷ band) w =
    let h = band_length_least k (p.column +ℤ pos (2 ^ k)) band w.4 in
    let one = some_population p.square w.2 in
    omega arith

-- what is in a list has an index in it
pub Contains-Has : (cells : List Cell) (c : Cell) → Has cells c → Contains cells c
Contains-Has [] c h = absurd h
Contains-Has (d ∷ cells) c (inl e) = (0, omega arith, e)
Contains-Has (d ∷ cells) c (inr h) = by (Contains-Has cells c h)
  where
    by : Contains cells c → Contains (d ∷ cells) c
    by (k, lt, e) = (suc k, omega arith, e)

pub Has-Contains : (cells : List Cell) (c : Cell) → Contains cells c → Has cells c
Has-Contains [] c (k, lt, e) = absurd (omega arith)
Has-Contains (d ∷ cells) c (zero, lt, e) = inl e
Has-Contains (d ∷ cells) c (suc k, lt, e) = inr (Has-Contains cells c (k, omega arith, e))

AllPairs-InOrder : (cells : List Cell) → InOrder cells → AllPairs IsBefore cells
AllPairs-InOrder [] h = λ i j d before below. absurd (omega arith)
AllPairs-InOrder (c ∷ cells) h = AllPairs-cons IsBefore c cells (λ k d lt. h.0 (get_or cells k d) (Has-Contains cells _ (Contains-get_or cells k d lt)))
    (AllPairs-InOrder cells h.1)

-- the nonzero cells of the one square of a band are those of the plane
abbrev pub whole : Tree → List Piece
whole t = piece_unless_blank t (neg_ℤ (pos (half_side t)))

pub IsBand-whole : (t : Tree) → IsFull t → IsBand (depth t) (neg_ℤ (pos (half_side t))) (whole t)
IsBand-whole t full = by (is_blank_tree t) refl
  where
    by : (b : Bool) → is_blank_tree t ≡ b
        → IsBand (depth t) (neg_ℤ (pos (half_side t))) (if b then [] else record { square = t; column = neg_ℤ (pos (half_side t)) } ∷ [])
    by true e = tt
    by false e = (full, refl, e, omega (arith, ints), tt)

whole_population : (t : Tree) → band_population (whole t) ≡ population t
whole_population t = kept_population t (neg_ℤ (pos (half_side t)))

-- the cells of a square, row by row
abbrev pub square_cells : Tree → List Cell
square_cells t = band_cells (depth t) (neg_ℤ (pos (half_side t))) (whole t)

pub square_length : (t : Tree) → IsFull t → length (square_cells t) ≡ population t
square_length t full = band_length _ _ _ _ (IsBand-whole t full) ∙ whole_population t

module _ (t : Tree) (full : IsFull t) (high : 1 ≤ depth t) where
  pub on_plane : (c : Cell) → IsCellOf (neg_ℤ (pos (half_side t))) (record { square = t; column = neg_ℤ (pos (half_side t)) }) c → (cell t c.x c.y ≡ c.state)
      × (c.state ≢ 0)
  on_plane c h =
      let x = h.x in
      let y = h.y in
      let place : IsPlace (half_side t) c.x c.y h.i h.j = record { column = omega (arith, ints, x); row = omega (arith, ints, y) } in
      (cell_at t c.x c.y h.i h.j high place h.nonzero.column h.nonzero.row ∙ h.state, λ e. h.nonzero.state (h.state ∙ e))

  pub from_plane : (c : Cell) → cell t c.x c.y ≡ c.state → c.state ≢ 0
      → IsCellOf (neg_ℤ (pos (half_side t))) (record { square = t; column = neg_ℤ (pos (half_side t)) }) c
  from_plane c e nonzero =
      let p = place_of t c.x c.y high (λ z. nonzero (sym e ∙ z)) in
      let column = p.2.column in
      let row = p.2.row in
      record {
        i = p.0;
        j = p.1;
        nonzero = p.3;
        x = omega (arith, ints, column);
        y = omega (arith, ints, row);
        state = sym (cell_at t c.x c.y p.0 p.1 high p.2 p.3.column p.3.row) ∙ e;
      }

  on_whole : (c : Cell) → IsCellOf (neg_ℤ (pos (half_side t))) (record { square = t; column = neg_ℤ (pos (half_side t)) }) c
      → OnBand (neg_ℤ (pos (half_side t))) (whole t) c
  on_whole c h = kept_has _ t _ c full h

  pub IsCellList-square : IsCellList t (square_cells t)
  IsCellList-square =
      let band = IsBand-whole t full in
      record {
        in_order = AllPairs-InOrder _ (band_in_order _ _ _ _ band);
        true_cells = λ c h. on_plane c (kept_from _ t _ c (band_from _ _ _ _ c band (Has-Contains _ c h)));
        all_cells = λ c e n. Contains-Has _ c (band_has _ _ _ _ c band (on_whole c (from_plane c e n)));
      }

-- lists in order with the same cells are equal
InOrder-from : (cells : List Cell) → AllPairs IsBefore cells → InOrder cells
InOrder-from [] h = tt
InOrder-from (c ∷ cells) h = (λ d g. by d (Contains-Has cells d g), InOrder-from cells (λ i j d before below. h (suc i) (suc j) d (omega arith) (omega arith)))
  where
    by : (d : Cell) → Contains cells d → IsBefore c d
    by d (k, lt, e) = subst (IsBefore c) e (h 0 (suc k) d (omega arith) (omega arith))

not_before : (c d : Cell) → IsBefore c d → IsBefore d c → ⊥
not_before c d (inl a) (inl b) = omega (arith, ints)
not_before c d (inl a) (inr b) = let e = b.0 in omega (arith, ints)
not_before c d (inr a) (inl b) = let e = a.0 in omega (arith, ints)
not_before c d (inr a) (inr b) = let e = a.1 in let f = b.1 in omega (arith, ints)

pub same_lists : (xs ys : List Cell) → InOrder xs → InOrder ys → ((c : Cell) → Has xs c → Has ys c) → ((c : Cell) → Has ys c → Has xs c) → xs ≡ ys
same_lists [] [] hx hy f g = refl
same_lists [] (y ∷ ys) hx hy f g = absurd (g y (inl refl))
same_lists (x ∷ xs) [] hx hy f g = absurd (f x (inl refl))
same_lists (x ∷ xs) (y ∷ ys) hx hy f g =
    let first = head (f x (inl refl)) (g y (inl refl)) in
    let rest = same_lists xs ys hx.1 hy.1 (λ c h. over first c h (f c (inr h))) (λ c h. back first c h (g c (inr h))) in
    λ i. first i ∷ rest i
  where
    head : (y ≡ x) ⊎ Has ys x → (x ≡ y) ⊎ Has xs y → x ≡ y
    head (inl e) q = sym e
    head (inr p) (inl e) = e
    head (inr p) (inr q) = absurd (not_before x y (hx.0 y q) (hy.0 x p))

    over : x ≡ y → (c : Cell) → Has xs c → (y ≡ c) ⊎ Has ys c → Has ys c
    over e c h (inl s) = let b = subst (IsBefore x) (sym (e ∙ s)) (hx.0 c h) in absurd (not_before x x b b)
    over e c h (inr k) = k

    back : x ≡ y → (c : Cell) → Has ys c → (x ≡ c) ⊎ Has xs c → Has xs c
    back e c h (inl s) = let b = subst (IsBefore y) (sym (sym e ∙ s)) (hy.0 c h) in absurd (not_before y y b b)
    back e c h (inr k) = k

-- so a square has one list of cells, as long as it has nonzero cells
pub one_list : (t : Tree) (cells : List Cell) → IsFull t → 1 ≤ depth t → IsCellList t cells → cells ≡ square_cells t
one_list t cells full high h =
    let own = IsCellList-square t full high in
    same_lists cells (square_cells t) (InOrder-from _ h.in_order) (InOrder-from _ own.in_order)
    (λ c k. let s = h.true_cells c (Contains-Has _ c k) in Has-Contains _ c (own.all_cells c s.0 s.1))
    (λ c k. let s = own.true_cells c (Contains-Has _ c k) in Has-Contains _ c (h.all_cells c s.0 s.1))

pub list_length : (t : Tree) (cells : List Cell) → IsFull t → 1 ≤ depth t → IsCellList t cells → length cells ≡ population t
list_length t cells full high h = ap length (one_list t cells full high h) ∙ square_length t full

-- a band has at least as many cells as squares
pub band_least : (k : ℕ) (top : ℤ) (band : List Piece) → InBand k band → length band ≤ length (band_cells k top band)
band_least k top band (west, w) = let l = band_length k top west band w in let m = band_length_least k west band w in omega (arith, l, m)

-- a band without squares adds nothing to a list
pub append_none : (cells : List Cell) (content : Id → Tree) (level : ℕ) (row : ℤ) (band : List Placed) → length band ≡ 0
    → cells ≡ cells ++ band_cells level row (pieces content band)
append_none cells content level row [] e = sym (append-nil cells) ∙ ap (λ more. cells ++ more) (sym (no_cells level row))
append_none cells content level row (p ∷ band) e = absurd (omega arith)

pub halves_side : (level : ℕ) → 1 ≤ level → 2 ^ level ≡ 2 ^ (level - 1) + 2 ^ (level - 1)
halves_side level low = sym (halves level low)

-- the cells of a band by those of its halves
module _ (level : ℕ) (row first middle : ℤ) (content : Id → Tree) (named seen : List Placed) (north south : List Piece) (some : level ≢ 0) (same : first ≡ row)
    (place : middle ≡ row +ℤ pos (2 ^ (level - 1))) (is : seen ≡ named)
    (upper_is : north ≡ upper (2 ^ (level - 1)) (pieces content seen)) (lower_is : south ≡ lower (2 ^ (level - 1)) (pieces content seen)) where
  abbrev both : List Piece
  both = pieces content named

  halves_are : band_cells level row both ≡ band_cells (level - 1) first north ++ band_cells (level - 1) middle south
  halves_are =
      let north_is = upper_is ∙ ap (λ b. upper (2 ^ (level - 1)) (pieces content b)) is in
      let south_is = lower_is ∙ ap (λ b. lower (2 ^ (level - 1)) (pieces content b)) is in
      band_step level row middle both (omega arith) place ∙
      (λ i. band_cells (level - 1) (sym same i) (sym north_is i) ++ band_cells (level - 1) middle (sym south_is i))

  pub both_halves : (old list new : List Cell) → list ≡ old ++ band_cells (level - 1) first north → new ≡ list ++ band_cells (level - 1) middle south
      → new ≡ old ++ band_cells level row both
  both_halves old list new e f =
      f ∙ ap (λ l. l ++ band_cells (level - 1) middle south) e ∙ append_assoc old (band_cells (level - 1) first north) (band_cells (level - 1) middle south)
      ∙ ap (λ l. old ++ l) (sym halves_are)

  both_lengths : length (band_cells level row both) ≡ length (band_cells (level - 1) first north) + length (band_cells (level - 1) middle south)
  both_lengths = ap length halves_are ∙ length-append (band_cells (level - 1) first north) (band_cells (level - 1) middle south)

  -- more cells in a half than a limit leaves space for are more in the whole
  pub more_in_first : {T : Type 0} (r : Result T Kind) (old limit : ℕ)
      → IfErr r (λ e. e ≡ TooManyCells → limit < old + length (band_cells (level - 1) first north))
      → IfErr r (λ e. e ≡ TooManyCells → limit < old + length (band_cells level row both))
  more_in_first r old limit h = IfErr-weaker r _ _ (λ e f is. let n = f is in omega (arith, n, both_lengths)) h

  pub more_in_second : {T : Type 0} (r : Result T Kind) (old list : List Cell) (limit : ℕ) → list ≡ old ++ band_cells (level - 1) first north
      → IfErr r (λ e. e ≡ TooManyCells → limit < length list + length (band_cells (level - 1) middle south))
      → IfErr r (λ e. e ≡ TooManyCells → limit < length old + length (band_cells level row both))
  more_in_second r old list limit is h =
      let l = ap length is ∙ length-append old (band_cells (level - 1) first north) in
      IfErr-weaker r _ _ (λ e f same. let n = f same in omega (arith, n, l, both_lengths)) h

-- a band of the one square, from the column `west` on, and its cells
module _ (t : Tree) (full : IsFull t) (level : ℕ) (west : ℤ) (content : Id → Tree) (old band : List Placed) (top : level ≡ depth t)
    (half : west ≡ neg_ℤ (pos (2 ^ (level - 1))))
    (none : old ≡ []) (kept_is : pieces content band ≡ pieces content old ++ piece_unless_blank t west) where
  west_is : west ≡ neg_ℤ (pos (half_side t))
  west_is = half ∙ ap (λ l. neg_ℤ (pos (2 ^ (l - 1)))) top

  is_whole : pieces content band ≡ whole t
  is_whole = kept_is ∙ (λ i. pieces content (none i) ++ piece_unless_blank t (west_is i))

  cells_are : band_cells level west (pieces content band) ≡ square_cells t
  cells_are = λ i. band_cells (top i) (west_is i) (is_whole i)

  pub whole_in_band : InBand level (pieces content band)
  whole_in_band = subst (InBand level) (sym is_whole) (subst (λ n. InBand n (whole t)) (sym top) (neg_ℤ (pos (half_side t)), IsBand-whole t full))

  pub whole_list : (before list : List Cell) → before ≡ [] → list ≡ before ++ band_cells level west (pieces content band) → list ≡ square_cells t
  whole_list before list empty e = e ∙ (λ i. empty i ++ cells_are i)

  pub more_in_square : {T : Type 0} (r : Result T Kind) (before : List Cell) (limit : ℕ) → before ≡ []
      → IfErr r (λ e. e ≡ TooManyCells → limit < length before + length (band_cells level west (pieces content band)))
      → IfErr r (λ e. e ≡ TooManyCells → limit < population t)
  more_in_square r before limit empty h =
      let same : length (band_cells level west (pieces content band)) ≡ population t = ap length cells_are ∙ square_length t full in
      let short = ap length empty in
      IfErr-weaker r _ _ (λ e f is. let n = f is in omega (arith, n, same, short)) h

-- ---- one more square of a band

module _ (content : Id → Tree) (band : List Placed) (i : ℕ) (d : Placed) (lt : i < length band) where
  abbrev piece : Piece
  piece = record { square = content (get_or band i d).square; column = (get_or band i d).column }

  pub pieces_more : pieces content (take (i + 1) band) ≡ pieces content (take i band) ++ piece ∷ []
  pieces_more = ap (pieces content) (take_more band i d lt) ∙ map_push (λ p. record { square = content p.square; column = p.column }) (take i band)
      (get_or band i d)

  -- its quarters, after those of the squares before it
  pub quarters_more : (f : Piece → List Piece) (old new : List Piece) → old ≡ flat_map f (pieces content (take i band)) → new ≡ old ++ f piece
      → new ≡ flat_map f (pieces content (take (i + 1) band))
  quarters_more f old new e g = g ∙ ap (λ l. l ++ f piece) e ∙ flat_map_more f [] (pieces content (take i band)) piece ∙ ap (flat_map f) (sym pieces_more)

  -- its cell, after those of the squares before it
  pub cell_more : (row column : ℤ) (state : ℕ) (old list new : List Cell) → list ≡ old ++ row_cells row (pieces content (take i band))
      → new ≡ list ++ record { x = column; y = row; state = state } ∷ [] → content (get_or band i d).square ≡ point state → column ≡ (get_or band i d).column
      → new ≡ old ++ row_cells row (pieces content (take (i + 1) band))
  cell_more row column state old list new e g is at =
      let here : Cell = record { x = column; y = row; state = state } in
      let same : here ≡ record { x = (get_or band i d).column; y = row; state = state_at (content (get_or band i d).square) 0 0 } =
      (λ j. record { x = at j; y = row; state = state_at (sym is j) 0 0 }) in
      let rows = row_cells row (pieces content (take i band)) in
      let more = ap (row_cells row) pieces_more ∙ map_push (λ p. record { x = p.column; y = row; state = state_at p.square 0 0 }) (pieces content (take i band))
      piece in
      g ∙ (λ j. e j ++ same j ∷ []) ∙ append_assoc old rows _ ∙ ap (λ l. old ++ l) (sym more)
