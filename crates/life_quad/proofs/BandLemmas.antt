-- The cells of a band are its nonzero cells, row by row.
use Rattle.std.proofs.Common.{◌≡◌, ◌==◌, ℕ, zero, suc, ◌+◌, ◌-◌, ◌^◌, ◌≤◌, Bool, true, false, ◌⊎◌, inl, inr, ℤ, pos, ◌+ℤ◌, ◌≤ℤ◌, List, [], ◌∷◌, ◌++◌, refl, sym, ◌∙◌, ap, subst, arith, true≢false, if◌then◌else◌, append_assoc}
use Rattle.std.specs.List.{flat_map}
use Rattle.std.proofs.lemmas.Int.{ints}
use Rattle.life_base.specs.declared.cell.Cell.{Cell}
use Rattle.life_base.specs.Tree.{Tree, point, quad, depth, state_at, is_blank_tree, IsFull}
use Rattle.life_quad.specs.Distances.{IsNonzeroAt}
use Rattle.life_quad.specs.Bands.{Piece, piece_unless_blank, northern, southern, upper, lower, row_cells, band_cells, IsBand, InBand}
use Rattle.life_quad.proofs.NonzeroLemmas.{InQuarter, in_nw, in_ne, in_sw, in_se, quarter_of, from_quarter, blank_has_none}
use Rattle.life_base.proofs.Basics.{double}
use Rattle.life_base.proofs.Squares.{state_nw, state_ne, state_sw, state_se}

abbrev piece : Tree → ℤ → Piece
piece t column = record { square = t; column = column }

IsBand-west : (k : ℕ) (west other : ℤ) (band : List Piece) → other ≤ℤ west → IsBand k west band → IsBand k other band
IsBand-west k west other [] le h = tt
IsBand-west k west other (p ∷ band) le h = let w = h.3 in (h.0, h.1, h.2, omega (arith, ints), h.4)

-- a square before a band, if it isn't blank
IsBand-kept : (k : ℕ) (west : ℤ) (t : Tree) (column : ℤ) (band : List Piece) → IsFull t → depth t ≡ k → west ≤ℤ column → IsBand k (column +ℤ pos (2 ^ k)) band
    → IsBand k west (piece_unless_blank t column ++ band)
IsBand-kept k west t column band full d le h = by (is_blank_tree t) refl
  where
    by : (b : Bool) → is_blank_tree t ≡ b → IsBand k west ((if b then [] else piece t column ∷ []) ++ band)
    by true e = IsBand-west k _ west band (omega (arith, ints)) h
    by false e = (full, d, e, le, h)

two_kept : (k : ℕ) (west : ℤ) (a b : Tree) (column : ℤ) (band : List Piece) → IsFull a → depth a ≡ k → IsFull b → depth b ≡ k → west ≤ℤ column
    → IsBand k (column +ℤ pos (2 ^ suc k)) band → IsBand k west ((piece_unless_blank a column ++ piece_unless_blank b (column +ℤ pos (2 ^ k))) ++ band)
two_kept k west a b column band fa da fb db le h =
    let twice = double k in
    let end : column +ℤ pos (2 ^ suc k) ≡ (column +ℤ pos (2 ^ k)) +ℤ pos (2 ^ k) = omega (arith, ints) in
    subst (IsBand k west) (sym (append_assoc (piece_unless_blank a column) (piece_unless_blank b (column +ℤ pos (2 ^ k))) band))
    (IsBand-kept k west a column _ fa da le (IsBand-kept k _ b (column +ℤ pos (2 ^ k)) band fb db (omega (arith, ints)) (subst (λ z. IsBand k z band) end h)))

upper_step : (k : ℕ) (west : ℤ) (t : Tree) (column : ℤ) (rest : List Piece) → IsFull t → depth t ≡ suc k → west ≤ℤ column
    → IsBand k (column +ℤ pos (2 ^ suc k)) rest → IsBand k west (northern (2 ^ k) t column ++ rest)
upper_step k west (point s) column rest f d le h = absurd (omega arith)
upper_step k west (quad a b c d) column rest f e le h =
    let da : depth a ≡ k = omega arith in two_kept k west a b column rest f.0 da f.1 (f.4 ∙ da) le h

lower_step : (k : ℕ) (west : ℤ) (t : Tree) (column : ℤ) (rest : List Piece) → IsFull t → depth t ≡ suc k → west ≤ℤ column
    → IsBand k (column +ℤ pos (2 ^ suc k)) rest → IsBand k west (southern (2 ^ k) t column ++ rest)
lower_step k west (point s) column rest f d le h = absurd (omega arith)
lower_step k west (quad a b c d) column rest f e le h =
    let da : depth a ≡ k = omega arith in two_kept k west c d column rest f.2 (f.5 ∙ da) f.3 (f.6 ∙ da) le h

pub IsBand-upper : (k : ℕ) (west : ℤ) (band : List Piece) → IsBand (suc k) west band → IsBand k west (upper (2 ^ k) band)
IsBand-upper k west [] h = tt
IsBand-upper k west (p ∷ band) h = upper_step k west p.square p.column _ h.0 h.1 h.3 (IsBand-upper k (p.column +ℤ pos (2 ^ suc k)) band h.4)

pub IsBand-lower : (k : ℕ) (west : ℤ) (band : List Piece) → IsBand (suc k) west band → IsBand k west (lower (2 ^ k) band)
IsBand-lower k west [] h = tt
IsBand-lower k west (p ∷ band) h = lower_step k west p.square p.column _ h.0 h.1 h.3 (IsBand-lower k (p.column +ℤ pos (2 ^ suc k)) band h.4)

-- the cell is a nonzero cell of a square whose north-west corner is there
pub record IsCellOf (top : ℤ) (p : Piece) (c : Cell) : Type 0 where
  pub i : ℕ
  pub j : ℕ
  pub nonzero : IsNonzeroAt p.square i j
  pub x : c.x ≡ p.column +ℤ pos i
  pub y : c.y ≡ top +ℤ pos j
  pub state : state_at p.square i j ≡ c.state

-- some element has the property
abbrev pub SomeOf : {X : Type 0} → (X → Type 0) → List X → Type 0
SomeOf P [] = ⊥
SomeOf P (x ∷ xs) = P x ⊎ SomeOf P xs

module _ {X : Type 0} (P : X → Type 0) where
  pub SomeOf-append_left : (xs ys : List X) → SomeOf P xs → SomeOf P (xs ++ ys)
  SomeOf-append_left [] ys h = absurd h
  SomeOf-append_left (x ∷ xs) ys (inl h) = inl h
  SomeOf-append_left (x ∷ xs) ys (inr h) = inr (SomeOf-append_left xs ys h)

  pub SomeOf-append_right : (xs ys : List X) → SomeOf P ys → SomeOf P (xs ++ ys)
  SomeOf-append_right [] ys h = h
  SomeOf-append_right (x ∷ xs) ys h = inr (SomeOf-append_right xs ys h)

  pub SomeOf-cases : (xs ys : List X) → SomeOf P (xs ++ ys) → SomeOf P xs ⊎ SomeOf P ys
  SomeOf-cases [] ys h = inr h
  SomeOf-cases (x ∷ xs) ys (inl h) = inl (inl h)
  SomeOf-cases (x ∷ xs) ys (inr h) = by (SomeOf-cases xs ys h)
    where
      by : SomeOf P xs ⊎ SomeOf P ys → SomeOf P (x ∷ xs) ⊎ SomeOf P ys
      by (inl g) = inl (inr g)
      by (inr g) = inr g

-- the cell is one of a square of the band
abbrev pub OnBand : ℤ → List Piece → Cell → Type 0
OnBand top band c = SomeOf (λ p. IsCellOf top p c) band

-- a square that is kept or blank has the same nonzero cells
pub kept_has : (top : ℤ) (t : Tree) (column : ℤ) (c : Cell) → IsFull t → IsCellOf top (piece t column) c → OnBand top (piece_unless_blank t column) c
kept_has top t column c full h = by (is_blank_tree t) refl
  where
    by : (b : Bool) → is_blank_tree t ≡ b → OnBand top (if b then [] else piece t column ∷ []) c
    by true e = absurd (blank_has_none t full e h.i h.j h.nonzero)
    by false e = inl h

pub kept_from : (top : ℤ) (t : Tree) (column : ℤ) (c : Cell) → OnBand top (piece_unless_blank t column) c → IsCellOf top (piece t column) c
kept_from top t column c h = by (is_blank_tree t) h
  where
    by : (b : Bool) → OnBand top (if b then [] else piece t column ∷ []) c → IsCellOf top (piece t column) c
    by true g = absurd g
    by false (inl g) = g
    by false (inr g) = absurd g

-- a cell of a square is one of a northern or of a southern quarter
pub quarters_have : (k : ℕ) (top : ℤ) (t : Tree) (column : ℤ) (c : Cell) → IsFull t → depth t ≡ suc k → IsCellOf top (piece t column) c
    → OnBand top (northern (2 ^ k) t column) c ⊎ OnBand (top +ℤ pos (2 ^ k)) (southern (2 ^ k) t column) c
quarters_have k top (point s) column c f e h = absurd (omega arith)
quarters_have k top (quad a b d g) column c f e h = by (quarter_of a b d g f h.i h.j h.nonzero)
  where
    half : 2 ^ depth a ≡ 2 ^ k
    half = let same : depth a ≡ k = omega arith in ap (λ n. 2 ^ n) same

    x : c.x ≡ column +ℤ pos h.i
    x = h.x

    y : c.y ≡ top +ℤ pos h.j
    y = h.y

    by : InQuarter a b d g (2 ^ depth a) h.i h.j
        → OnBand top (piece_unless_blank a column ++ piece_unless_blank b (column +ℤ pos (2 ^ k))) c
        ⊎ OnBand (top +ℤ pos (2 ^ k)) (piece_unless_blank d column ++ piece_unless_blank g (column +ℤ pos (2 ^ k))) c
    by (in_nw n) = inl (SomeOf-append_left _ (piece_unless_blank a column) _
        (kept_has top a column c f.0 (record {
          i = h.i;
          j = h.j;
          nonzero = n;
          x = h.x;
          y = h.y;
          state = sym (state_nw a b d g f _ _ n.column n.row)
              ∙ h.state;
        })))
    by (in_ne m p n) = inl (SomeOf-append_right _ (piece_unless_blank a column) _
        (kept_has top b _ c f.1 (record
        { i = m; j = h.j; nonzero = n; x = omega (arith, ints, x, p, half); y = h.y; state = sym (state_ne a b d g f _ _ _ p n.row) ∙ h.state })))
    by (in_sw m p n) = inr (SomeOf-append_left _ (piece_unless_blank d column) _
        (kept_has _ d column c f.2 (record
        { i = h.i; j = m; nonzero = n; x = h.x; y = omega (arith, ints, y, p, half); state = sym (state_sw a b d g f _ _ _ p n.column) ∙ h.state })))
    by (in_se m o p q n) =
        inr (SomeOf-append_right _ (piece_unless_blank d column) _
        (kept_has _ g _ c f.3 (record {
          i = m;
          j = o;
          nonzero = n;
          x = omega (arith, ints, x, p, half);
          y = omega (arith, ints, y, q, half);
          state = sym (state_se a b d g f _ _ _ _ p q) ∙ h.state;
        })))

pub northern_from : (k : ℕ) (top : ℤ) (t : Tree) (column : ℤ) (c : Cell) → IsFull t → depth t ≡ suc k → OnBand top (northern (2 ^ k) t column) c
    → IsCellOf top (piece t column) c
northern_from k top (point s) column c f e h = absurd h
northern_from k top (quad a b d g) column c f e h = by (SomeOf-cases _ (piece_unless_blank a column) _ h)
  where
    half : 2 ^ depth a ≡ 2 ^ k
    half = let same : depth a ≡ k = omega arith in ap (λ n. 2 ^ n) same

    by : OnBand top (piece_unless_blank a column) c ⊎ OnBand top (piece_unless_blank b (column +ℤ pos (2 ^ k))) c → IsCellOf top (piece (quad a b d g) column) c
    by (inl o) =
        let q = kept_from top a column c o in
        record {
          i = q.i;
          j = q.j;
          nonzero = from_quarter a b d g f q.i q.j (in_nw q.nonzero);
          x = q.x;
          y = q.y;
          state = state_nw a b d g f _ _ q.nonzero.column q.nonzero.row ∙ q.state;
        }
    by (inr o) =
        let q = kept_from top b (column +ℤ pos (2 ^ k)) c o in
        let x = q.x in
        record {
          i = 2 ^ depth a + q.i;
          j = q.j;
          nonzero = from_quarter a b d g f _ q.j (in_ne q.i refl q.nonzero);
          x = omega (arith, ints, x, half);
          y = q.y;
          state = state_ne a b d g f _ q.i _ refl q.nonzero.row ∙ q.state;
        }

pub southern_from : (k : ℕ) (top : ℤ) (t : Tree) (column : ℤ) (c : Cell) → IsFull t → depth t ≡ suc k
    → OnBand (top +ℤ pos (2 ^ k)) (southern (2 ^ k) t column) c → IsCellOf top (piece t column) c
southern_from k top (point s) column c f e h = absurd h
southern_from k top (quad a b d g) column c f e h = by (SomeOf-cases _ (piece_unless_blank d column) _ h)
  where
    half : 2 ^ depth a ≡ 2 ^ k
    half = let same : depth a ≡ k = omega arith in ap (λ n. 2 ^ n) same

    by : OnBand (top +ℤ pos (2 ^ k)) (piece_unless_blank d column) c ⊎ OnBand (top +ℤ pos (2 ^ k)) (piece_unless_blank g (column +ℤ pos (2 ^ k))) c
        → IsCellOf top (piece (quad a b d g) column) c
    by (inl o) =
        let q = kept_from _ d column c o in
        let y = q.y in
        record {
          i = q.i;
          j = 2 ^ depth a + q.j;
          nonzero = from_quarter a b d g f q.i _ (in_sw q.j refl q.nonzero);
          x = q.x;
          y = omega (arith, ints, y, half);
          state = state_sw a b d g f _ _ q.j refl q.nonzero.column ∙ q.state;
        }
    by (inr o) =
        let q = kept_from _ g (column +ℤ pos (2 ^ k)) c o in
        let x = q.x in
        let y = q.y in
        record {
          i = 2 ^ depth a + q.i;
          j = 2 ^ depth a + q.j;
          nonzero = from_quarter a b d g f _ _ (in_se q.i q.j refl refl q.nonzero);
          x = omega (arith, ints, x, half);
          y = omega (arith, ints, y, half);
          state = state_se a b d g f _ q.i _ q.j refl refl ∙ q.state;
        }

-- a cell of a band is one of its upper or of its lower half
halves_have : (k : ℕ) (top west : ℤ) (band : List Piece) (c : Cell) → IsBand (suc k) west band → OnBand top band c
    → OnBand top (upper (2 ^ k) band) c ⊎ OnBand (top +ℤ pos (2 ^ k)) (lower (2 ^ k) band) c
halves_have k top west [] c w h = absurd h
halves_have k top west (p ∷ band) c w (inl h) = by (quarters_have k top p.square p.column c w.0 w.1 h)
  where
    by : OnBand top (northern (2 ^ k) p.square p.column) c ⊎ OnBand (top +ℤ pos (2 ^ k)) (southern (2 ^ k) p.square p.column) c
        → OnBand top (upper (2 ^ k) (p ∷ band)) c ⊎ OnBand (top +ℤ pos (2 ^ k)) (lower (2 ^ k) (p ∷ band)) c
    by (inl o) = inl (SomeOf-append_left _ _ _ o)
    by (inr o) = inr (SomeOf-append_left _ _ _ o)
halves_have k top west (p ∷ band) c w (inr h) = further (halves_have k top (p.column +ℤ pos (2 ^ suc k)) band c w.4 h)
  where
    further : OnBand top (upper (2 ^ k) band) c ⊎ OnBand (top +ℤ pos (2 ^ k)) (lower (2 ^ k) band) c
        → OnBand top (upper (2 ^ k) (p ∷ band)) c ⊎ OnBand (top +ℤ pos (2 ^ k)) (lower (2 ^ k) (p ∷ band)) c
    further (inl o) = inl (SomeOf-append_right _ (northern (2 ^ k) p.square p.column) _ o)
    further (inr o) = inr (SomeOf-append_right _ (southern (2 ^ k) p.square p.column) _ o)

-- a cell of the quarters that are taken of each square of a band, with their north-west corners at `middle`, is one of the band
half_from : (k : ℕ) (top middle west : ℤ) (half : Piece → List Piece) (band : List Piece) (c : Cell)
    → ((p : Piece) → IsFull p.square → depth p.square ≡ suc k → OnBand middle (half p) c → IsCellOf top p c) → IsBand (suc k) west band
    → OnBand middle (flat_map half band) c → OnBand top band c
half_from k top middle west half [] c from w h = absurd h
half_from k top middle west half (p ∷ band) c from w h = by (SomeOf-cases _ (half p) _ h)
    (half_from k top middle (p.column +ℤ pos (2 ^ suc k)) half band c from w.4)
  where
    by : OnBand middle (half p) c ⊎ OnBand middle (flat_map half band) c → (OnBand middle (flat_map half band) c → OnBand top band c) → OnBand top (p ∷ band) c
    by (inl o) f = inl (from p w.0 w.1 o)
    by (inr o) f = inr (f o)

-- the cell is in the list
abbrev pub Has : List Cell → Cell → Type 0
Has cells c = SomeOf (λ d. d ≡ c) cells

abbrev here : ℤ → Piece → Cell
here top p = record { x = p.column; y = top; state = state_at p.square 0 0 }

-- the one cell of a square of level 0
only_cell : (top : ℤ) (t : Tree) (column : ℤ) (c : Cell) → depth t ≡ 0 → IsCellOf top (piece t column) c → here top (piece t column) ≡ c
only_cell top t column c d h =
    let none : 2 ^ depth t ≡ 1 = ap (λ n. 2 ^ n) d in
    let i : h.i ≡ 0 = let l = h.nonzero.column in omega arith in
    let j : h.j ≡ 0 = let l = h.nonzero.row in omega arith in
    let hx = h.x in
    let hy = h.y in
    let x : column ≡ c.x = omega (arith, ints) in
    let y : top ≡ c.y = omega (arith, ints) in
    let state : state_at t 0 0 ≡ c.state = (λ z. state_at t (sym i z) (sym j z)) ∙ h.state in
    λ z. record { x = x z; y = y z; state = state z }

cell_of_only : (top : ℤ) (t : Tree) (column : ℤ) (c : Cell) → IsFull t → depth t ≡ 0 → is_blank_tree t ≡ false → here top (piece t column) ≡ c
    → IsCellOf top (piece t column) c
cell_of_only top (quad a b u v) column c f d n h = absurd (omega arith)
cell_of_only top (point s) column c f d n h =
    record {
      i = 0;
      j = 0;
      nonzero = record { column = omega arith; row = omega arith; state = λ e. true≢false (sym (ap (λ n. n == 0) e) ∙ n) };
      x = let e = ap (λ c. c.x) h in omega (arith, ints, e);
      y = let e = ap (λ c. c.y) h in omega (arith, ints, e);
      state = ap (λ c. c.state) h;
    }

row_has : (top west : ℤ) (band : List Piece) (c : Cell) → IsBand 0 west band → OnBand top band c → Has (row_cells top band) c
row_has top west [] c w h = absurd h
row_has top west (p ∷ band) c w (inl h) = inl (only_cell top p.square p.column c w.1 h)
row_has top west (p ∷ band) c w (inr h) = inr (row_has top (p.column +ℤ pos 1) band c w.4 h)

row_from : (top west : ℤ) (band : List Piece) (c : Cell) → IsBand 0 west band → Has (row_cells top band) c → OnBand top band c
row_from top west [] c w h = absurd h
row_from top west (p ∷ band) c w (inl h) = inl (cell_of_only top p.square p.column c w.0 w.1 w.2 h)
row_from top west (p ∷ band) c w (inr h) = inr (row_from top (p.column +ℤ pos 1) band c w.4 h)

-- the list has the nonzero cells of the band, and no others
pub band_has : (k : ℕ) (top west : ℤ) (band : List Piece) (c : Cell) → IsBand k west band → OnBand top band c → Has (band_cells k top band) c
band_has zero top west band c w h = row_has top west band c w h
band_has (suc k) top west band c w h =
    by (halves_have k top west band c w h) (band_has k top west (upper (2 ^ k) band) c (IsBand-upper k west band w))
    (band_has k (top +ℤ pos (2 ^ k)) west (lower (2 ^ k) band) c (IsBand-lower k west band w))
  where
    by : OnBand top (upper (2 ^ k) band) c ⊎ OnBand (top +ℤ pos (2 ^ k)) (lower (2 ^ k) band) c
        → (OnBand top (upper (2 ^ k) band) c → Has (band_cells k top (upper (2 ^ k) band)) c)
        → (OnBand (top +ℤ pos (2 ^ k)) (lower (2 ^ k) band) c → Has (band_cells k (top +ℤ pos (2 ^ k)) (lower (2 ^ k) band)) c)
        → Has (band_cells (suc k) top band) c
    by (inl o) f g = SomeOf-append_left _ _ _ (f o)
    by (inr o) f g = SomeOf-append_right _ (band_cells k top (upper (2 ^ k) band)) _ (g o)

pub band_from : (k : ℕ) (top west : ℤ) (band : List Piece) (c : Cell) → IsBand k west band → Has (band_cells k top band) c → OnBand top band c
band_from zero top west band c w h = row_from top west band c w h
band_from (suc k) top west band c w h =
    by (SomeOf-cases _ (band_cells k top (upper (2 ^ k) band)) _ h) (band_from k top west (upper (2 ^ k) band) c (IsBand-upper k west band w))
    (band_from k (top +ℤ pos (2 ^ k)) west (lower (2 ^ k) band) c (IsBand-lower k west band w))
  where
    by : Has (band_cells k top (upper (2 ^ k) band)) c ⊎ Has (band_cells k (top +ℤ pos (2 ^ k)) (lower (2 ^ k) band)) c
        → (Has (band_cells k top (upper (2 ^ k) band)) c → OnBand top (upper (2 ^ k) band) c)
        → (Has (band_cells k (top +ℤ pos (2 ^ k)) (lower (2 ^ k) band)) c → OnBand (top +ℤ pos (2 ^ k)) (lower (2 ^ k) band) c) → OnBand top band c
    by (inl o) f g = half_from k top top west _ band c (λ p. northern_from k top p.square p.column c) w (f o)
    by (inr o) f g = half_from k top _ west _ band c (λ p. southern_from k top p.square p.column c) w (g o)

-- a band without squares has no cells
pub no_cells : (k : ℕ) (top : ℤ) → band_cells k top [] ≡ []
no_cells zero top = refl
no_cells (suc k) top = (λ i. no_cells k top i ++ no_cells k (top +ℤ pos (2 ^ k)) i)

-- the cells of a band by those of its halves
pub band_step : (level : ℕ) (top middle : ℤ) (band : List Piece) → 1 ≤ level → middle ≡ top +ℤ pos (2 ^ (level - 1))
    → band_cells level top band ≡ band_cells (level - 1) top (upper (2 ^ (level - 1)) band) ++ band_cells (level - 1) middle (lower (2 ^ (level - 1)) band)
band_step zero top middle band low e = absurd (omega arith)
band_step (suc k) top middle band low e =
    let same : k ≡ suc k - 1 = omega arith in
    (λ i. band_cells (same i) top (upper (2 ^ same i) band) ++ band_cells (same i) (top +ℤ pos (2 ^ same i)) (lower (2 ^ same i) band))
    ∙ ap (λ m. band_cells (suc k - 1) top (upper (2 ^ (suc k - 1)) band) ++ band_cells (suc k - 1) m (lower (2 ^ (suc k - 1)) band)) (sym e)

pub InBand-upper : (level : ℕ) (band : List Piece) → 1 ≤ level → InBand level band → InBand (level - 1) (upper (2 ^ (level - 1)) band)
InBand-upper zero band low h = absurd (omega arith)
InBand-upper (suc k) band low (west, h) =
    let same : k ≡ suc k - 1 = omega arith in (west, subst (λ n. IsBand n west (upper (2 ^ n) band)) same (IsBand-upper k west band h))

pub InBand-lower : (level : ℕ) (band : List Piece) → 1 ≤ level → InBand level band → InBand (level - 1) (lower (2 ^ (level - 1)) band)
InBand-lower zero band low h = absurd (omega arith)
InBand-lower (suc k) band low (west, h) =
    let same : k ≡ suc k - 1 = omega arith in (west, subst (λ n. IsBand n west (lower (2 ^ n) band)) same (IsBand-lower k west band h))

-- what a band has after the two northern, or the two southern, quarters of a square were kept
pub quarters_kept : (half : ℕ) (a b : Tree) (column first second : ℤ) (old more all quarters : List Piece)
    → quarters ≡ piece_unless_blank a column ++ piece_unless_blank b (column +ℤ pos half) → first ≡ column → second ≡ column +ℤ pos half
    → more ≡ old ++ piece_unless_blank a first → all ≡ more ++ piece_unless_blank b second → all ≡ old ++ quarters
quarters_kept half a b column first second old more all quarters e f g one two =
    two ∙ ap (λ l. l ++ piece_unless_blank b second) one ∙ append_assoc old _ _ ∙ (λ i. old ++ (piece_unless_blank a (f i) ++ piece_unless_blank b (g i)))
    ∙ ap (λ l. old ++ l) (sym e)
