-- Facts about the square about the middle of the plane, by the coordinates of the plane.
use Rattle.std.proofs.Common.{◌≡◌, ℕ, suc, ◌+◌, ◌-◌, ◌*◌, ◌^◌, ◌≤◌, ◌<◌, inl, inr, Bool, true, false, ℤ, pos, ◌+ℤ◌, ◌-ℤ◌, refl, sym, ◌∙◌, ap, subst, arith}
use Rattle.std.proofs.lemmas.Bool.{cases_lt}
use Rattle.std.proofs.lemmas.Int.{ints}
use Rattle.std.proofs.Math.Pow.{pow_mono}
use Rattle.life_base.specs.declared.cell.TheConstants.{MAX_LEVEL}
use Rattle.life_base.specs.Tree.{Tree, depth, half_side, state_at, tree_cell}
use Rattle.life_base.proofs.Basics.{true_false, zero_unless}
use Rattle.life_base.proofs.Squares.{cell_inside, cell_outside, inside_facts, inside_offset, inside_test, is_inside}
use Rattle.life_strip.specs.Given.{by_columns, half_plane}
use Rattle.life_strip.specs.Middle.{AreAdjacent, AreSouth, IsAboutMiddle, IsBlankTo, IsLeastAdjacent, IsLeastSouth, IsMiddleSquare, IsSouthLevel, SomeAboutMiddle, SomeOfMiddle}
use Rattle.life_strip.specs.Needed.{SomeSquare}
use Rattle.life_strip.specs.Plane.{on_plane}
use Rattle.life_strip.proofs.MiddleLemmas.{middle-half}
use Rattle.life_strip.proofs.NeededLemmas.{SomeSquare-under, SomeSquare-within}
use Rattle.life_strip.proofs.PlaneLemmas.{plane_inside, plane_outside}

side-of : (level : ℕ) → 2 ^ (suc level - 1) ≡ 2 ^ level
side-of level = let one : suc level - 1 ≡ level = omega arith in ap (λ n. 2 ^ n) one

-- a picture of the plane by its coordinates, and by its columns again
module _ (f : ℕ → ℕ → ℕ) where
  -- a pair on the plane
  at-pair : (i j : ℕ) → i < 2 ^ MAX_LEVEL → j < 2 ^ MAX_LEVEL → by_columns (on_plane f) i j ≡ f i j
  at-pair i j li lj =
      let x = pos i -ℤ pos half_plane in
      let y = pos j -ℤ pos half_plane in
      let inside : is_inside half_plane x y ≡ true = inside_test half_plane x y
      (record { west = omega (arith, ints); east = omega (arith, ints, li); north = omega (arith, ints); south = omega (arith, ints, lj) }) in
      let column : x +ℤ pos half_plane ≡ pos i = omega (arith, ints) in
      let row : y +ℤ pos half_plane ≡ pos j = omega (arith, ints) in
      plane_inside f x y i j inside column row

  pub by-pairs : {P : Tree → Type 0} (rows : ℕ) → rows ≤ 2 ^ MAX_LEVEL → SomeSquare P rows f → SomeSquare P rows (by_columns (on_plane f))
  by-pairs rows most s = SomeSquare-within (omega arith) (λ i j li lj. sym (at-pair i j li (omega (arith, lj, most)))) s

  -- where a cell is
  pub record IsCellAt (x y : ℤ) : Type 0 where
    pub column : ℕ
    pub row : ℕ
    pub east : column < 2 ^ MAX_LEVEL
    pub south : row < 2 ^ MAX_LEVEL
    pub is_column : x +ℤ pos half_plane ≡ pos column
    pub is_row : y +ℤ pos half_plane ≡ pos row
    pub live : ¬ (f column row ≡ 0)

  pub cell-at : (x y : ℤ) → ¬ (on_plane f x y ≡ 0) → IsCellAt x y
  cell-at x y live = by (is_inside half_plane x y) refl
    where
      by : (b : Bool) → is_inside half_plane x y ≡ b → IsCellAt x y
      by false e = absurd (live (plane_outside f x y e))
      by true e =
          let k = inside_facts half_plane x y e in
          let a = inside_offset half_plane x k.west k.east in
          let b = inside_offset half_plane y k.north k.south in
          record {
            column = a.0;
            row = b.0;
            east = let l = a.2 in omega (arith, l);
            south = let l = b.2 in omega (arith, l);
            is_column = a.1;
            is_row = b.1;
            live = λ z. live (plane_inside f x y a.0 b.0 e a.1 b.1 ∙ z);
          }

  -- and a cell of the picture is one of the plane
  pair-of : (i j : ℕ) → i < 2 ^ MAX_LEVEL → j < 2 ^ MAX_LEVEL → ¬ (f i j ≡ 0) → ¬ (by_columns (on_plane f) i j ≡ 0)
  pair-of i j li lj live z = live (sym (at-pair i j li lj) ∙ z)

  -- ---- the whole plane

  -- no lower square has every cell in its southern half where no cell is so far south
  pub least-high : (rows : ℕ) → rows ≤ half_plane → ((i j : ℕ) → rows ≤ j → f i j ≡ 0) → (level : ℕ) → IsLeastSouth level (on_plane f)
  least-high rows few none level lower three lt south x y =
      zero_unless (on_plane f x y) (λ live.
      let c = cell-at x y live in
      let s = (south x y live).north in
      let r = c.is_row in
      c.live (none c.column c.row (omega (arith, ints, s, r, few))))

  -- where all are there no cell is in the northern half
  pub blank-north : (level : ℕ) → AreSouth level (on_plane f) → IsBlankTo half_plane f
  blank-north level south i j li lj =
      zero_unless (f i j) (λ live.
      let s = (south (pos i -ℤ pos half_plane) (pos j -ℤ pos half_plane) (pair-of i j li (omega (arith, lj)) live)).north in
      omega (arith, ints, s, lj))

  pub whole-level : IsLeastSouth MAX_LEVEL (on_plane f) → (level : ℕ) → level ≡ MAX_LEVEL → IsSouthLevel level (on_plane f)
  whole-level least level e = subst (λ (n : ℕ). IsSouthLevel n (on_plane f)) (sym e) (record {
    low = omega arith;
    high = omega arith;
    south = λ lt. absurd (omega (arith, lt));
    least = least;
  })

  pub whole-needs : IsLeastSouth MAX_LEVEL (on_plane f) → (P : Tree → Type 0) → SomeSquare P (2 ^ MAX_LEVEL) f → SomeAboutMiddle P (on_plane f)
  whole-needs least P s = record {
    level = MAX_LEVEL;
    low = omega arith;
    high = omega arith;
    least = least;
    some = inl (by-pairs (2 ^ MAX_LEVEL) (omega arith) s);
  }

  -- ---- the southern half

  module _ (g : ℕ → ℕ → ℕ) (rows : ℕ) (north : (i j : ℕ) → j < half_plane → f i j ≡ 0) (south : (i j : ℕ) → f i (half_plane + j) ≡ g i j)
      (beyond : (i j : ℕ) → rows < j → g i j ≡ 0) (last : (i : ℕ) × (i < 2 ^ MAX_LEVEL) × ¬ (g i rows ≡ 0)) (few : rows < half_plane) where
    -- a cell of the plane is one of the southern half
    pub record IsCellSouth (x y : ℤ) : Type 0 where
      column : ℕ
      row : ℕ
      east : column < 2 ^ MAX_LEVEL
      most : row ≤ rows
      is_column : x +ℤ pos half_plane ≡ pos column
      is_row : y ≡ pos row
      live : ¬ (g column row ≡ 0)

    south-at : (x y : ℤ) → ¬ (on_plane f x y ≡ 0) → IsCellSouth x y
    south-at x y live =
        let c = cell-at x y live in
        let below : half_plane ≤ c.row = elim (cases_lt c.row half_plane) [ inl lt ↦ absurd (c.live (north c.column c.row lt)) | inr le ↦ le ] in
        let row : ℕ = c.row - half_plane in
        let whole : half_plane + row ≡ c.row = omega (arith, below) in
        let same : f c.column c.row ≡ g c.column row = sym (ap (f c.column) whole) ∙ south c.column row in
        let live : ¬ (g c.column row ≡ 0) = λ z. c.live (same ∙ z) in
        record {
          column = c.column;
          row = row;
          east = c.east;
          most = elim (cases_lt rows row) [ inl lt ↦ absurd (live (beyond c.column row lt)) | inr le ↦ le ];
          is_column = c.is_column;
          is_row = let r = c.is_row in omega (arith, ints, r, whole);
          live = live;
        }

    -- a cell of the southern half is one of the plane
    plane-at : (i j : ℕ) → i < 2 ^ MAX_LEVEL → j < half_plane → ¬ (g i j ≡ 0) → ¬ (on_plane f (pos i -ℤ pos half_plane) (pos j) ≡ 0)
    plane-at i j li lj live z =
        let row : pos (half_plane + j) -ℤ pos half_plane ≡ pos j = omega (arith, ints) in
        pair-of i (half_plane + j) li (omega (arith, lj)) (λ e. live (sym (south i j) ∙ e)) (ap (on_plane f (pos i -ℤ pos half_plane)) row ∙ z)

    are-south : (level : ℕ) → rows < 2 ^ level → AreAdjacent level g → AreSouth (suc level) (on_plane f)
    are-south level enough adjacent x y live =
        let c = south-at x y live in
        let b = adjacent c.column c.row c.east c.live in
        let p = c.is_column in
        let q = c.is_row in
        let m = c.most in
        let w = b.0 in
        let e = b.1 in
        let o = side-of level in
        record {
          west = omega (arith, ints, p, w, o);
          east = omega (arith, ints, p, e, o);
          north = omega (arith, ints, q);
          south = omega (arith, ints, q, m, enough, o);
        }

    least-south : (level : ℕ) → IsLeastAdjacent level rows g → IsLeastSouth (suc level) (on_plane f)
    least-south level least lower three lt are =
        let l = last in
        let corner = (are (pos l.0 -ℤ pos half_plane) (pos rows) (plane-at l.0 rows l.1 few l.2)).south in
        absurd (least (lower - 1) (omega (arith, three)) (omega (arith, three, lt)) (omega (arith, ints, corner)) adjacent)
      where
        adjacent : AreAdjacent (lower - 1) g
        adjacent i j li live =
            let within : j ≤ rows = elim (cases_lt rows j) [ inl lt ↦ absurd (live (beyond i j lt)) | inr le ↦ le ] in
            let k = few in
            let s = are (pos i -ℤ pos half_plane) (pos j) (plane-at i j li (omega (arith, within, k)) live) in
            let w = s.west in
            let e = s.east in
            (omega (arith, ints, w), omega (arith, ints, e))

    -- the square about the middle has every cell
    module _ (level : ℕ) (high : level < MAX_LEVEL) (enough : rows < 2 ^ level) (adjacent : AreAdjacent level g) (t : Tree)
        (square : IsAboutMiddle level g t) where
      half : half_side t ≡ 2 ^ level
      half = ap (λ n. 2 ^ (n - 1)) square.deep ∙ side-of level

      low : 2 ^ level ≤ half_plane
      low = pow_mono {i = level} {j = MAX_LEVEL - 1} (omega (arith, high))

      -- outside of it there is none
      outside-none : (x y : ℤ) → is_inside (half_side t) x y ≡ false → on_plane f x y ≡ 0
      outside-none x y e =
          zero_unless (on_plane f x y) (λ live.
          let s = are-south level enough adjacent x y live in
          let h = half in
          let w = s.west in
          let a = s.east in
          let n = s.north in
          let b = s.south in
          let o = side-of level in
          let inside : is_inside (half_side t) x y ≡ true = inside_test (half_side t) x y
          (record {
            west = omega (arith, ints, h, w, o);
            east = omega (arith, ints, h, a, o);
            north = omega (arith, ints, n);
            south = omega (arith, ints, h, b, o);
          }) in
          true_false (is_inside (half_side t) x y) inside e)

      -- and inside there are those of the plane
      inside-same : (x y : ℤ) (n m : ℕ) → is_inside (half_side t) x y ≡ true → x +ℤ pos (half_side t) ≡ pos n → y +ℤ pos (half_side t) ≡ pos m
          → n < 2 * 2 ^ level → m < 2 * 2 ^ level → tree_cell t x y ≡ on_plane f x y
      inside-same x y n m e p q ln lm = elim (cases_lt m (2 ^ level)) [
        | inl lt ↦
            (let h = half in
            let l = low in
            cell_inside t x y n m e p q ∙ square.northern n m ln lt
            ∙ sym (zero_unless (on_plane f x y) (λ live.
            let s = (are-south level enough adjacent x y live).north in
            omega (arith, ints, q, h, lt, s))))
        | inr le ↦
            (let h = half in
            let l = low in
            let j : ℕ = m - 2 ^ level in
            let back : 2 ^ level + j ≡ m = omega (arith, le) in
            let column : x +ℤ pos half_plane ≡ pos (half_plane - 2 ^ level + n) = omega (arith, ints, p, h, l) in
            let row : y +ℤ pos half_plane ≡ pos (half_plane + j) = omega (arith, ints, q, h, back) in
            let plane : is_inside half_plane x y ≡ true = inside_test half_plane x y
            (record {
              west = omega (arith, ints, column);
              east = omega (arith, ints, p, h, l, ln);
              north = omega (arith, ints, row);
              south = omega (arith, ints, q, h, l, lm);
            }) in
            cell_inside t x y n m e p q ∙ sym (ap (state_at t n) back) ∙ square.southern n j ln (omega (arith, lm, le))
            ∙ sym (south (half_plane - 2 ^ level + n) j) ∙ sym (plane_inside f x y (half_plane - 2 ^ level + n) (half_plane + j) plane column row))
      ]

      middle-cells : (x y : ℤ) → tree_cell t x y ≡ on_plane f x y
      middle-cells x y = by (is_inside (half_side t) x y) refl
        where
          by : (b : Bool) → is_inside (half_side t) x y ≡ b → tree_cell t x y ≡ on_plane f x y
          by false e = cell_outside t x y e ∙ sym (outside-none x y e)
          by true e =
              let k = inside_facts (half_side t) x y e in
              let a = inside_offset (half_side t) x k.west k.east in
              let b = inside_offset (half_side t) y k.north k.south in
              let h = half in
              let c = a.2 in
              let d = b.2 in
              inside-same x y a.0 b.0 e a.1 b.1 (omega (arith, h, c)) (omega (arith, h, d))

    pub cells-of-middle : (t : Tree) → IsMiddleSquare rows g t → (x y : ℤ) → tree_cell t x y ≡ on_plane f x y
    cells-of-middle t is = middle-cells is.level is.high is.enough is.adjacent t is.square

    pub level-of-middle : (t : Tree) → IsMiddleSquare rows g t → IsSouthLevel (depth t) (on_plane f)
    level-of-middle t is = subst (λ (n : ℕ). IsSouthLevel n (on_plane f)) (sym is.square.deep) (record {
      low = let l = is.low in omega (arith, l);
      high = let h = is.high in omega (arith, h);
      south = λ lt. are-south is.level is.enough is.adjacent;
      least = least-south is.level is.least;
    })

    pub needs-of-middle : (P : Tree → Type 0) → SomeOfMiddle P rows g → SomeAboutMiddle P (on_plane f)
    needs-of-middle P s = elim s.some [
      | inl rest ↦
          record {
            level = suc s.level;
            low = let l = s.low in omega (arith, l);
            high = let h = s.high in omega (arith, h);
            least = least-south s.level s.least;
            some = inl (rows-of s.level s.high rest);
          }
      | inr whole ↦
          record {
            level = suc whole.1.level;
            low = let l = whole.1.low in omega (arith, l);
            high = let h = whole.1.high in omega (arith, h);
            least = least-south whole.1.level whole.1.least;
            some = inr (record {
              square = whole.0;
              full = whole.1.square.full;
              deep = whole.1.square.deep;
              cells = cells-of-middle whole.0 whole.1;
              south = are-south whole.1.level whole.1.enough whole.1.adjacent;
              property = whole.2;
            });
          }
    ]
      where
        rows-of : (level : ℕ) → level < MAX_LEVEL → SomeSquare P (2 ^ level) g → SomeSquare P (half_plane + 2 ^ (suc level - 1)) (by_columns (on_plane f))
        rows-of level high rest =
            let p = pow_mono {i = level} {j = MAX_LEVEL - 1} (omega (arith, high)) in
            let o = side-of level in
            by-pairs (half_plane + 2 ^ (suc level - 1)) (omega (arith, p, o))
            (SomeSquare-within (omega (arith, o)) (λ i j li lj. refl)
            (SomeSquare-under half_plane level (2 ^ (MAX_LEVEL - 1 - level)) (sym (middle-half level high)) south rest))

-- the square of the whole plane has the cells of the picture
pub whole-cells : (f : ℕ → ℕ → ℕ) (t : Tree) → depth t ≡ MAX_LEVEL → ((i j : ℕ) → i < 2 ^ MAX_LEVEL → j < 2 ^ MAX_LEVEL → state_at t i j ≡ f i j) → (x y : ℤ)
    → tree_cell t x y ≡ on_plane f x y
whole-cells f t deep cells x y = by (is_inside (half_side t) x y) refl
  where
    half : half_side t ≡ half_plane
    half = ap (λ n. 2 ^ (n - 1)) deep

    by : (b : Bool) → is_inside (half_side t) x y ≡ b → tree_cell t x y ≡ on_plane f x y
    by false e = cell_outside t x y e ∙ sym (plane_outside f x y (sym (ap (λ h. is_inside h x y) half) ∙ e))
    by true e =
        let k = inside_facts (half_side t) x y e in
        let a = inside_offset (half_side t) x k.west k.east in
        let b = inside_offset (half_side t) y k.north k.south in
        let h = half in
        let p = a.1 in
        let q = b.1 in
        let c = a.2 in
        let d = b.2 in
        cell_inside t x y a.0 b.0 e a.1 b.1 ∙ cells a.0 b.0 (omega (arith, h, c)) (omega (arith, h, d))
        ∙ sym (plane_inside f x y a.0 b.0 (sym (ap (λ h. is_inside h x y) half) ∙ e) (omega (arith, ints, h, p)) (omega (arith, ints, h, q)))
