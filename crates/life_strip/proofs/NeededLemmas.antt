-- Facts about the squares that a call needs.
use Rattle.life_base.specs.declared.cell.TheConstants.{MAX_LEVEL}
use Rattle.std.proofs.Common.{inl, inr, ◌≡◌, ℕ, suc, ◌+◌, ◌-◌, ◌*◌, ◌/◌, ◌%◌, ◌^◌, ◌≤◌, ◌<◌, Bool, true, false, nat_lt, List, [], ◌∷◌, ◌++◌, Option, Some, None, sym, ◌∙◌, ap, subst, refl, arith, if◌then◌else◌, pow-add, append_assoc}
use Rattle.std.proofs.lemmas.Bool.{cases_lt}
use Rattle.std.proofs.lemmas.Nat.{div-mul-add, mod-mul-add, pow_below}
use Rattle.std.proofs.Math.Nat.{mul_assoc, mul_comm, add-mul, mul-le-mul_left}
use Rattle.life_quad.specs.declared.id.Id.{Id}
use Rattle.life_base.specs.Tree.{Tree, depth, state_at, IsFull}
use Rattle.life_base.proofs.Squares.{full-blank, at_nw, at_ne, at_sw, at_se}
use Rattle.life_base.proofs.Basics.{twice}
use Rattle.life_strip.specs.declared.spans.Span.{Span}
use Rattle.life_strip.specs.declared.spans.Strip.{Strip}
use Rattle.life_strip.specs.Strip.{id_at, square_or_blank, square_at, quad_at, IsStrip}
use Rattle.life_strip.specs.Picture.{state_in_strip, picture, height, AreFalling, IsLowest}
use Rattle.life_strip.specs.Needed.{SomeSquare}
use Rattle.life_strip.proofs.SpanLemmas.{depth-square_at}
use Rattle.life_strip.proofs.PictureLemmas.{height-push, lowest-init}

-- the same square, of another property, in another picture with the same states on the plane above the rows, and with as many rows or more
pub SomeSquare-as : {P Q : Tree → Type 0} {f g : ℕ → ℕ → ℕ} {rows more : ℕ} → rows ≤ more
    → ((i j : ℕ) → i < 2 ^ MAX_LEVEL → j < rows → f i j ≡ g i j) → (s : SomeSquare P rows f) → Q s.square → SomeSquare Q more g
SomeSquare-as le e s p =
    record {
      square = s.square;
      full = s.full;
      deep = s.deep;
      column = s.column;
      row = s.row;
      east = s.east;
      south = omega (arith, s.south, le);
      cells = λ i j li lj. s.cells i j li lj
          ∙ e (s.column * 2 ^ depth s.square + i) (s.row * 2 ^ depth s.square + j)
          (let h = s.east in let one = add-mul s.column 1 (2 ^ depth s.square) in omega (arith, h, one, li))
          (let h = s.south in let one = add-mul s.row 1 (2 ^ depth s.square) in omega (arith, h, one, lj));
      property = p;
    }

-- of the same property
pub SomeSquare-within : {P : Tree → Type 0} {f g : ℕ → ℕ → ℕ} {rows more : ℕ} → rows ≤ more → ((i j : ℕ) → i < 2 ^ MAX_LEVEL → j < rows → f i j ≡ g i j)
    → SomeSquare P rows f → SomeSquare P more g
SomeSquare-within le e s = SomeSquare-as le e s s.property

-- of another picture with the same states everywhere
pub SomeSquare-same : {P : Tree → Type 0} {f g : ℕ → ℕ → ℕ} {rows more : ℕ} → rows ≤ more → ((i j : ℕ) → f i j ≡ g i j) → SomeSquare P rows f
    → SomeSquare P more g
SomeSquare-same le e s = SomeSquare-within le (λ i j li lj. e i j) s

-- a square of some rows is one of more rows, where as many are above it as a multiple of them
pub SomeSquare-under : {P : Tree → Type 0} {f g : ℕ → ℕ → ℕ} (above top times : ℕ) → above ≡ times * 2 ^ top → ((i j : ℕ) → g i (above + j) ≡ f i j)
    → SomeSquare P (2 ^ top) f → SomeSquare P (above + 2 ^ top) g
SomeSquare-under {P} {f} {g} above top times whole same s =
    record {
      square = s.square;
      full = s.full;
      deep = s.deep;
      column = s.column;
      row = places + s.row;
      east = s.east;
      south = let e = add-mul places (s.row + 1) side in let f : places + s.row + 1 ≡ places + (s.row + 1) = omega arith in let g = ap (λ n. n * side) f in
          let h = s.south in let r = tall in omega (arith, r, e, g, h);
      cells = λ i j li lj. s.cells i j li lj ∙ sym (same (s.column * side + i) (s.row * side + j))
          ∙ ap (g (s.column * side + i)) (let e = add-mul places s.row side in let r = tall in omega (arith, r, e));
      property = s.property;
    }
  where
    side : ℕ
    side = 2 ^ depth s.square

    level : depth s.square ≤ top
    level = elim (cases_lt top (depth s.square)) [
      | inl lt ↦
          let more = pow_below top (depth s.square) lt in
          let one = add-mul s.row 1 side in
          let h = s.south in
          absurd (omega (arith, more, one, h))
      | inr le ↦ le
    ]

    places : ℕ
    places = times * 2 ^ (top - depth s.square)

    tall : above ≡ places * side
    tall =
        let sum : top ≡ top - depth s.square + depth s.square = (let l = level in omega (arith, l)) in
        whole ∙ ap (λ n. times * 2 ^ n) sum ∙ ap (λ n. times * n) (pow-add 2 (top - depth s.square) (depth s.square))
        ∙ sym (mul_assoc times (2 ^ (top - depth s.square)) (2 ^ depth s.square))

-- each square of a strip is full, and so are four of two strips
module _ (knows : Id → Type 0) (content : Id → Tree) (full : (id : Id) → knows id → IsFull (content id)) (level : ℕ) where
  full-square_at : (spans : List Span) → IsStrip knows content level spans → (c : ℕ) → IsFull (square_at content level spans c)
  full-square_at spans s c = by (id_at spans c) refl
    where
      by : (o : Option Id) → id_at spans c ≡ o → IsFull (square_at content level spans c)
      by None e = subst (λ o. IsFull (square_or_blank content level o)) (sym e) (full-blank level)
      by (Some id) e = subst (λ o. IsFull (square_or_blank content level o)) (sym e) (full id (s c id e).0)

  pub full-quad_at : (upper lower : List Span) → IsStrip knows content level upper → IsStrip knows content level lower → (c : ℕ)
      → IsFull (quad_at content level upper lower c)
  full-quad_at upper lower u l c =
      let du = depth-square_at knows content level upper u in
      let dl = depth-square_at knows content level lower l in
      let nw = sym (du (2 * c)) in (
        full-square_at upper u (2 * c),
        full-square_at upper u (2 * c + 1),
        full-square_at lower l (2 * c),
        full-square_at lower l (2 * c + 1),
        du (2 * c + 1) ∙ nw,
        dl (2 * c) ∙ nw,
        dl (2 * c + 1) ∙ nw,
      )

-- the squares of a level in a column of squares twice as wide
column_west : (c i m : ℕ) → i < m → ((c * (2 * m) + i) / m ≡ 2 * c) × ((c * (2 * m) + i) % m ≡ i)
column_west c i m h =
    let two : c * 2 ≡ 2 * c = omega arith in
    let first : c * (2 * m) ≡ 2 * c * m = sym (mul_assoc c 2 m) ∙ ap (λ z. z * m) two in
    let whole : c * (2 * m) + i ≡ 2 * c * m + i = ap (λ z. z + i) first in
    (ap (λ z. z / m) whole ∙ div-mul-add (2 * c) m i h, ap (λ z. z % m) whole ∙ mod-mul-add (2 * c) m i h)

column_east : (c i m : ℕ) → m ≤ i → i < 2 * m → ((c * (2 * m) + i) / m ≡ 2 * c + 1) × ((c * (2 * m) + i) % m ≡ i - m)
column_east c i m h below =
    let two : c * 2 ≡ 2 * c = omega arith in
    let first : c * (2 * m) ≡ 2 * c * m = sym (mul_assoc c 2 m) ∙ ap (λ z. z * m) two in
    let one : (2 * c + 1) * m ≡ 2 * c * m + m = add-mul (2 * c) 1 m ∙ (omega arith) in
    let small : i - m < m = omega (arith, h, below) in
    let whole : c * (2 * m) + i ≡ (2 * c + 1) * m + (i - m) = omega (arith, first, one, h) in
    (ap (λ z. z / m) whole ∙ div-mul-add (2 * c + 1) m (i - m) small, ap (λ z. z % m) whole ∙ mod-mul-add (2 * c + 1) m (i - m) small)

-- the rows below some strips
pub picture-below : (content : Id → Tree) (xs ys : List Strip) (i j : ℕ) → picture content (xs ++ ys) i (height xs + j) ≡ picture content ys i j
picture-below content [] ys i j = ap (picture content ys i) (omega arith)
picture-below content (x ∷ xs) ys i j =
    let out : nat_lt (2 ^ x.level + height xs + j) (2 ^ x.level) ≡ false = grind arith in
    let back : 2 ^ x.level + height xs + j - 2 ^ x.level ≡ height xs + j = omega arith in
    ap (λ b. if b then state_in_strip content x i (2 ^ x.level + height xs + j) else picture content (xs ++ ys) i (2 ^ x.level + height xs + j - 2 ^ x.level))
    out
    ∙ ap (picture content (xs ++ ys) i) back ∙ picture-below content xs ys i j

-- strips of a level or more have a number of rows that its squares divide
pub height-divided : (xs : List Strip) (n : ℕ) → IsLowest n xs → (r : ℕ) × (height xs ≡ r * 2 ^ n)
height-divided [] n h = (0, omega arith)
height-divided (x ∷ xs) n h =
    let more = height-divided xs n (λ k d lt. h (suc k) d (omega (arith, lt))) in
    let low : n ≤ x.level = h 0 x (omega arith) in
    let level : x.level ≡ x.level - n + n = omega (arith, low) in
    let e : 2 ^ x.level ≡ 2 ^ (x.level - n) * 2 ^ n = ap (λ k. 2 ^ k) level ∙ pow-add 2 (x.level - n) n in
    (2 ^ (x.level - n) + more.0, (λ y. e y + more.1 y) ∙ sym (add-mul (2 ^ (x.level - n)) more.0 (2 ^ n)))

-- a column of squares of a level lies in the plane
pub in_plane : (level c : ℕ) → level ≤ MAX_LEVEL → c < 2 ^ (MAX_LEVEL - level) → (c + 1) * 2 ^ level ≤ 2 ^ MAX_LEVEL
in_plane level c low within =
    let most : 2 ^ level * (c + 1) ≤ 2 ^ level * 2 ^ (MAX_LEVEL - level) = mul-le-mul_left (2 ^ level) (omega (arith, within)) in
    let sum : level + (MAX_LEVEL - level) ≡ MAX_LEVEL = omega (arith, low) in
    let whole : 2 ^ level * 2 ^ (MAX_LEVEL - level) ≡ 2 ^ MAX_LEVEL = sym (pow-add 2 level (MAX_LEVEL - level)) ∙ ap (λ n. 2 ^ n) sum in
    let turned = mul_comm (c + 1) (2 ^ level) in
    omega (arith, most, whole, turned)

-- a full square of a level with the cells of one place of a picture
pub SomeSquare-at : {P : Tree → Type 0} {rows : ℕ} {f : ℕ → ℕ → ℕ} (level column row : ℕ) (t : Tree) → IsFull t → depth t ≡ level → 1 ≤ level
    → level ≤ MAX_LEVEL → column < 2 ^ (MAX_LEVEL - level) → (row + 1) * 2 ^ level ≤ rows
    → ((i j : ℕ) → i < 2 ^ level → j < 2 ^ level → state_at t i j ≡ f (column * 2 ^ level + i) (row * 2 ^ level + j)) → P t → SomeSquare P rows f
SomeSquare-at {rows = rows} {f = f} level column row t full same deep low east south cells p =
    record {
      square = t;
      full = full;
      deep = omega (arith, same, deep);
      column = column;
      row = row;
      east = subst (λ n. (column + 1) * 2 ^ n ≤ 2 ^ MAX_LEVEL) (sym same) (in_plane level column low east);
      south = subst (λ n. (row + 1) * 2 ^ n ≤ rows) (sym same) south;
      cells = subst (λ n. (i j : ℕ) → i < 2 ^ n → j < 2 ^ n → state_at t i j ≡ f (column * 2 ^ n + i) (row * 2 ^ n + j)) (sym same) cells;
      property = p;
    }

module _ (knows : Id → Type 0) (content : Id → Tree) (a b : Strip) (sound : IsStrip knows content a.level a.spans.items) (same : b.level ≡ a.level) (c : ℕ)
  where
    abbrev m : ℕ
    m = 2 ^ a.level

    abbrev u : ℕ → Tree
    u = square_at content a.level a.spans.items

    abbrev l : ℕ → Tree
    l = square_at content a.level b.spans.items

    deep : 2 ^ depth (u (2 * c)) ≡ m
    deep = ap (λ z. 2 ^ z) (depth-square_at knows content a.level a.spans.items sound (2 * c))

    -- the cells of four squares of two strips
    pub quad-cells : (i j : ℕ) → i < 2 * m → j < 2 * m
        → state_at (quad_at content a.level a.spans.items b.spans.items c) i j ≡ picture content (a ∷ b ∷ []) (c * (2 * m) + i) j
    quad-cells i j li lj = by (nat_lt j m) refl (nat_lt i m) refl
      where
        col : ℕ
        col = c * (2 * m) + i

        upper_row : nat_lt j m ≡ true → picture content (a ∷ b ∷ []) col j ≡ state_at (u (col / m)) (col % m) j
        upper_row e = ap (λ t. if t then state_in_strip content a col j else (if nat_lt (j - m) (2 ^ b.level) then state_in_strip content b col (j - m) else 0))
            e

        lower_row : nat_lt j m ≡ false → picture content (a ∷ b ∷ []) col j ≡ state_at (l (col / m)) (col % m) (j - m)
        lower_row e =
            let v : 2 ^ b.level ≡ m = ap (λ n. 2 ^ n) same in
            let beyond : m ≤ j = grind (arith, e) in
            let small : j - m < 2 ^ b.level = omega (arith, lj, beyond, v) in
            let t : nat_lt (j - m) (2 ^ b.level) ≡ true = grind (arith, small) in
            ap (λ t. if t then state_in_strip content a col j else (if nat_lt (j - m) (2 ^ b.level) then state_in_strip content b col (j - m) else 0)) e
            ∙ ap (λ t. if t then state_in_strip content b col (j - m) else 0) t
            ∙ (λ x. state_at (square_at content (same x) b.spans.items (col / 2 ^ same x)) (col % 2 ^ same x) (j - m))

        by : (p : Bool) → nat_lt j m ≡ p → (q : Bool) → nat_lt i m ≡ q
            → state_at (quad_at content a.level a.spans.items b.spans.items c) i j ≡ picture content (a ∷ b ∷ []) col j
        by true e true f =
            let w = column_west c i m (grind (arith, f)) in
            at_nw (u (2 * c)) (u (2 * c + 1)) (l (2 * c)) (l (2 * c + 1)) i j (ap (nat_lt j) deep ∙ e) (ap (nat_lt i) deep ∙ f)
            ∙ sym (upper_row e ∙ (λ x. state_at (u (w.0 x)) (w.1 x) j))
        by true e false f =
            let w = column_east c i m (grind (arith, f)) li in
            at_ne (u (2 * c)) (u (2 * c + 1)) (l (2 * c)) (l (2 * c + 1)) i j (ap (nat_lt j) deep ∙ e) (ap (nat_lt i) deep ∙ f)
            ∙ ap (λ n. state_at (u (2 * c + 1)) (i - n) j) deep ∙ sym (upper_row e ∙ (λ x. state_at (u (w.0 x)) (w.1 x) j))
        by false e true f =
            let w = column_west c i m (grind (arith, f)) in
            at_sw (u (2 * c)) (u (2 * c + 1)) (l (2 * c)) (l (2 * c + 1)) i j (ap (nat_lt j) deep ∙ e) (ap (nat_lt i) deep ∙ f)
            ∙ ap (λ n. state_at (l (2 * c)) i (j - n)) deep ∙ sym (lower_row e ∙ (λ x. state_at (l (w.0 x)) (w.1 x) (j - m)))
        by false e false f =
            let w = column_east c i m (grind (arith, f)) li in
            at_se (u (2 * c)) (u (2 * c + 1)) (l (2 * c)) (l (2 * c + 1)) i j (ap (nat_lt j) deep ∙ e) (ap (nat_lt i) deep ∙ f)
            ∙ ap (λ n. state_at (l (2 * c + 1)) (i - n) (j - n)) deep ∙ sym (lower_row e ∙ (λ x. state_at (l (w.0 x)) (w.1 x) (j - m)))

    -- they are a square of the picture, below strips of higher levels
    pub SomeSquare-pair : (P : Tree → Type 0) (xs : List Strip) → ((id : Id) → knows id → IsFull (content id)) → IsStrip knows content a.level b.spans.items
        → AreFalling (xs ++ a ∷ []) → a.level < MAX_LEVEL → c < 2 ^ (MAX_LEVEL - (a.level + 1)) → P (quad_at content a.level a.spans.items b.spans.items c)
        → SomeSquare P (height (xs ++ a ∷ []) + 2 ^ b.level) (picture content ((xs ++ a ∷ []) ++ b ∷ []))
    SomeSquare-pair P xs full lower falling low within p =
        record {
          square = square;
          full = full-quad_at knows content full a.level a.spans.items b.spans.items sound lower c;
          deep = omega (arith, level);
          column = c;
          row = rows.0;
          east = subst (λ n. (c + 1) * 2 ^ n ≤ 2 ^ MAX_LEVEL) (sym level) (in_plane (suc a.level) c low (subst (λ n. c < 2 ^ (MAX_LEVEL - n)) deeper within));
          south = let h = height-push xs a in omega (arith, next, above, side, h, below);
          cells = λ i j li lj. quad-cells i j (subst (λ n. i < n) side li) (subst (λ n. j < n) side lj)
              ∙ sym (picture-below content xs (a ∷ b ∷ []) (c * (2 * m) + i) j)
              ∙ (λ x. picture content (in_order x) (c * sym side x + i) (above x + j));
          property = p;
        }
      where
        square : Tree
        square = quad_at content a.level a.spans.items b.spans.items c

        level : depth square ≡ suc a.level
        level = ap suc (depth-square_at knows content a.level a.spans.items sound (2 * c))

        side : 2 ^ depth square ≡ 2 * m
        side = ap (λ n. 2 ^ n) level ∙ twice a.level

        rows : (r : ℕ) × (height xs ≡ r * 2 ^ suc a.level)
        rows = height-divided xs (suc a.level) (lowest-init xs a falling (suc a.level) refl)

        above : height xs ≡ rows.0 * 2 ^ depth square
        above = rows.1 ∙ ap (λ n. rows.0 * 2 ^ n) (sym level)

        deeper : a.level + 1 ≡ suc a.level
        deeper = omega arith

        below : 2 ^ b.level ≡ m
        below = ap (λ n. 2 ^ n) same

        next : (rows.0 + 1) * 2 ^ depth square ≡ rows.0 * 2 ^ depth square + 2 ^ depth square
        next = add-mul rows.0 1 (2 ^ depth square) ∙ (omega arith)

        in_order : xs ++ a ∷ b ∷ [] ≡ (xs ++ a ∷ []) ++ b ∷ []
        in_order = sym (append_assoc xs (a ∷ []) (b ∷ []))
