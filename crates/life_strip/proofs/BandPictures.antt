-- Facts about the cells of four rows, below strips and alone.
use Rattle.std.proofs.Common.{◌≡◌, ℕ, zero, suc, ◌+◌, ◌-◌, ◌*◌, ◌/◌, ◌%◌, ◌^◌, ◌≤◌, ◌<◌, inl, inr, Bool, true, false, nat_lt, List, [], ◌∷◌, ◌++◌, length, get_or, All, refl, sym, ◌∙◌, ap, subst, arith, if◌then◌else◌, div-add-mod', pow-add}
use Rattle.std.proofs.lemmas.Nat.{mod_below}
use Rattle.life_base.specs.declared.cell.TheConstants.{MAX_LEVEL}
use Rattle.life_base.specs.Tree.{Tree, state_at, IsFull}
use Rattle.life_quad.specs.declared.id.Id.{Id}
use Rattle.life_quad.specs.Refused.{SomePart}
use Rattle.life_strip.specs.declared.blocks.Block.{Block}
use Rattle.life_strip.specs.declared.pile.Pile.{Pile}
use Rattle.life_strip.specs.declared.row.Row.{Row}
use Rattle.life_strip.specs.declared.spans.Strip.{Strip}
use Rattle.life_strip.specs.Blocks.{cell_in_blocks, cells_at_block, four_in, two_in}
use Rattle.life_strip.specs.Needed.{SomeSquare}
use Rattle.life_strip.specs.Picture.{picture, height, AreFalling, AreStacked, IsLowest, IsSoundStrip}
use Rattle.life_strip.specs.Pile.{IsPile, pile_height}
use Rattle.life_strip.specs.Row.{row_state, rows_state, state_with_rows}
use Rattle.life_strip.specs.Strip.{square_at}
use Rattle.life_strip.proofs.SpanLemmas.{Keeps}
use Rattle.life_strip.proofs.PictureLemmas.{positive_power, height-falling, state_in-keeps}
use Rattle.life_strip.proofs.NeededLemmas.{height-divided, SomeSquare-at, SomeSquare-under}
use Rattle.life_strip.proofs.RowLemmas.{row-of-blocks, rows-beyond, with-below}
use Rattle.std.proofs.lemmas.List.Elements.{All-tail}

-- strips of falling levels are of level 2 or more where four divides their height
pub lowest-by-height : (xs : List Strip) (k : ℕ) → AreFalling xs → height xs ≡ k * 4 → IsLowest 2 xs
lowest-by-height [] k fall e = λ j d lt. absurd (omega (arith, lt))
lowest-by-height (x ∷ xs) k fall e = by (λ n. lowest-by-height xs n (λ i j d ij jl. fall (suc i) (suc j) d (omega (arith, ij)) (omega (arith, jl))))
    (nat_lt x.level 2) refl
  where
    by : ((n : ℕ) → height xs ≡ n * 4 → IsLowest 2 xs) → (b : Bool) → nat_lt x.level 2 ≡ b → IsLowest 2 (x ∷ xs)
    by more true low =
        let first : x.level < 2 = grind (arith, low) in
        let less = height-falling (x ∷ xs) 2 fall (λ j d lt. below first j d lt) in
        let some = positive_power x.level in
        absurd (omega (arith, e, less, some))
      where
        below : x.level < 2 → (j : ℕ) (d : Strip) → j < length (x ∷ xs) → (get_or (x ∷ xs) j d).level < 2
        below first zero d lt = first
        below first (suc j) d lt = let a = fall 0 (suc j) d (omega arith) lt in omega (arith, a, first)
    by more false high =
        let deep : 2 ≤ x.level = grind (arith, high) in
        let level : x.level ≡ x.level - 2 + 2 = omega (arith, deep) in
        let four : 2 ^ x.level ≡ 2 ^ (x.level - 2) * 4 = ap (λ n. 2 ^ n) level ∙ pow-add 2 (x.level - 2) 2 in
        let rest = more (k - 2 ^ (x.level - 2)) (omega (arith, e, four)) in
        all deep rest
      where
        all : 2 ≤ x.level → IsLowest 2 xs → IsLowest 2 (x ∷ xs)
        all deep rest zero d lt = deep
        all deep rest (suc j) d lt = rest j d (omega (arith, lt))

-- other strips with the same cells, below strips that are kept
pub picture-over : {knows knows' : Id → Type 0} {old new : Id → Tree} → Keeps knows knows' old new → (xs ys zs : List Strip) → All (IsSoundStrip knows old) xs
    → ((i j : ℕ) → picture new ys i j ≡ picture old zs i j) → (i j : ℕ) → picture new (xs ++ ys) i j ≡ picture old (xs ++ zs) i j
picture-over keeps [] ys zs h e i j = e i j
picture-over {knows} {knows'} {old} {new} keeps (x ∷ xs) ys zs h e i j =
    let here = state_in-keeps {knows = knows} {knows' = knows'} {old = old} {new = new} keeps x (h 0 x (omega arith)) i j in
    let more = picture-over {knows = knows} {knows' = knows'} {old = old} {new = new} keeps xs ys zs (All-tail (IsSoundStrip knows old) x xs h) e i
    (j - 2 ^ x.level) in
    λ y. if nat_lt j (2 ^ x.level) then here y else more y

-- the last of a list that is put together from two
pub all-one : {X : Type 0} (P : X → Type 0) (x : X) → P x → All P (x ∷ [])
all-one P x h zero d lt = h
all-one P x h (suc k) d lt = absurd (omega (arith, lt))

-- strips of falling levels below which four, eight or more rows were put are of level 2 or more
pub lowest-more : (xs ys : List Strip) (n k : ℕ) → IsLowest 2 xs → AreFalling ys → height ys ≡ height xs + n → n ≡ k * 4 → IsLowest 2 ys
lowest-more xs ys n k low fall e f =
    let d = height-divided xs 2 low in
    let whole : height ys ≡ (d.0 + k) * 4 = (let g = d.1 in omega (arith, e, f, g)) in
    lowest-by-height ys (d.0 + k) fall whole

pub four-divides : (level : ℕ) → 2 ≤ level → 2 ^ level ≡ 2 ^ (level - 2) * 4
four-divides level deep = let e : level ≡ level - 2 + 2 = omega (arith, deep) in ap (λ n. 2 ^ n) e ∙ pow-add 2 (level - 2) 2

-- ---- four rows of blocks

-- a cell of a row is below 256
small-cell : (blocks : List Block) (c : ℕ) → cell_in_blocks blocks c < 256
small-cell blocks c =
    let two = mod_below (cells_at_block blocks (c / 64) / 2 ^ (63 - c % 64)) 2 (omega arith) in
    omega (arith, two)

-- two rows are full squares of level 1
full-two : (upper lower : List Block) (k : ℕ) → IsFull (two_in upper lower k)
full-two upper lower k = (
  small-cell upper (2 * k),
  small-cell upper (2 * k + 1),
  small-cell lower (2 * k),
  small-cell lower (2 * k + 1),
  refl,
  refl,
  refl,
)

-- a square of level 1 with a part that has a property has it
part-two : (P : Tree → Type 0) (upper lower : List Block) (k : ℕ) → SomePart P (two_in upper lower k) → P (two_in upper lower k)
part-two P upper lower k (inl p) = p
part-two P upper lower k (inr (inl h)) = absurd h
part-two P upper lower k (inr (inr (inl h))) = absurd h
part-two P upper lower k (inr (inr (inr (inl h)))) = absurd h
part-two P upper lower k (inr (inr (inr (inr h)))) = absurd h

-- the cells of a row in the columns of a square of level 1
row-two : (content : Id → Tree) (row : Row) → row.spans.items ≡ [] → (k i : ℕ) → i < 2
    → (if nat_lt i 1 then cell_in_blocks row.blocks.items (2 * k) else cell_in_blocks row.blocks.items (2 * k + 1)) ≡ row_state content row (k * 2 + i)
row-two content row none k zero lt =
    let same : 2 * k ≡ k * 2 + 0 = omega arith in
    ap (cell_in_blocks row.blocks.items) same ∙ sym (row-of-blocks content row (k * 2 + 0) none)
row-two content row none k (suc zero) lt =
    let same : 2 * k + 1 ≡ k * 2 + 1 = omega arith in
    ap (cell_in_blocks row.blocks.items) same ∙ sym (row-of-blocks content row (k * 2 + 1) none)
row-two content row none k (suc (suc i)) lt = absurd (omega (arith, lt))

-- and in those of one of level 2
row-four : (content : Id → Tree) (row : Row) → row.spans.items ≡ [] → (k i : ℕ) → i < 4
    → (if nat_lt i 2
    then (if nat_lt i 1 then cell_in_blocks row.blocks.items (2 * (2 * k)) else cell_in_blocks row.blocks.items (2 * (2 * k) + 1))
    else (if nat_lt (i - 2) 1 then cell_in_blocks row.blocks.items (2 * (2 * k + 1)) else cell_in_blocks row.blocks.items (2 * (2 * k + 1) + 1)))
    ≡ row_state content row (k * 4 + i)
row-four content row none k zero lt =
    let same : 2 * (2 * k) ≡ k * 4 + 0 = omega arith in
    ap (cell_in_blocks row.blocks.items) same ∙ sym (row-of-blocks content row (k * 4 + 0) none)
row-four content row none k (suc zero) lt =
    let same : 2 * (2 * k) + 1 ≡ k * 4 + 1 = omega arith in
    ap (cell_in_blocks row.blocks.items) same ∙ sym (row-of-blocks content row (k * 4 + 1) none)
row-four content row none k (suc (suc zero)) lt =
    let same : 2 * (2 * k + 1) ≡ k * 4 + 2 = omega arith in
    ap (cell_in_blocks row.blocks.items) same ∙ sym (row-of-blocks content row (k * 4 + 2) none)
row-four content row none k (suc (suc (suc zero))) lt =
    let same : 2 * (2 * k + 1) + 1 ≡ k * 4 + 3 = omega arith in
    ap (cell_in_blocks row.blocks.items) same ∙ sym (row-of-blocks content row (k * 4 + 3) none)
row-four content row none k (suc (suc (suc (suc i)))) lt = absurd (omega (arith, lt))

module _ (content : Id → Tree) (ra rb rc rd : Row) (na : ra.spans.items ≡ []) (nb : rb.spans.items ≡ []) (nc : rc.spans.items ≡ [])
    (nd : rd.spans.items ≡ []) where
  abbrev upper : ℕ → Tree
  upper = two_in ra.blocks.items rb.blocks.items

  abbrev lower : ℕ → Tree
  lower = two_in rc.blocks.items rd.blocks.items

  abbrev all_four : ℕ → Tree
  all_four = four_in ra.blocks.items rb.blocks.items rc.blocks.items rd.blocks.items

  abbrev rows : List Row
  rows = ra ∷ rb ∷ rc ∷ rd ∷ []

  upper-cells : (k i j : ℕ) → i < 2 → j < 2 → state_at (upper k) i j ≡ rows_state content rows (k * 2 + i) j
  upper-cells k i zero li lj = row-two content ra na k i li
  upper-cells k i (suc zero) li lj = row-two content rb nb k i li
  upper-cells k i (suc (suc j)) li lj = absurd (omega (arith, lj))

  lower-cells : (k i j : ℕ) → i < 2 → j < 2 → state_at (lower k) i j ≡ rows_state content rows (k * 2 + i) (2 + j)
  lower-cells k i zero li lj = row-two content rc nc k i li
  lower-cells k i (suc zero) li lj = row-two content rd nd k i li
  lower-cells k i (suc (suc j)) li lj = absurd (omega (arith, lj))

  -- the cells of a square of level 2
  four-cells : (k i j : ℕ) → i < 4 → j < 4 → state_at (all_four k) i j ≡ rows_state content rows (k * 4 + i) j
  four-cells k i zero li lj = row-four content ra na k i li
  four-cells k i (suc zero) li lj = row-four content rb nb k i li
  four-cells k i (suc (suc zero)) li lj = row-four content rc nc k i li
  four-cells k i (suc (suc (suc zero))) li lj = row-four content rd nd k i li
  four-cells k i (suc (suc (suc (suc j)))) li lj = absurd (omega (arith, lj))

  -- a strip of their squares has their cells
  band-picture : (new : Id → Tree) (s : Strip) → s.level ≡ 2 → ((k : ℕ) → square_at new 2 s.spans.items k ≡ all_four k)
      → (i j : ℕ) → picture new (s ∷ []) i j ≡ rows_state content rows i j
  band-picture new s e squares i j =
      (λ x. if nat_lt j (2 ^ e x) then state_at (square_at new (e x) s.spans.items (i / 2 ^ e x)) (i % 2 ^ e x) j else 0) ∙ by (nat_lt j 4) refl
    where
      by : (p : Bool) → nat_lt j 4 ≡ p → (if nat_lt j 4 then state_at (square_at new 2 s.spans.items (i / 4)) (i % 4) j else 0)
          ≡ rows_state content rows i j
      by true f =
          ap (λ b. if b then state_at (square_at new 2 s.spans.items (i / 4)) (i % 4) j else 0) f ∙ ap (λ t. state_at t (i % 4) j) (squares (i / 4))
          ∙ four-cells (i / 4) (i % 4) j (mod_below i 4 (omega arith)) (grind (arith, f)) ∙ ap (λ n. rows_state content rows n j) (div-add-mod' i 4)
      by false f =
          let out : length rows ≤ j = (let low : 4 ≤ j = grind (arith, f) in omega (arith, low)) in
          ap (λ b. if b then state_at (square_at new 2 s.spans.items (i / 4)) (i % 4) j else 0) f ∙ sym (rows-beyond content rows i j out)

  module _ (P : Tree → Type 0) (k : ℕ) (inside : k < 2 ^ (MAX_LEVEL - 2)) where
    first : (j side : ℕ) → j ≡ 0 * side + j
    first j side = omega arith

    half : (q : ℕ) → q ≤ 2 * k + 1 → q < 2 ^ (MAX_LEVEL - 1)
    half q le = omega (arith, le, inside)

    full-four : IsFull (all_four k)
    full-four = (
      full-two ra.blocks.items rb.blocks.items (2 * k),
      full-two ra.blocks.items rb.blocks.items (2 * k + 1),
      full-two rc.blocks.items rd.blocks.items (2 * k),
      full-two rc.blocks.items rd.blocks.items (2 * k + 1),
      refl,
      refl,
      refl,
    )

    upper-part : (q : ℕ) → q ≤ 2 * k + 1 → SomePart P (upper q) → SomeSquare P 4 (rows_state content rows)
    upper-part q le p =
        SomeSquare-at 1 q 0 (upper q) (full-two ra.blocks.items rb.blocks.items q) refl (omega arith) (omega arith) (half q le) (omega arith)
        (λ i j li lj. upper-cells q i j li lj ∙ ap (rows_state content rows (q * 2 + i)) (first j 2))
        (part-two P ra.blocks.items rb.blocks.items q p)

    lower-part : (q : ℕ) → q ≤ 2 * k + 1 → SomePart P (lower q) → SomeSquare P 4 (rows_state content rows)
    lower-part q le p =
        SomeSquare-at 1 q 1 (lower q) (full-two rc.blocks.items rd.blocks.items q) refl (omega arith) (omega arith) (half q le) (omega arith) (lower-cells q)
        (part-two P rc.blocks.items rd.blocks.items q p)

    -- a square of level 2 or a quarter of it is one of the band
    SomeSquare-band : SomePart P (all_four k) → SomeSquare P 4 (rows_state content rows)
    SomeSquare-band (inl p) =
        SomeSquare-at 2 k 0 (all_four k) full-four refl (omega arith) (omega arith) inside (omega arith)
        (λ i j li lj. four-cells k i j li lj ∙ ap (rows_state content rows (k * 4 + i)) (first j 4)) p
    SomeSquare-band (inr (inl p)) = upper-part (2 * k) (omega arith) p
    SomeSquare-band (inr (inr (inl p))) = upper-part (2 * k + 1) (omega arith) p
    SomeSquare-band (inr (inr (inr (inl p)))) = lower-part (2 * k) (omega arith) p
    SomeSquare-band (inr (inr (inr (inr p)))) = lower-part (2 * k + 1) (omega arith) p

-- a square of four rows is one of these below strips of level 2 or more
pub SomeSquare-rows : {P : Tree → Type 0} (content : Id → Tree) (strips : List Strip) (rows : List Row) → IsLowest 2 strips
    → SomeSquare P 4 (rows_state content rows) → SomeSquare P (height strips + 4) (state_with_rows content strips rows)
SomeSquare-rows content strips rows low s =
    let divided = height-divided strips 2 low in
    SomeSquare-under (height strips) 2 divided.0 divided.1 (with-below content strips rows) s

-- a list of four by its items
four-of : (xs : List Row) → length xs ≡ 4 → (a : Row) × (b : Row) × (c : Row) × (d : Row) × (xs ≡ a ∷ b ∷ c ∷ d ∷ [])
four-of [] e = absurd (omega (arith, e))
four-of (a ∷ []) e = absurd (omega (arith, e))
four-of (a ∷ b ∷ []) e = absurd (omega (arith, e))
four-of (a ∷ b ∷ c ∷ []) e = absurd (omega (arith, e))
four-of (a ∷ b ∷ c ∷ d ∷ []) e = (a, b, c, d, refl)
four-of (a ∷ b ∷ c ∷ d ∷ f ∷ xs) e = absurd (omega (arith, e))

four-are : (xs : List Row) (a b c d : Row) → length xs ≡ 4 → a ≡ get_or xs 0 a → b ≡ get_or xs 1 b → c ≡ get_or xs 2 c → d ≡ get_or xs 3 d
    → xs ≡ a ∷ b ∷ c ∷ d ∷ []
four-are xs a b c d e ea eb ec ed =
    let f = four-of xs e in
    let at = λ (k : ℕ) (x : Row). ap (λ z. get_or z k x) f.4 in
    let pa = ea ∙ at 0 a in
    let pb = eb ∙ at 1 b in
    let pc = ec ∙ at 2 c in
    let pd = ed ∙ at 3 d in
    f.4 ∙ (λ i. sym pa i ∷ sym pb i ∷ sym pc i ∷ sym pd i ∷ [])

-- four rows and their blocks, read one by one
module _ (content : Id → Tree) (xs : List Row) (count : length xs ≡ 4) (narrow : All (λ row. row.spans.items ≡ []) xs)
    (ra rb rc rd : Row) (a b c d : List Block) (ea : ra ≡ get_or xs 0 ra) (eb : rb ≡ get_or xs 1 rb) (ec : rc ≡ get_or xs 2 rc) (ed : rd ≡ get_or xs 3 rd)
    (fa : a ≡ (get_or xs 0 ra).blocks.items) (fb : b ≡ (get_or xs 1 rb).blocks.items) (fc : c ≡ (get_or xs 2 rc).blocks.items)
    (fd : d ≡ (get_or xs 3 rd).blocks.items) where
  rows-read : xs ≡ ra ∷ rb ∷ rc ∷ rd ∷ []
  rows-read = four-are xs ra rb rc rd count ea eb ec ed

  none-read : All (λ row. row.spans.items ≡ []) (ra ∷ rb ∷ rc ∷ rd ∷ [])
  none-read = subst (All (λ row. row.spans.items ≡ [])) rows-read narrow

  squares-read : (k : ℕ) → four_in a b c d k ≡ four_in ra.blocks.items rb.blocks.items rc.blocks.items rd.blocks.items k
  squares-read k =
      let va = fa ∙ ap (λ s. s.blocks.items) (sym ea) in
      let vb = fb ∙ ap (λ s. s.blocks.items) (sym eb) in
      let vc = fc ∙ ap (λ s. s.blocks.items) (sym ec) in
      let vd = fd ∙ ap (λ s. s.blocks.items) (sym ed) in
      λ i. four_in (va i) (vb i) (vc i) (vd i) k

  -- a strip of their squares has their cells
  pub picture-read : (new : Id → Tree) (s : Strip) → s.level ≡ 2 → ((k : ℕ) → square_at new 2 s.spans.items k ≡ four_in a b c d k)
      → (i j : ℕ) → picture new (s ∷ []) i j ≡ rows_state content xs i j
  picture-read new s two squares i j =
      band-picture content ra rb rc rd (none-read 0 ra (omega arith)) (none-read 1 ra (omega arith)) (none-read 2 ra (omega arith))
      (none-read 3 ra (omega arith)) new s two (λ k. squares k ∙ squares-read k) i j
      ∙ ap (λ z. rows_state content z i j) (sym rows-read)

  -- and a square of them or a part of it is one of theirs
  pub SomeSquare-read : (P : Tree → Type 0) → (k : ℕ) → k < 2 ^ (MAX_LEVEL - 2) → SomePart P (four_in a b c d k) → SomeSquare P 4 (rows_state content xs)
  SomeSquare-read P k inside p =
      subst (λ z. SomeSquare P 4 (rows_state content z)) (sym rows-read)
      (SomeSquare-band content ra rb rc rd (none-read 0 ra (omega arith)) (none-read 1 ra (omega arith)) (none-read 2 ra (omega arith))
      (none-read 3 ra (omega arith)) P k inside (subst (SomePart P) (squares-read k) p))

pub none_of : (xs : List Row) → length xs ≡ 0 → xs ≡ []
none_of [] e = refl
none_of (x ∷ xs) e = absurd (omega (arith, e))

-- strips that fill the plane are those of whole bands alone
pub band-over : (pile : Pile) → IsLowest 2 pile.strips.items → length pile.band.items ≤ 3 → pile_height pile ≡ 2 ^ MAX_LEVEL
    → pile.band.items ≡ []
band-over pile low few all =
    let d = height-divided pile.strips.items 2 low in
    none_of pile.band.items (let g = d.1 in omega (arith, g, few, all))

-- strips of whole bands alone
pub pile-alone : (knows : Id → Type 0) (content : Id → Tree) (pile : Pile) → pile.band.items ≡ [] → AreStacked knows content pile.strips.items
    → IsLowest 2 pile.strips.items → IsPile knows content pile
pile-alone knows content pile e strips lowest =
    let none : length pile.band.items ≡ 0 = ap length e in
    record {
      strips = strips;
      lowest = lowest;
      rows = λ k d lt. absurd (omega (arith, lt, none));
      few = omega (arith, none);
    }
