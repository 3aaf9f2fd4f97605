-- Facts about rows of cells, one below the other and below strips.
use Rattle.std.proofs.Common.{◌≡◌, ℕ, zero, suc, ◌+◌, ◌-◌, ◌*◌, ◌/◌, ◌%◌, ◌^◌, ◌≤◌, ◌<◌, ◌==◌, inl, inr, Bool, true, false, ◌&&◌, nat_lt, nat_le, if◌then◌else◌, List, [], ◌∷◌, ◌++◌, length, get_or, All, refl, sym, ◌∙◌, ap, subst, arith, pow_pos}
use Rattle.std.proofs.lemmas.Bool.{cases_eq, cases_lt}
use Rattle.std.proofs.lemmas.List.Elements.{All-tail}
use Rattle.std.proofs.lemmas.Nat.{div-mul-add}
use Rattle.life_base.specs.Tree.{Tree, state_at}
use Rattle.life_quad.specs.declared.id.Id.{Id}
use Rattle.life_quad.specs.Keeping.{KeepsSquares}
use Rattle.life_quad.specs.Span.{is_in_span}
use Rattle.life_strip.specs.declared.blocks.Block.{Block}
use Rattle.life_strip.specs.declared.row.Row.{Row}
use Rattle.life_strip.specs.declared.spans.Span.{Span}
use Rattle.life_strip.specs.declared.spans.Strip.{Strip}
use Rattle.life_strip.specs.Blocks.{AreBlocksBefore, AreRowBlocks, IsBlockBefore, IsRowBlock, cell_in_blocks}
use Rattle.life_strip.specs.Picture.{IsSoundStrip, height, picture, state_in_strip}
use Rattle.life_strip.specs.Row.{FillsRow, IsRow, IsRowBefore, row_state, rows_state, state_with_rows}
use Rattle.life_strip.specs.Strip.{AreBefore, AreWithin, IsStrip, Rise, square_at}
use Rattle.life_strip.proofs.BlockLemmas.{all-later}
use Rattle.life_strip.proofs.PictureLemmas.{picture-append, picture-beyond, picture-keeps}
use Rattle.life_strip.proofs.SpanLemmas.{Keeps, before_more, square-keeps, strip-keeps}

-- ---- one row

-- a row has the cells of its blocks where it has no spans
pub row-of-blocks : (content : Id → Tree) (row : Row) (c : ℕ) → row.spans.items ≡ [] → row_state content row c ≡ cell_in_blocks row.blocks.items c
row-of-blocks content row c none =
    let same : 0 + cell_in_blocks row.blocks.items c ≡ cell_in_blocks row.blocks.items c = omega arith in
    ap (λ z. state_at (square_at content 0 z c) 0 0 + cell_in_blocks row.blocks.items c) none ∙ same

-- no block has no cell
no-block : (c : ℕ) → cell_in_blocks [] c ≡ 0
no-block c =
    let w = 2 ^ (63 - c % 64) in
    let whole : 0 ≡ 0 * w + 0 = omega arith in
    ap (λ z. z % 2) (ap (λ z. z / w) whole ∙ div-mul-add 0 w 0 (pow_pos (63 - c % 64)))

-- and those of its spans where it has no blocks
pub row-of-spans : (content : Id → Tree) (row : Row) (c : ℕ) → row.blocks.items ≡ [] → row_state content row c
    ≡ state_at (square_at content 0 row.spans.items c) 0 0
row-of-spans content row c none =
    let cell = ap (λ z. cell_in_blocks z c) none ∙ no-block c in
    omega (arith, cell)

-- a row without both has no cell
pub row-blank : (content : Id → Tree) (row : Row) (c : ℕ) → row.blocks.items ≡ [] → row.spans.items ≡ [] → row_state content row c ≡ 0
row-blank content row c blocks spans = row-of-blocks content row c spans ∙ ap (λ z. cell_in_blocks z c) blocks ∙ no-block c

-- any store knows such a row
pub blank-row : (knows : Id → Type 0) (content : Id → Tree) (row : Row) → row.blocks.items ≡ [] → row.spans.items ≡ [] → IsRow knows content row
blank-row knows content row blocks spans = record {
  blocks = subst AreRowBlocks (sym blocks) (record { each = λ k d lt. absurd (omega (arith, lt)); rise = λ i j d lt within. absurd (omega (arith, within)) });
  squares = subst (IsStrip knows content 0) (sym spans) (λ c id at. absurd cc);
  within = subst (AreWithin 0) (sym spans) (λ k d lt. absurd (omega (arith, lt)));
  rises = subst Rise (sym spans) (λ i j d lt within. absurd (omega (arith, within)));
  one = inl blocks;
}

-- no cell is in a column or east of it, so none is from a later one on
pub row-later : (row : Row) (n m : ℕ) → n ≤ m → IsRowBefore n row → IsRowBefore m row
row-later row n m le h = record {
  blocks = all-later row.blocks.items n m le h.blocks;
  spans = before_more n m row.spans.items h.spans le;
}

-- a strip of level 0 with the cells of a row has those of the row alone
pub strip-row : (content : Id → Tree) (s : Strip) (row : Row) → s.level ≡ 0 → ((c : ℕ) → state_in_strip content s c 0 ≡ row_state content row c) → (i j : ℕ)
    → picture content (s ∷ []) i j ≡ rows_state content (row ∷ []) i j
strip-row content s row level cells i zero = ap (λ n. if nat_lt 0 (2 ^ n) then state_in_strip content s i 0 else 0) level ∙ cells i
strip-row content s row level cells i (suc j) =
    let out : nat_lt (suc j) 1 ≡ false = grind arith in
    ap (λ n. if nat_lt (suc j) (2 ^ n) then state_in_strip content s i (suc j) else 0) level
    ∙ ap (λ b. if b then state_in_strip content s i (suc j) else 0) out

module _ {knows knows' : Id → Type 0} {old new : Id → Tree} (keeps : Keeps knows knows' old new) where
  -- a store that keeps its Ids knows a row
  pub row-keeps : (row : Row) → IsRow knows old row → IsRow knows' new row
  row-keeps row h = record {
    blocks = h.blocks;
    squares = strip-keeps {knows = knows} {knows' = knows'} {old = old} {now = new} keeps 0 row.spans.items h.squares;
    within = h.within;
    rises = h.rises;
    one = h.one;
  }

  -- with the same cells
  pub row_state-keeps : (row : Row) → IsRow knows old row → (c : ℕ) → row_state new row c ≡ row_state old row c
  row_state-keeps row h c =
      ap (λ t. state_at t 0 0 + cell_in_blocks row.blocks.items c)
      (square-keeps {knows = knows} {knows' = knows'} {old = old} {now = new} keeps 0 row.spans.items h.squares c)

  pub rows_state-keeps : (rows : List Row) → All (IsRow knows old) rows → (i j : ℕ) → rows_state new rows i j ≡ rows_state old rows i j
  rows_state-keeps [] h i j = refl
  rows_state-keeps (r ∷ rest) h i zero = row_state-keeps r (h 0 r (omega arith)) i
  rows_state-keeps (r ∷ rest) h i (suc j) = rows_state-keeps rest (All-tail (IsRow knows old) r rest h) i j

pub rows-kept : {S : Type 0} {knows : S → Id → Type 0} {content : S → Id → Tree} {stored : S → List Tree} {most : S → ℕ} {old new : S}
    → KeepsSquares knows content stored most old new
    → (rows : List Row) → All (IsRow (knows old) (content old)) rows → All (IsRow (knows new) (content new)) rows
rows-kept {knows = knows} {content = content} {old = old} {new = new} keeps rows h k d lt =
    row-keeps {knows = knows old} {knows' = knows new} {old = content old} {new = content new} keeps.contents (get_or rows k d) (h k d lt)

-- ---- rows one below the other

-- no cell is below the last row
pub rows-beyond : (content : Id → Tree) (rows : List Row) (i j : ℕ) → length rows ≤ j → rows_state content rows i j ≡ 0
rows-beyond content [] i j le = refl
rows-beyond content (r ∷ rest) i zero le = absurd (omega (arith, le))
rows-beyond content (r ∷ rest) i (suc j) le = rows-beyond content rest i j (omega (arith, le))

-- one row more is below the others
rows-push : (content : Id → Tree) (rows : List Row) (row : Row) (i j : ℕ) → rows_state content (rows ++ row ∷ []) i j
    ≡ (if nat_lt j (length rows) then rows_state content rows i j else rows_state content (row ∷ []) i (j - length rows))
rows-push content [] row i j =
    let none : nat_lt j 0 ≡ false = grind arith in
    let same : j - 0 ≡ j = omega arith in
    sym (ap (λ b. if b then 0 else rows_state content (row ∷ []) i (j - 0)) none ∙ ap (rows_state content (row ∷ []) i) same)
rows-push content (r ∷ rest) row i zero =
    let first : nat_lt 0 (suc (length rest)) ≡ true = grind arith in
    sym (ap (λ b. if b then row_state content r i else rows_state content (row ∷ []) i (0 - suc (length rest))) first)
rows-push content (r ∷ rest) row i (suc j) =
    let before : nat_lt (suc j) (suc (length rest)) ≡ nat_lt j (length rest) = grind arith in
    let below : suc j - suc (length rest) ≡ j - length rest = omega arith in
    rows-push content rest row i j ∙ (λ k. if sym before k then rows_state content rest i j else rows_state content (row ∷ []) i (sym below k))

-- a row without cells below the others changes no cell
rows-blank : (content : Id → Tree) (rows : List Row) (row : Row) → row.blocks.items ≡ [] → row.spans.items ≡ [] → (i j : ℕ)
    → rows_state content (rows ++ row ∷ []) i j ≡ rows_state content rows i j
rows-blank content [] row blocks spans i zero = row-blank content row i blocks spans
rows-blank content [] row blocks spans i (suc j) = refl
rows-blank content (r ∷ rest) row blocks spans i zero = refl
rows-blank content (r ∷ rest) row blocks spans i (suc j) = rows-blank content rest row blocks spans i j

-- cells that the last row gets
rows-filled : (content : Id → Tree) (rows : List Row) (old new : Row) (column len state : ℕ)
    → ((i : ℕ) → row_state content new i ≡ (if nat_le column i && nat_lt i (column + len) then state else row_state content old i))
    → (i j : ℕ) → rows_state content (rows ++ new ∷ []) i j
    ≡ (if is_in_span column (length rows) len i j then state else rows_state content (rows ++ old ∷ []) i j)
rows-filled content [] old new column len state states i zero = states i
rows-filled content [] old new column len state states i (suc j) =
    let out : is_in_span column 0 len i (suc j) ≡ false = grind arith in
    sym (ap (λ b. if b then state else 0) out)
rows-filled content (r ∷ rest) old new column len state states i zero =
    let out : is_in_span column (suc (length rest)) len i 0 ≡ false = grind arith in
    sym (ap (λ b. if b then state else row_state content r i) out)
rows-filled content (r ∷ rest) old new column len state states i (suc j) =
    let same : is_in_span column (suc (length rest)) len i (suc j) ≡ is_in_span column (length rest) len i j = grind arith in
    rows-filled content rest old new column len state states i j
    ∙ sym (ap (λ b. if b then state else rows_state content (rest ++ old ∷ []) i j) same)

-- ---- rows below strips

-- strips and rows keep their cells
pub with-keeps : {knows knows' : Id → Type 0} {old new : Id → Tree} → Keeps knows knows' old new → (strips : List Strip) (rows : List Row)
    → All (IsSoundStrip knows old) strips → All (IsRow knows old) rows → (i j : ℕ) → state_with_rows new strips rows i j ≡ state_with_rows old strips rows i j
with-keeps {knows} {knows'} {old} {new} keeps strips rows sound are i j =
    let over = picture-keeps {knows = knows} {knows' = knows'} {old = old} {new = new} keeps strips sound i j in
    let below = rows_state-keeps {knows = knows} {knows' = knows'} {old = old} {new = new} keeps rows are i (j - height strips) in
    λ k. if nat_lt j (height strips) then over k else below k

-- strips without rows
pub with-none : (content : Id → Tree) (strips : List Strip) (i j : ℕ) → state_with_rows content strips [] i j ≡ picture content strips i j
with-none content strips i j = elim (cases_lt j (height strips)) [
  | inl within ↦
      (let over : nat_lt j (height strips) ≡ true = grind (arith, within) in
      ap (λ b. if b then picture content strips i j else 0) over)
  | inr beyond ↦
      (let below : nat_lt j (height strips) ≡ false = grind (arith, beyond) in
      ap (λ b. if b then picture content strips i j else 0) below ∙ sym (picture-beyond content strips i j beyond))
]

-- one row more
pub with-push : (content : Id → Tree) (strips : List Strip) (rows : List Row) (row : Row) (i j : ℕ)
    → state_with_rows content strips (rows ++ row ∷ []) i j
    ≡ (if nat_lt j (height strips + length rows) then state_with_rows content strips rows i j else rows_state content (row ∷ []) i
    (j - (height strips + length rows)))
with-push content strips rows row i j = by (nat_lt j (height strips)) refl
  where
    by : (b : Bool) → nat_lt j (height strips) ≡ b → state_with_rows content strips (rows ++ row ∷ []) i j
        ≡ (if nat_lt j (height strips + length rows) then state_with_rows content strips rows i j else rows_state content (row ∷ []) i
        (j - (height strips + length rows)))
    by true e =
        let over : nat_lt j (height strips + length rows) ≡ true = grind (arith, e) in
        ap (λ b. if b then picture content strips i j else rows_state content (rows ++ row ∷ []) i (j - height strips)) e
        ∙ sym (ap (λ b. if b then state_with_rows content strips rows i j else rows_state content (row ∷ []) i (j - (height strips + length rows))) over
        ∙ ap (λ b. if b then picture content strips i j else rows_state content rows i (j - height strips)) e)
    by false e =
        let beyond : height strips ≤ j = grind (arith, e) in
        let below : nat_lt j (height strips + length rows) ≡ nat_lt (j - height strips) (length rows) = grind (arith, beyond) in
        let place : j - height strips - length rows ≡ j - (height strips + length rows) = omega arith in
        ap (λ b. if b then picture content strips i j else rows_state content (rows ++ row ∷ []) i (j - height strips)) e
        ∙ rows-push content rows row i (j - height strips)
        ∙ sym ((λ k. if below k then (if e k then picture content strips i j else rows_state content rows i (j - height strips)) else
        rows_state content (row ∷ []) i (sym place k)))

-- it changes no cell above it
pub with-above : (content : Id → Tree) (strips : List Strip) (rows : List Row) (row : Row) (i j : ℕ) → j < height strips + length rows
    → state_with_rows content strips (rows ++ row ∷ []) i j ≡ state_with_rows content strips rows i j
with-above content strips rows row i j lt =
    let over : nat_lt j (height strips + length rows) ≡ true = grind (arith, lt) in
    with-push content strips rows row i j
    ∙ ap (λ b. if b then state_with_rows content strips rows i j else rows_state content (row ∷ []) i (j - (height strips + length rows))) over

-- and none at all if it has none
pub with-blank : (content : Id → Tree) (strips : List Strip) (rows : List Row) (row : Row) → row.blocks.items ≡ [] → row.spans.items ≡ [] → (i j : ℕ)
    → state_with_rows content strips (rows ++ row ∷ []) i j ≡ state_with_rows content strips rows i j
with-blank content strips rows row blocks spans i j =
    let below = rows-blank content rows row blocks spans i (j - height strips) in
    λ k. if nat_lt j (height strips) then picture content strips i j else below k

-- cells that the last row gets
pub with-filled : (content : Id → Tree) (strips : List Strip) (rows : List Row) (old new : Row) (column len state : ℕ)
    → ((i : ℕ) → row_state content new i ≡ (if nat_le column i && nat_lt i (column + len) then state else row_state content old i))
    → (i j : ℕ) → state_with_rows content strips (rows ++ new ∷ []) i j
    ≡ (if is_in_span column (height strips + length rows) len i j then state else state_with_rows content strips (rows ++ old ∷ []) i j)
with-filled content strips rows old new column len state states i j = by (nat_lt j (height strips)) refl
  where
    by : (b : Bool) → nat_lt j (height strips) ≡ b → state_with_rows content strips (rows ++ new ∷ []) i j
        ≡ (if is_in_span column (height strips + length rows) len i j then state else state_with_rows content strips (rows ++ old ∷ []) i j)
    by true e =
        let lt : j < height strips = grind (arith, e) in
        let out : is_in_span column (height strips + length rows) len i j ≡ false = grind (arith, lt) in
        ap (λ b. if b then picture content strips i j else rows_state content (rows ++ new ∷ []) i (j - height strips)) e
        ∙ sym (ap (λ b. if b then state else state_with_rows content strips (rows ++ old ∷ []) i j) out
        ∙ ap (λ b. if b then picture content strips i j else rows_state content (rows ++ old ∷ []) i (j - height strips)) e)
    by false e =
        let beyond : height strips ≤ j = grind (arith, e) in
        let same : is_in_span column (height strips + length rows) len i j ≡ is_in_span column (length rows) len i (j - height strips) =
        grind (arith, beyond) in
        ap (λ b. if b then picture content strips i j else rows_state content (rows ++ new ∷ []) i (j - height strips)) e
        ∙ rows-filled content rows old new column len state states i (j - height strips)
        ∙ sym ((λ k. if same k then state else (if e k then picture content strips i j else rows_state content (rows ++ old ∷ []) i (j - height strips))))

-- another row below the others
pub with-replaced : (content : Id → Tree) (strips : List Strip) (rows : List Row) (old new : Row) (i j : ℕ)
    → state_with_rows content strips (rows ++ new ∷ []) i j
    ≡ (if j == height strips + length rows then row_state content new i else state_with_rows content strips (rows ++ old ∷ []) i j)
with-replaced content strips rows old new i j =
    let n = height strips + length rows in
    let other = state_with_rows content strips (rows ++ old ∷ []) i j in
    elim (cases_lt j n) [
      | inl above ↦
          (let out : (j == n) ≡ false = grind (arith, above) in
          with-above content strips rows new i j above ∙ sym (with-above content strips rows old i j above)
          ∙ sym (ap (λ b. if b then row_state content new i else other) out))
      | inr from ↦
          (let over : nat_lt j n ≡ false = grind (arith, from) in
          let last = λ (row : Row). with-push content strips rows row i j
          ∙ ap (λ b. if b then state_with_rows content strips rows i j else rows_state content (row ∷ []) i (j - n)) over in
          elim (cases_eq j n) [
            | inl same ↦
                (let there : (j == n) ≡ true = grind (arith, same) in
                let first : j - n ≡ 0 = omega (arith, same) in
                last new ∙ ap (rows_state content (new ∷ []) i) first ∙ sym (ap (λ b. if b then row_state content new i else other) there))
            | inr differ ↦
                (let out : (j == n) ≡ false = grind (arith, differ) in
                let beyond : 1 ≤ j - n = omega (arith, from, differ) in
                last new ∙ rows-beyond content (new ∷ []) i (j - n) beyond ∙ sym (rows-beyond content (old ∷ []) i (j - n) beyond) ∙ sym (last old)
                ∙ sym (ap (λ b. if b then row_state content new i else other) out))
          ])
    ]

-- a row with no cell from the western edge on has no block and no span
pub row-none : (knows : Id → Type 0) (content : Id → Tree) (row : Row) → IsRow knows content row → IsRowBefore 0 row
    → (row.blocks.items ≡ []) × (row.spans.items ≡ [])
row-none knows content row is before =
    (no-blocks row.blocks.items is.blocks before.blocks, no-spans row.spans.items before.spans)
  where
    never : (b : Block) → IsRowBlock b → ¬ IsBlockBefore 0 b
    never b is (inl over) = let some = is.some in omega (arith, over, some)
    never b is (inr h) = let some = h.0 in omega (arith, some)

    no-blocks : (blocks : List Block) → AreRowBlocks blocks → AreBlocksBefore 0 blocks → blocks ≡ []
    no-blocks [] are none = refl
    no-blocks (b ∷ rest) are none = absurd (never b (are.each 0 b (omega arith)) (none 0 b (omega arith)))

    no-spans : (spans : List Span) → AreBefore 0 spans → spans ≡ []
    no-spans [] none = refl
    no-spans (s ∷ rest) none = absurd (let first = none 0 s (omega arith) in omega (arith, first.0, first.1))

-- a row of blocks alone
pub row-of : (knows : Id → Type 0) (content : Id → Tree) (row : Row) → AreRowBlocks row.blocks.items → row.spans.items ≡ [] → IsRow knows content row
row-of knows content row blocks spans = record {
  blocks = blocks;
  squares = subst (IsStrip knows content 0) (sym spans) (λ c id at. absurd cc);
  within = subst (AreWithin 0) (sym spans) (λ k d lt. absurd (omega (arith, lt)));
  rises = subst Rise (sym spans) (λ i j d lt within. absurd (omega (arith, within)));
  one = inr spans;
}

-- a strip with the cells of the rows, below strips that are kept
pub with-strip : {knows knows' : Id → Type 0} {old new : Id → Tree} → Keeps knows knows' old new → (strips : List Strip) (s : Strip) (rows : List Row)
    → All (IsSoundStrip knows old) strips → ((i j : ℕ) → picture new (s ∷ []) i j ≡ rows_state old rows i j)
    → (i j : ℕ) → picture new (strips ++ s ∷ []) i j ≡ state_with_rows old strips rows i j
with-strip {knows} {knows'} {old} {new} keeps strips s rows sound same i j =
    let over = picture-keeps {knows = knows} {knows' = knows'} {old = old} {new = new} keeps strips sound i j in
    picture-append new strips (s ∷ []) i j ∙ (λ k. if nat_lt j (height strips) then over k else same i (j - height strips) k)

-- strips with the cells of strips and rows, and below them a strip with those of one row more
pub with-last : (old new : Id → Tree) (strips above : List Strip) (rows : List Row) (row : Row) (s : Strip) → height above ≡ height strips + length rows
    → ((i j : ℕ) → picture new above i j ≡ state_with_rows old strips rows i j)
    → ((i j : ℕ) → picture new (s ∷ []) i j ≡ rows_state old (row ∷ []) i j)
    → (i j : ℕ) → picture new (above ++ s ∷ []) i j ≡ state_with_rows old strips (rows ++ row ∷ []) i j
with-last old new strips above rows row s tall over below i j =
    picture-append new above (s ∷ []) i j ∙ (λ k. if nat_lt j (tall k) then over i j k else below i (j - tall k) k) ∙ sym (with-push old strips rows row i j)

-- the rows alone
pub with-below : (content : Id → Tree) (strips : List Strip) (rows : List Row) (i j : ℕ)
    → state_with_rows content strips rows i (height strips + j) ≡ rows_state content rows i j
with-below content strips rows i j =
    let out : nat_lt (height strips + j) (height strips) ≡ false = grind arith in
    let back : height strips + j - height strips ≡ j = omega arith in
    ap (λ b. if b then picture content strips i (height strips + j) else rows_state content rows i (height strips + j - height strips)) out
    ∙ ap (rows_state content rows i) back

-- cells of the state 1 go into a row of blocks
module _ (knows : Id → Type 0) (content : Id → Tree) (old new : Row) (start end state : ℕ) (is : IsRow knows content old) (none : old.spans.items ≡ [])
    (same : new.spans.items ≡ old.spans.items) (one : state ≡ 1) where
  pub fills-blocks : AreRowBlocks new.blocks.items → AreBlocksBefore end new.blocks.items
      → ((c : ℕ) → start ≤ c → c < end → cell_in_blocks new.blocks.items c ≡ 1)
      → ((c : ℕ) → ¬ ((start ≤ c) × (c < end)) → cell_in_blocks new.blocks.items c ≡ cell_in_blocks old.blocks.items c)
      → FillsRow knows content old new start end state
  fills-blocks blocks before inside others = record {
    row = record {
      blocks = blocks;
      squares = subst (λ z. IsStrip knows content 0 z) (sym same) is.squares;
      within = subst (AreWithin 0) (sym same) is.within;
      rises = subst Rise (sym same) is.rises;
      one = inr (same ∙ none);
    };
    before = record { blocks = before; spans = subst (AreBefore end) (sym (same ∙ none)) (λ k d lt. absurd (omega (arith, lt))) };
    states = λ c. row-of-blocks content new c (same ∙ none) ∙ by c (nat_le start c) refl (nat_lt c end) refl;
  }
    where
      by : (c : ℕ) (a : Bool) → nat_le start c ≡ a → (b : Bool) → nat_lt c end ≡ b
          → cell_in_blocks new.blocks.items c ≡ (if nat_le start c && nat_lt c end then state else row_state content old c)
      by c true e true f = inside c (grind (arith, e)) (grind (arith, f)) ∙ sym one
          ∙ sym (λ i. if e i && f i then state else row_state content old c)
      by c true e false f = others c (λ h. let lt = h.1 in absurd (grind (arith, f, lt))) ∙ sym (row-of-blocks content old c none)
          ∙ sym (λ i. if e i && f i then state else row_state content old c)
      by c false e b f = others c (λ h. let le = h.0 in absurd (grind (arith, e, le))) ∙ sym (row-of-blocks content old c none)
          ∙ sym (λ i. if e i && f i then state else row_state content old c)
