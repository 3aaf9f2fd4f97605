-- Facts about the rows from the middle of the plane on, where none of the others has a cell.
use Rattle.std.proofs.Common.{◌≡◌, ℕ, suc, ◌+◌, ◌-◌, ◌^◌, ◌≤◌, ◌<◌, true, false, nat_lt, List, [], ◌∷◌, ◌++◌, All, length, length-append, sym, ◌∙◌, ap, subst, arith, if◌then◌else◌}
use Rattle.life_base.specs.declared.cell.TheConstants.{MAX_LEVEL}
use Rattle.life_base.specs.Tree.{Tree}
use Rattle.life_quad.specs.declared.id.Id.{Id}
use Rattle.life_strip.specs.declared.pile.Pile.{Pile}
use Rattle.life_strip.specs.declared.row.Row.{Row}
use Rattle.life_strip.specs.declared.spans.Strip.{Strip}
use Rattle.life_strip.specs.Given.{half_plane}
use Rattle.life_strip.specs.Middle.{HasConsumedNorth}
use Rattle.life_strip.specs.Picture.{height, picture, state_in_strip, AreFalling, IsLowest, IsSoundStrip}
use Rattle.life_strip.specs.Pile.{IsPile, pile_height, pile_state_with}
use Rattle.life_strip.specs.Row.{IsRow, rows_state, state_with_rows}
use Rattle.life_strip.proofs.RowLemmas.{rows-beyond}

-- ---- the pile without the strip of the northern half

-- no cell is below the rows
pub with-beyond : (content : Id → Tree) (strips : List Strip) (rows : List Row) (i j : ℕ) → height strips + length rows ≤ j
    → state_with_rows content strips rows i j ≡ 0
with-beyond content strips rows i j le =
    let out : nat_lt j (height strips) ≡ false = grind (arith, le) in
    ap (λ b. if b then picture content strips i j else rows_state content rows i (j - height strips)) out
    ∙ rows-beyond content rows i (j - height strips) (omega (arith, le))

-- the rows below the first strip
with-first : (content : Id → Tree) (x : Strip) (xs : List Strip) (rows : List Row) (i j : ℕ)
    → state_with_rows content (x ∷ xs) rows i (2 ^ x.level + j) ≡ state_with_rows content xs rows i j
with-first content x xs rows i j =
    let below : nat_lt (2 ^ x.level + j) (2 ^ x.level + height xs) ≡ nat_lt j (height xs) = grind arith in
    let out : nat_lt (2 ^ x.level + j) (2 ^ x.level) ≡ false = grind arith in
    let back : 2 ^ x.level + j - 2 ^ x.level ≡ j = omega arith in
    let rest : 2 ^ x.level + j - (2 ^ x.level + height xs) ≡ j - height xs = omega arith in
    λ k. if below k then (if out k then state_in_strip content x i (2 ^ x.level + j) else picture content xs i (back k)) else rows_state content rows i (rest k)

-- and those of a blank one
with-blank-first : (content : Id → Tree) (x : Strip) (xs : List Strip) (rows : List Row) → ((i j : ℕ) → state_in_strip content x i j ≡ 0) → (i j : ℕ)
    → j < 2 ^ x.level → state_with_rows content (x ∷ xs) rows i j ≡ 0
with-blank-first content x xs rows none i j lt =
    let over : nat_lt j (2 ^ x.level + height xs) ≡ true = grind (arith, lt) in
    let first : nat_lt j (2 ^ x.level) ≡ true = grind (arith, lt) in
    (λ k. if over k then (if first k then state_in_strip content x i j else picture content xs i (j - 2 ^ x.level)) else
    rows_state content rows i (j - (2 ^ x.level + height xs))) ∙ none i j

module _ (content : Id → Tree) (old new : Pile) (consumed : HasConsumedNorth content old new) where
  pub consumed-north : (row : Row) (i j : ℕ) → j < half_plane → pile_state_with content old row i j ≡ 0
  consumed-north row i j lt =
      let l = consumed.level in
      ap (λ z. state_with_rows content z (old.band.items ++ row ∷ []) i j) consumed.strips
      ∙ with-blank-first content consumed.north new.strips.items (old.band.items ++ row ∷ []) consumed.blank i j (omega (arith, lt, l))

  pub consumed-south : (row : Row) (i j : ℕ) → pile_state_with content old row i (half_plane + j) ≡ pile_state_with content new row i j
  consumed-south row i j =
      let l = consumed.level in
      let at : half_plane + j ≡ 2 ^ consumed.north.level + j = omega (arith, l) in
      (λ k. state_with_rows content (consumed.strips k) (old.band.items ++ row ∷ []) i (at k))
      ∙ with-first content consumed.north new.strips.items (old.band.items ++ row ∷ []) i j
      ∙ ap (λ z. state_with_rows content new.strips.items (z ++ row ∷ []) i j) (sym consumed.band)

  pub consumed-height : half_plane + pile_height new ≡ pile_height old
  consumed-height =
      let l = consumed.level in
      let h = ap height consumed.strips in
      let b = ap length consumed.band in
      omega (arith, l, h, b)

  pub consumed-pile : (knows : Id → Type 0) → IsPile knows content old → IsPile knows content new
  consumed-pile knows is =
      let sound = subst (All (IsSoundStrip knows content)) consumed.strips is.strips.sound in
      let falling = subst AreFalling consumed.strips is.strips.falling in
      let low = subst (IsLowest 2) consumed.strips is.lowest in
      let b = ap length consumed.band in
      let f = is.few in
      record {
        strips = record {
          sound = λ k d lt. sound (suc k) d (omega (arith, lt));
          falling = λ i j d ij jl. falling (suc i) (suc j) d (omega (arith, ij)) (omega (arith, jl));
        };
        lowest = λ k d lt. low (suc k) d (omega (arith, lt));
        rows = subst (All (IsRow knows content)) (sym consumed.band) is.rows;
        few = omega (arith, b, f);
      }

-- the southern half of a picture of the plane, up to its last row
pub record IsSouthern (f g : ℕ → ℕ → ℕ) (rows : ℕ) : Type 0 where
  pub north : (i j : ℕ) → j < half_plane → f i j ≡ 0
  pub south : (i j : ℕ) → f i (half_plane + j) ≡ g i j
  pub beyond : (i j : ℕ) → rows < j → g i j ≡ 0
  pub last : (i : ℕ) × (i < 2 ^ MAX_LEVEL) × ¬ (g i rows ≡ 0)
  pub few : rows < half_plane

pub southern-of : (content : Id → Tree) (old new : Pile) (row : Row) (rows : ℕ) → HasConsumedNorth content old new → pile_height old ≡ rows → half_plane ≤ rows
    → rows < 2 ^ MAX_LEVEL
    → (0 < rows → (i : ℕ) × (i < 2 ^ MAX_LEVEL) × ¬ (pile_state_with content old row i rows ≡ 0))
    → IsSouthern (pile_state_with content old row) (pile_state_with content new row) (rows - half_plane)
southern-of content old new row rows consumed all tall most cell =
    let height = consumed-height content old new consumed in
    let south = consumed-south content old new consumed row in
    let whole : half_plane + (rows - half_plane) ≡ rows = omega (arith, tall) in
    let live = cell (omega (arith, tall)) in
    record {
      north = consumed-north content old new consumed row;
      south = south;
      beyond = λ i j lt.
          let n = length-append new.band.items (row ∷ []) in
          with-beyond content new.strips.items (new.band.items ++ row ∷ []) i j (omega (arith, n, height, all, lt, tall));
      last = (live.0, live.1, λ z. live.2 (sym (ap (pile_state_with content old row live.0) whole) ∙ south live.0 (rows - half_plane) ∙ z));
      few = omega (arith, tall, most);
    }
