-- A file of some bytes has few different blocks of cells.
use Rattle.std.proofs.Common.{◌≡◌, ℕ, zero, suc, ◌+◌, ◌*◌, ◌^◌, ◌≤◌, ◌⊎◌, inl, inr, true, false, ◌&&◌, List, [], ◌∷◌, length, map, refl, ap, sym, ◌∙◌, subst, arith, ℤ, pos, negsuc, neg_ℤ, ◌+ℤ◌, ◌≤ℤ◌, ◌==◌, nat_le, nat_lt, int_lt, int_le, ◌-ℤ◌, if◌then◌else◌, Contains, pow_pos}
use Rattle.std.specs.Ordering.{int_eq}
use Rattle.std.proofs.lemmas.Bool.Decides.{nat_tests}
use Rattle.std.proofs.lemmas.Int.{ints}
use Rattle.std.proofs.lemmas.Bool.{cases_Bool}
use Rattle.std.proofs.Math.Nat.{le_of_mul-le-mul_right}
use Rattle.life_base.specs.Lines.{joined_lines}
use Rattle.life_rle.specs.declared.item.Item.{Item}
use Rattle.life_rle.specs.declared.item.Item.TheVariants.{Cells, RowEnds}
use Rattle.life_rle.specs.Plane.{rle_plane_end}
use Rattle.life_rle.specs.Pattern.{Rle, PlacedItem, cell_among, rle_cell}
use Rattle.life_rle.specs.Blocks.{AreAllBlocks, FewBlocks}
use Rattle.life_rle.proofs.BlockItems.{places, block_at, all_blocks, state_from, Among}
use Rattle.life_rle.proofs.Places.{placed_from}
use Rattle.life_rle.proofs.RunsLaws.{placed-from, IsRle-plane, low-side}
use Rattle.life_rle.proofs.BlockSums.{all-few}
use Rattle.life_rle.proofs.BlockCover.{cover, among-left, among-right}
use Rattle.life_rle.proofs.BlockBytes.{file-pays}
use Rattle.life_base.proofs.Basics.{offset_plus}

-- ---- the cells of a file, counted from the corner of the plane

module _ (e : ℤ) where
  row-same : (r y : ℕ) → int_eq (pos r -ℤ e) (pos y -ℤ e) ≡ (r == y)
  row-same r y = elim (cases_Bool (r == y)) [
    | inl h ↦ let f : int_eq (pos r -ℤ e) (pos y -ℤ e) ≡ true = grind (arith, ints, nat_tests, h) in f ∙ sym h
    | inr h ↦ let f : int_eq (pos r -ℤ e) (pos y -ℤ e) ≡ false = grind (arith, ints, nat_tests, h) in f ∙ sym h
  ]

  from-same : (x c : ℕ) → int_le (pos x -ℤ e) (pos c -ℤ e) ≡ nat_le x c
  from-same x c = elim (cases_Bool (nat_le x c)) [
    | inl h ↦ let f : int_le (pos x -ℤ e) (pos c -ℤ e) ≡ true = grind (arith, ints, nat_tests, h) in f ∙ sym h
    | inr h ↦ let f : int_le (pos x -ℤ e) (pos c -ℤ e) ≡ false = grind (arith, ints, nat_tests, h) in f ∙ sym h
  ]

  to-same : (x n c : ℕ) → int_lt (pos c -ℤ e) ((pos x -ℤ e) +ℤ pos n) ≡ nat_lt c (x + n)
  to-same x n c = elim (cases_Bool (nat_lt c (x + n))) [
    | inl h ↦ let f : int_lt (pos c -ℤ e) ((pos x -ℤ e) +ℤ pos n) ≡ true = grind (arith, ints, nat_tests, h) in f ∙ sym h
    | inr h ↦ let f : int_lt (pos c -ℤ e) ((pos x -ℤ e) +ℤ pos n) ≡ false = grind (arith, ints, nat_tests, h) in f ∙ sym h
  ]

  state-cell : (left x y : ℕ) (items : List Item) (c r : ℕ)
      → cell_among (placed_from (pos left -ℤ e) (pos x -ℤ e) (pos y -ℤ e) items) (pos c -ℤ e) (pos r -ℤ e) ≡ state_from left x y items c r
  state-cell left x y [] c r = refl
  state-cell left x y (Cells n s ∷ items) c r =
      let rest = state-cell left (x + n) y items c r in
      let on = offset_plus e x n in
      (λ i. if row-same r y i && (from-same x c i && to-same x n c i) then s
      else cell_among (placed_from (pos left -ℤ e) (on i) (pos y -ℤ e) items) (pos c -ℤ e) (pos r -ℤ e))
      ∙ ap (λ z. if r == y && (nat_le x c && nat_lt c (x + n)) then s else z) rest
  state-cell left x y (RowEnds n ∷ items) c r =
      let rest = state-cell left left (y + n) items c r in
      let on = offset_plus e y n in
      ap (λ z. cell_among (placed_from (pos left -ℤ e) (pos left -ℤ e) z items) (pos c -ℤ e) (pos r -ℤ e)) on ∙ rest

-- a coordinate of the plane, counted from its edge
from_edge : (e z : ℤ) → neg_ℤ e ≤ℤ z → (n : ℕ) × (z ≡ pos n -ℤ e)
from_edge e z h = by (z +ℤ e) refl
  where
    by : (w : ℤ) → z +ℤ e ≡ w → (n : ℕ) × (z ≡ pos n -ℤ e)
    by (pos n) f = (n, omega (arith, ints, f))
    by (negsuc n) f = absurd (omega (arith, ints, f, h))

-- ---- blocks at the places

among-map : {A B : Type 0} (f : A → B) (xs : List A) (a : A) → Among xs a → Among (map f xs) (f a)
among-map f [] a h = absurd h
among-map f (x ∷ xs) a (inl e) = inl (ap f e)
among-map f (x ∷ xs) a (inr h) = inr (among-map f xs a h)

pub contains-among : {A : Type 0} (xs : List A) (a : A) → Among xs a → Contains xs a
contains-among [] a h = absurd h
contains-among (x ∷ xs) a (inl e) = (0, omega arith, e)
contains-among (x ∷ xs) a (inr h) = let k = contains-among xs a h in (suc k.0, omega (arith, k.1), k.2)

all_blocks-have : (n level left y : ℕ) (items : List Item) (p : ℕ × ℕ) → 1 ≤ level → level ≤ n → Among (places (2 ^ level) left y items) p
    → Among (all_blocks n left y items) (block_at level p)
all_blocks-have zero level left y items p low high h = absurd (omega (arith, low, high))
all_blocks-have (suc n) level left y items p low high h = elim (last level n high) [
  | inl e ↦
      among-left (map (block_at (suc n)) (places (2 ^ suc n) left y items)) (all_blocks n left y items) (block_at level p)
      (subst (λ k. Among (map (block_at (suc n)) (places (2 ^ suc n) left y items)) (block_at k p)) (sym e)
      (among-map (block_at (suc n)) (places (2 ^ suc n) left y items) p (subst (λ k. Among (places (2 ^ k) left y items) p) e h)))
  | inr less ↦
      among-right (map (block_at (suc n)) (places (2 ^ suc n) left y items)) (all_blocks n left y items) (block_at level p)
      (all_blocks-have n level left y items p low less h)
]
  where
    last : (level n : ℕ) → level ≤ suc n → (level ≡ suc n) ⊎ (level ≤ n)
    last level n h = grind (arith, nat_tests)

-- ---- of a file

module _ (top left y : ℕ) (file : Rle) (x_is : file.position.x ≡ pos left -ℤ rle_plane_end top) (y_is : file.position.y ≡ pos y -ℤ rle_plane_end top) where
  cell-at : (c r : ℕ) → rle_cell file (pos c -ℤ rle_plane_end top) (pos r -ℤ rle_plane_end top) ≡ state_from left left y file.items c r
  cell-at c r =
      ap (λ (ps : List PlacedItem). cell_among ps (pos c -ℤ rle_plane_end top) (pos r -ℤ rle_plane_end top)) (placed-from file)
      ∙ (λ i. cell_among (placed_from (x_is i) (x_is i) (y_is i) file.items) (pos c -ℤ rle_plane_end top) (pos r -ℤ rle_plane_end top))
      ∙ state-cell (rle_plane_end top) left left y file.items c r

  all-blocks : AreAllBlocks top (rle_cell file) (all_blocks top left y file.items)
  all-blocks b i j low high li lj some =
      let m = 2 ^ b.level in
      let found = cover m left (pow_pos b.level) y file.items b.row b.column i j li lj
      (λ z. some (cell-at (b.column * m + i) (b.row * m + j) ∙ z)) in
      record {
        column = found.0;
        one =
            contains-among (all_blocks top left y file.items) (record b { column = found.0 })
            (all_blocks-have top b.level left y file.items (b.row, found.0) low high found.1);
        same = λ k l lk ll. cell-at (b.column * m + k) (b.row * m + l) ∙ found.2 k l lk ll ∙ sym (cell-at (found.0 * m + k) (b.row * m + l));
      }

pub few_blocks : FewBlocks
few_blocks top lines file h =
    let plane = IsRle-plane top lines file h in
    let left = from_edge (rle_plane_end top) file.position.x (low-side (rle_plane_end top) file.position.x plane.0) in
    let y = from_edge (rle_plane_end top) file.position.y (low-side (rle_plane_end top) file.position.y plane.1) in
    let few = all-few top left.0 y.0 file.items in
    let pays = file-pays top top lines file h in
    let all : length (all_blocks top left.0 y.0 file.items) * 2 ^ top ≤ (14 * length (joined_lines lines) + 4 * top) * 2 ^ top = omega (arith, few, pays) in
    (all_blocks top left.0 y.0 file.items, all-blocks top left.0 y.0 file left.1 y.1, le_of_mul-le-mul_right all (pow_pos top))
