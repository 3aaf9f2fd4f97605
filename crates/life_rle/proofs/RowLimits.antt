-- Whether cells stand in the plane, by the limit of their row; and where the next item stands.
use Rattle.std.proofs.Common.{◌≡◌, ℕ, ◌^◌, Bool, true, false, cond, Option, Some, None, not, refl, sym, arith, ℤ, pos, neg_ℤ, ◌+ℤ◌, ◌≤ℤ◌, ◌<ℤ◌, ◌&&◌, int_lt, int_le, if◌then◌else◌}
use Rattle.std.proofs.lemmas.Int.{ints}
use Rattle.life_base.specs.declared.cell.TheConstants.{MAX_LEVEL}
use Rattle.life_base.specs.declared.kind.Kind.{Kind}
use Rattle.life_base.specs.declared.kind.Kind.TheVariants.{StateRange, OutOfPlane}
use Rattle.life_base.specs.declared.rule.Rule.{Rule}
use Rattle.life_rle.specs.declared.item.Item.{Item}
use Rattle.life_rle.specs.declared.item.Item.TheVariants.{Cells, RowEnds}
use Rattle.life_rle.specs.declared.cursor.Cursor.{Cursor}
use Rattle.life_rle.specs.Plane.{rle_plane_end}
use Rattle.life_rle.specs.States.{is_state_of}
use Rattle.life_rle.specs.Pattern.{item_fault}
use Rattle.life_rle.specs.Cursor.{IsNear, cursor_after_item, row_limit}
use Rattle.life_base.proofs.Basics.{int_le-true}

below : (x : ℤ) (n : ℕ) → neg_ℤ (rle_plane_end MAX_LEVEL) ≤ℤ x → int_le (x +ℤ pos n) (neg_ℤ (pos (2 ^ 63))) ≡ false
below x n h = grind (arith, ints)

-- cells stand in the plane where they stand within the limit
within-limit : (y x limit : ℤ) (n : ℕ) → neg_ℤ (rle_plane_end MAX_LEVEL) ≤ℤ x → limit ≡ row_limit MAX_LEVEL y
    → (int_lt y (rle_plane_end MAX_LEVEL) && int_le (x +ℤ pos n) (rle_plane_end MAX_LEVEL)) ≡ int_le (x +ℤ pos n) limit
within-limit y x limit n near e =
    rw e (elim (int_lt y (rle_plane_end MAX_LEVEL))
    as (λ t. (t && int_le (x +ℤ pos n) (rle_plane_end MAX_LEVEL)) ≡ int_le (x +ℤ pos n) (cond t (rle_plane_end MAX_LEVEL) (neg_ℤ (pos (2 ^ 63))))) [
      | true ↦ refl
      | false ↦ sym (below x n near)
    ])

-- the fault of cells, by whether they have a state of the rule and stand in the plane
abbrev pub cells-by : (known inside : Bool) → Option Kind
cells-by known inside = if not known then Some StateRange else if inside then None else Some OutOfPlane

-- their fault, by whether they stand within the limit
pub fault-by : (known : Bool) (y x limit : ℤ) (n : ℕ) → neg_ℤ (rle_plane_end MAX_LEVEL) ≤ℤ x → limit ≡ row_limit MAX_LEVEL y → known ≡ true → (inside : Bool)
    → int_le (x +ℤ pos n) limit ≡ inside
    → cells-by known (int_lt y (rle_plane_end MAX_LEVEL) && int_le (x +ℤ pos n) (rle_plane_end MAX_LEVEL)) ≡ (if inside then None else Some OutOfPlane)
fault-by known y x limit n near e k inside h = rw (k, within-limit y x limit n near e, h) refl

is-inside : (known row column : Bool) → cells-by known (row && column) ≡ None → column ≡ true
is-inside true true true e = refl
is-inside true true false e = cc
is-inside true false column e = cc
is-inside false row column e = cc

pub is-on : (row : Bool) → cond row None (Some OutOfPlane) ≡ None → row ≡ true
is-on true e = refl
is-on false e = cc

pub further : (low z : ℤ) (n : ℕ) → low ≤ℤ z → low ≤ℤ (z +ℤ pos n)
further low z n h = omega (arith, ints)

up-to : (a b : ℤ) → a <ℤ b → a ≤ℤ b
up-to a b h = omega (arith, ints)

-- after an item without a fault
pub cursor-near : (rule : Rule) (c : Cursor) (item : Item) → IsNear MAX_LEVEL c → item_fault MAX_LEVEL rule c.y c.x item ≡ None
    → IsNear MAX_LEVEL (cursor_after_item c item)
cursor-near rule c (Cells n s) near e =
    let column = is-inside (is_state_of rule s) (int_lt c.y (rle_plane_end MAX_LEVEL)) (int_le (c.x +ℤ pos n) (rle_plane_end MAX_LEVEL)) e in
    record {
      left = near.left;
      x = (further (neg_ℤ (rle_plane_end MAX_LEVEL)) c.x n near.x.0, int_le-true (c.x +ℤ pos n) (rle_plane_end MAX_LEVEL) column);
      y = near.y;
    }
cursor-near rule c (RowEnds n) near e = record {
  left = near.left;
  x = (near.left.0, up-to c.left (rle_plane_end MAX_LEVEL) near.left.1);
  y = (
    further (neg_ℤ (rle_plane_end MAX_LEVEL)) c.y n near.y.0,
    int_le-true (c.y +ℤ pos n) (rle_plane_end MAX_LEVEL)
        (is-on (int_le (c.y +ℤ pos n) (rle_plane_end MAX_LEVEL)) e),
  );
}
