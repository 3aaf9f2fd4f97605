-- The least box around cells, cell by cell.
use Rattle.std.proofs.Common.{◌≡◌, List, [], ◌∷◌, refl, ap, ◌∙◌, ℤ, arith}
use Rattle.std.specs.Int.{int_min, int_max}
use Rattle.std.proofs.lemmas.Int.{ints}
use Rattle.life_base.specs.declared.cell.Cell.{Cell}
use Rattle.life_base.specs.declared.bounds.Bounds.{Bounds}
use Rattle.life_rle.specs.Written.{box_around, box_of, box_of_cell}

-- the least box around a box and cells
abbrev pub bounds_onto : Bounds → List Cell → Bounds
bounds_onto box [] = box
bounds_onto box (c ∷ cells) = box_around box (box_of c cells)

min-assoc : (a b c : ℤ) → int_min (int_min a b) c ≡ int_min a (int_min b c)
min-assoc a b c = grind (arith, ints)

max-assoc : (a b c : ℤ) → int_max (int_max a b) c ≡ int_max a (int_max b c)
max-assoc a b c = grind (arith, ints)

joined-assoc : (a b c : Bounds) → box_around (box_around a b) c ≡ box_around a (box_around b c)
joined-assoc a b c =
    ap (λ z. record {
      left = z;
      top = int_min (int_min a.top b.top) c.top;
      right = int_max (int_max a.right b.right) c.right;
      bottom = int_max (int_max a.bottom b.bottom) c.bottom;
    }) (min-assoc a.left b.left c.left)
    ∙ ap (λ z. record {
      left = int_min a.left (int_min b.left c.left);
      top = z;
      right = int_max (int_max a.right b.right) c.right;
      bottom = int_max (int_max a.bottom b.bottom) c.bottom;
    }) (min-assoc a.top b.top c.top)
    ∙ ap (λ z. record {
      left = int_min a.left (int_min b.left c.left);
      top = int_min a.top (int_min b.top c.top);
      right = z;
      bottom = int_max (int_max a.bottom b.bottom) c.bottom;
    }) (max-assoc a.right b.right c.right)
    ∙ ap (λ z. record {
      left = int_min a.left (int_min b.left c.left);
      top = int_min a.top (int_min b.top c.top);
      right = int_max a.right (int_max b.right c.right);
      bottom = z;
    }) (max-assoc a.bottom b.bottom c.bottom)

-- one more cell
pub bounds_onto-cell : (box : Bounds) (c : Cell) (cells : List Cell) → bounds_onto (box_around box (box_of_cell c)) cells ≡ bounds_onto box (c ∷ cells)
bounds_onto-cell box c [] = refl
bounds_onto-cell box c (d ∷ cells) = joined-assoc box (box_of_cell c) (box_of d cells)

-- from the first cell on
pub bounds_onto-first : (c : Cell) (cells : List Cell) → bounds_onto (box_of_cell c) cells ≡ box_of c cells
bounds_onto-first c [] = refl
bounds_onto-first c (d ∷ cells) = refl

-- a box around a box and a cell, by its sides
pub bounds_onto-sides : (box next : Bounds) (c : Cell) (cells : List Cell) → next.left ≡ int_min box.left c.x → next.top ≡ int_min box.top c.y
    → next.right ≡ int_max box.right c.x → next.bottom ≡ int_max box.bottom c.y
    → bounds_onto next cells ≡ bounds_onto box (c ∷ cells)
bounds_onto-sides box next c cells l t r b =
    ap (λ z. bounds_onto (record { left = z; top = next.top; right = next.right; bottom = next.bottom }) cells) l
    ∙ ap (λ z. bounds_onto (record { left = int_min box.left c.x; top = z; right = next.right; bottom = next.bottom }) cells) t
    ∙ ap (λ z. bounds_onto (record { left = int_min box.left c.x; top = int_min box.top c.y; right = z; bottom = next.bottom }) cells) r
    ∙ ap (λ z. bounds_onto (record { left = int_min box.left c.x; top = int_min box.top c.y; right = int_max box.right c.x; bottom = z }) cells) b
    ∙ bounds_onto-cell box c cells
