-- Squares of a plane, turned, are squares of its image.
use Rattle.std.proofs.Common.{◌≡◌, ℕ, zero, suc, ◌^◌, ◌≤◌, Bool, true, false, refl, sym, ap, ap₂, ◌∙◌, subst, ℤ, pos, neg_ℤ, ◌+ℤ◌, arith, if◌then◌else◌}
use Rattle.std.proofs.lemmas.Int.{ints}
use Rattle.life_base.specs.Tree.{Tree, point, quad, depth, tree_cell, IsFull}
use Rattle.life_pattern.specs.Laws.{SquaresAreCentred, CentredSquaresTellCells}
use Rattle.life_pattern.specs.Universe.{square, centred_square, corner, IsBlankOutside}
use Rattle.life_quad.specs.Turning.{exactly_one, one_of_four, side_of, turned_half, turned_tree}
use Rattle.life_forms.specs.Turns.{Turn, counted_coordinate, turned_column, turned_row}
use Rattle.life_forms.proofs.TurnFacts.{backwards-is, image_cells, image-outside}
use Rattle.life_base.proofs.Basics.{double}

-- a coordinate, or the one so many further
abbrev stepped : Bool → ℕ → ℤ → ℤ
stepped false n x = x
stepped true n x = x +ℤ pos n

-- where a side of a square begins that goes to one that begins at x
abbrev pub begin : Bool → ℕ → ℤ → ℤ
begin false k x = x
begin true k x = neg_ℤ (x +ℤ pos (2 ^ k))

-- half a side further, in the image and before
axis : (c e : Bool) (n : ℕ) (x : ℤ) → stepped (exactly_one c e) (2 ^ n) (begin c (suc n) x) ≡ begin c n (stepped e (2 ^ n) x)
axis false e n x = refl
axis true false n x = let p = double n in omega (arith, ints)
axis true true n x = let p = double n in omega (arith, ints)

single : (c : Bool) (x : ℤ) → begin c 0 x ≡ counted_coordinate c x
single false x = refl
single true x = let b = backwards-is x in omega (arith, ints)

one-of-squares : (cell : ℤ → ℤ → ℕ) (n : ℕ) (x y : ℤ) (u v : Bool)
    → one_of_four u v (square cell n x y) (square cell n (x +ℤ pos (2 ^ n)) y) (square cell n x (y +ℤ pos (2 ^ n)))
    (square cell n (x +ℤ pos (2 ^ n)) (y +ℤ pos (2 ^ n)))
    ≡ square cell n (stepped u (2 ^ n) x) (stepped v (2 ^ n) y)
one-of-squares cell n x y false false = refl
one-of-squares cell n x y true false = refl
one-of-squares cell n x y false true = refl
one-of-squares cell n x y true true = refl

pub one-of-turned : (t : Turn) (u v : Bool) (a b c d : Tree)
    → one_of_four u v (turned_tree t a) (turned_tree t b) (turned_tree t c) (turned_tree t d) ≡ turned_tree t (one_of_four u v a b c d)
one-of-turned t false false a b c d = refl
one-of-turned t true false a b c d = refl
one-of-turned t false true a b c d = refl
one-of-turned t true true a b c d = refl

-- the pair of which a turn makes (x, y), along one line
abbrev pub line : Bool → ℤ → ℤ → ℤ
line false x y = x
line true x y = y

stepped-line : (e east south : Bool) (h : ℕ) (x y : ℤ)
    → stepped (if e then south else east) h (line e x y) ≡ line e (stepped east h x) (stepped south h y)
stepped-line false east south h x y = refl
stepped-line true east south h x y = refl

line-is : (e : Bool) (x y : ℤ) → line e x y ≡ (if e then y else x)
line-is false x y = refl
line-is true x y = refl

-- the square that goes to the one that begins at (x, y)
abbrev pub before : Turn → (ℤ → ℤ → ℕ) → ℕ → ℤ → ℤ → Tree
before t cell k x y = square cell k (begin t.columns k (line t.exchange x y)) (begin t.rows k (line t.exchange y x))

pub turned-square : (t : Turn) (cell : ℤ → ℤ → ℕ) (k : ℕ) (x y : ℤ) → turned_tree t (before t cell k x y) ≡ square (image_cells t cell) k x y
unfolding square
turned-square t cell zero x y =
    ap point (ap₂ cell (single t.columns (line t.exchange x y) ∙ ap (counted_coordinate t.columns) (line-is t.exchange x y))
    (single t.rows (line t.exchange y x) ∙ ap (counted_coordinate t.rows) (line-is t.exchange y x)))
turned-square t cell (suc n) x y =
    let h = 2 ^ n in
    let left = begin t.columns (suc n) (line t.exchange x y) in
    let top = begin t.rows (suc n) (line t.exchange y x) in
    let at = λ (east south : Bool).
    one-of-turned t (side_of t east south) (turned_half t east south) (square cell n left top) (square cell n (left +ℤ pos h) top)
    (square cell n left (top +ℤ pos h)) (square cell n (left +ℤ pos h) (top +ℤ pos h))
    ∙ ap (turned_tree t) (one-of-squares cell n left top (side_of t east south) (turned_half t east south)
    ∙ ap₂ (square cell n)
    (axis t.columns (if t.exchange then south else east) n (line t.exchange x y) ∙ ap (begin t.columns n) (stepped-line t.exchange east south h x y))
    (axis t.rows (if t.exchange then east else south) n (line t.exchange y x) ∙ ap (begin t.rows n) (stepped-line t.exchange south east h y x)))
    ∙ turned-square t cell n (stepped east h x) (stepped south h y) in
    λ i. quad (at false false i) (at true false i) (at false true i) (at true true i)

-- ---- squares about (0, 0)

-- each side of such a square begins where it began
begin-corner : (b : Bool) (k : ℕ) → 1 ≤ k → begin b k (corner k) ≡ corner k
unfolding corner
begin-corner b zero high = absurd (omega arith)
begin-corner false (suc k) high = refl
begin-corner true (suc k) high = let p = double k in omega (arith, ints)

line-itself : (e : Bool) (x : ℤ) → line e x x ≡ x
line-itself false x = refl
line-itself true x = refl

pub turned-centred : (turn : Turn) (cell : ℤ → ℤ → ℕ) (k : ℕ) → 1 ≤ k → turned_tree turn (centred_square cell k) ≡ centred_square (image_cells turn cell) k
unfolding centred_square
turned-centred turn cell k high =
    let side = λ (b : Bool). ap (begin b k) (line-itself turn.exchange (corner k)) ∙ begin-corner b k high in
    ap (turned_tree turn) (sym (ap₂ (square cell k) (side turn.columns) (side turn.rows))) ∙ turned-square turn cell k (corner k) (corner k)

-- the turned square has the cells of the image
pub turned-cells : SquaresAreCentred → CentredSquaresTellCells → (turn : Turn) (t image : Tree) → IsFull t → IsFull image → 1 ≤ depth t → depth image ≡ depth t
    → image ≡ turned_tree turn t → (x y : ℤ) → tree_cell image x y ≡ tree_cell t (turned_column turn x y) (turned_row turn x y)
turned-cells centre tell turn t image full also high level is =
    let k = depth t in
    let here = centre t full high in
    let there = centre image also (subst (λ (n : ℕ). 1 ≤ n) (sym level) high) in
    tell k (tree_cell image) (image_cells turn (tree_cell t)) (subst (λ (n : ℕ). IsBlankOutside n (tree_cell image)) level there.1)
    (image-outside k high turn (tree_cell t) here.1)
    (ap (centred_square (tree_cell image)) (sym level) ∙ there.0 ∙ is ∙ ap (turned_tree turn) (sym here.0) ∙ turned-centred turn (tree_cell t) k high)
