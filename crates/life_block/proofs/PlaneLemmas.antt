-- A part of the square of the plane's next states is a square of the plane.
use Rattle.std.proofs.Common.{◌≡◌, ℕ, zero, suc, ◌+◌, ◌*◌, ◌-◌, ◌^◌, ◌<◌, ◌≤◌, Bool, true, false, inl, inr, ℤ, pos, neg_ℤ, ◌+ℤ◌, refl, sym, ◌∙◌, ap, subst, arith, ◌-ℤ◌, if◌then◌else◌}
use Rattle.std.proofs.lemmas.Int.{ints}
use Rattle.life_base.specs.Rules.{has_digit}
use Rattle.life_base.specs.Sets.{OuterTotalistic}
use Rattle.life_base.specs.Tree.{Tree, depth, half_side, tree_cell}
use Rattle.life_base.specs.declared.cell.TheConstants.{MAX_LEVEL}
use Rattle.life_quad.specs.Refused.{SomePart}
use Rattle.life_strip.specs.Given.{half_plane, by_columns}
use Rattle.life_strip.specs.Needed.{SomeSquare}
use Rattle.life_next.specs.Generation.{next_life}
use Rattle.life_sweep.specs.Generation.{LifeAnswersAt}
use Rattle.life_sweep.specs.Refused.{of_plane as of_next}
use Rattle.life_block.specs.Needed.{HasClearEdge, SomeOfNext, of_plane, next_plane}
use Rattle.life_pieces.specs.Pieces.{square_from, step_ahead}
use Rattle.life_block.proofs.GenerationLemmas.{on-plane}
use Rattle.life_pieces.proofs.NeedLemmas.{depth-square, square-piece, full-square}
use Rattle.life_pieces.proofs.RootLemmas.{cells-of_piece}
use Rattle.life_block.proofs.RootLemmas.{next-outside}
use Rattle.life_base.proofs.Basics.{double}

-- a column or a row of the plane, counted from its north-western corner
abbrev at : ℕ → ℤ
at n = pos n -ℤ pos half_plane

-- twice as many columns of half the side
near : (c m : ℕ) → c * (m + m) ≡ (c + c) * m
near c m = omega arith

far : (c m : ℕ) → c * (m + m) + m ≡ (c + c + 1) * m
far c m = omega arith

last : (c m : ℕ) → (c + 1) * (m + m) ≡ (c + c + 1 + 1) * m
last c m = omega arith

less : (c m : ℕ) → (c + c + 1) * m ≤ (c + c + 1 + 1) * m
less c m = omega arith

module _ (P : Tree → Type 0) (f : ℤ → ℤ → ℕ) (small : (x y : ℤ) → f x y < 256) where
  own-square : (k column row : ℕ) → (column + 1) * 2 ^ suc k ≤ 2 ^ MAX_LEVEL → (row + 1) * 2 ^ suc k ≤ 2 ^ MAX_LEVEL
      → P (square_from f (suc k) (at (column * 2 ^ suc k)) (at (row * 2 ^ suc k))) → SomeSquare P (2 ^ MAX_LEVEL) (by_columns f)
  own-square k column row east south p =
      let x = at (column * 2 ^ suc k) in
      let y = at (row * 2 ^ suc k) in
      let square = square_from f (suc k) x y in
      let level : depth square ≡ suc k = depth-square f (suc k) x y in
      let columns : column * 2 ^ depth square ≡ column * 2 ^ suc k = ap (λ n. column * 2 ^ n) level in
      let rows : row * 2 ^ depth square ≡ row * 2 ^ suc k = ap (λ n. row * 2 ^ n) level in
      record {
        square = square;
        full = full-square f small (suc k) x y;
        deep = omega (arith, level);
        column = column;
        row = row;
        east = subst (λ n. (column + 1) * 2 ^ n ≤ 2 ^ MAX_LEVEL) (sym level) east;
        south = subst (λ n. (row + 1) * 2 ^ n ≤ 2 ^ MAX_LEVEL) (sym level) south;
        cells = λ i j li lj.
            let ex : x +ℤ pos i ≡ at (column * 2 ^ depth square + i) = omega (arith, ints, columns) in
            let ey : y +ℤ pos j ≡ at (row * 2 ^ depth square + j) = omega (arith, ints, rows) in
            cells-of_piece f square x y (full-square f small (suc k) x y) (square-piece f (suc k) x y) i j li lj ∙ (λ z. f (ex z) (ey z));
        property = p;
      }

  moved : (k : ℕ) (x y u v : ℤ) → x ≡ u → y ≡ v → SomePart P (square_from f k x y) → SomePart P (square_from f k u v)
  moved k x y u v e g h = subst (λ w. SomePart P (square_from f k u w)) g (subst (λ w. SomePart P (square_from f k w y)) e h)

  part-square : (k column row : ℕ) → (column + 1) * 2 ^ k ≤ 2 ^ MAX_LEVEL → (row + 1) * 2 ^ k ≤ 2 ^ MAX_LEVEL
      → SomePart P (square_from f k (at (column * 2 ^ k)) (at (row * 2 ^ k))) → SomeSquare P (2 ^ MAX_LEVEL) (by_columns f)
  unfolding square_from
  part-square zero column row east south h = absurd h
  part-square (suc k) column row east south (inl p) = own-square k column row east south p
  part-square (suc k) column row east south (inr h) =
      let m = 2 ^ k in
      let near-x : column * 2 ^ suc k ≡ (column + column) * m = ap (λ n. column * n) (double k) ∙ near column m in
      let near-y : row * 2 ^ suc k ≡ (row + row) * m = ap (λ n. row * n) (double k) ∙ near row m in
      let far-x : column * 2 ^ suc k + m ≡ (column + column + 1) * m = ap (λ n. column * n + m) (double k) ∙ far column m in
      let far-y : row * 2 ^ suc k + m ≡ (row + row + 1) * m = ap (λ n. row * n + m) (double k) ∙ far row m in
      let last-x : (column + 1) * 2 ^ suc k ≡ (column + column + 1 + 1) * m = ap (λ n. (column + 1) * n) (double k) ∙ last column m in
      let last-y : (row + 1) * 2 ^ suc k ≡ (row + row + 1 + 1) * m = ap (λ n. (row + 1) * n) (double k) ∙ last row m in
      let less-x = less column m in
      let less-y = less row m in
      let e0 : (column + column + 1) * m ≤ 2 ^ MAX_LEVEL = omega (arith, less-x, last-x, east) in
      let e1 : (column + column + 1 + 1) * m ≤ 2 ^ MAX_LEVEL = omega (arith, last-x, east) in
      let s0 : (row + row + 1) * m ≤ 2 ^ MAX_LEVEL = omega (arith, less-y, last-y, south) in
      let s1 : (row + row + 1 + 1) * m ≤ 2 ^ MAX_LEVEL = omega (arith, last-y, south) in
      let x0 : at (column * 2 ^ suc k) ≡ at ((column + column) * m) = ap at near-x in
      let y0 : at (row * 2 ^ suc k) ≡ at ((row + row) * m) = ap at near-y in
      let x1 : step_ahead (at (column * 2 ^ suc k)) m ≡ at ((column + column + 1) * m) = omega (arith, ints, far-x) in
      let y1 : step_ahead (at (row * 2 ^ suc k)) m ≡ at ((row + row + 1) * m) = omega (arith, ints, far-y) in
      elim h [
        | inl a ↦ part-square k (column + column) (row + row) e0 s0 (moved k _ _ _ _ x0 y0 a)
        | inr h ↦ elim h [
          | inl b ↦ part-square k (column + column + 1) (row + row) e1 s0 (moved k _ _ _ _ x1 y0 b)
          | inr h ↦ elim h [
            | inl c ↦ part-square k (column + column) (row + row + 1) e0 s1 (moved k _ _ _ _ x0 y1 c)
            | inr d ↦ part-square k (column + column + 1) (row + row + 1) e1 s1 (moved k _ _ _ _ x1 y1 d)
          ]
        ]
      ]

-- a part of the square of the whole plane is a square of the plane
pub whole-part : (P : Tree → Type 0) (f : ℤ → ℤ → ℕ) → ((x y : ℤ) → f x y < 256) → (t : Tree) → depth t ≡ MAX_LEVEL
    → (let corner = neg_ℤ (pos (half_side t)) in SomePart P (square_from f (depth t) corner corner)) → SomeSquare P (2 ^ MAX_LEVEL) (by_columns f)
whole-part P f below t whole h =
    let half : half_side t ≡ half_plane = ap (λ n. 2 ^ (n - 1)) whole in
    let corner : neg_ℤ (pos (half_side t)) ≡ at 0 = omega (arith, ints, half) in
    part-square P f below MAX_LEVEL 0 0 (omega arith) (omega arith)
    (subst (λ n. SomePart P (square_from f n (at 0) (at 0))) whole (moved P f below (depth t) _ _ _ _ corner corner h))

one-or-none : (b : Bool) → (if b then 1 else 0) < 256
one-or-none true = omega arith
one-or-none false = omega arith

pub plane-part : LifeAnswersAt → (P : Tree → Type 0) (rule : OuterTotalistic) (t : Tree) → depth t ≡ MAX_LEVEL → has_digit rule.sets.births 0 ≡ false
    → HasClearEdge t → SomePart P (next_plane rule t) → SomeOfNext P rule t
plane-part law P rule t whole quiet clear h =
    let next = next_life rule (tree_cell t) in
    let below : (x y : ℤ) → next x y < 256 = (λ x y. one-or-none _) in
    of_plane whole (of_next next (λ x y. (law rule (tree_cell t) x y _).1 refl)
    (λ x y outside. next-outside rule t quiet clear x y (λ i. outside (on-plane t x y (omega (arith, whole)) i)))
    (whole-part P next below t whole h))
