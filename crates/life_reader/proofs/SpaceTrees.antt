-- The squares of a plane that has few different blocks of cells are few.
use Rattle.std.proofs.Common.{◌≡◌, ℕ, ◌+◌, ◌*◌, ◌^◌, ◌<◌, ◌≤◌, Bool, true, false, ◌&&◌, List, map, refl, ap, sym, ◌∙◌, subst, arith, ◌⊎◌, inl, inr, ℤ, pos, ◌==◌, ◌-ℤ◌, Contains}
use Rattle.std.proofs.lemmas.Bool.Decides.{nat_tests}
use Rattle.std.proofs.lemmas.Bool.{cases_lt}
use Rattle.std.proofs.lemmas.Nat.{pow_below}
use Rattle.std.proofs.Math.Nat.{add-sub_cancel}
use Rattle.life_base.specs.declared.cell.TheConstants.{MAX_LEVEL}
use Rattle.life_base.specs.Tree.{Tree, depth, state_at, is_blank_tree}
use Rattle.life_rle.specs.Blocks.{Block, AreAllBlocks}
use Rattle.life_rle.specs.Plane.{rle_plane_end}
use Rattle.life_strip.specs.Given.{by_columns}
use Rattle.life_strip.specs.Needed.{SomeSquare}
use Rattle.life_pattern.specs.Universe.{square}
use Rattle.life_pattern.proofs.Planes.{full-depth}
use Rattle.life_pattern.proofs.TreeWords.{HasDepth, point_depth, quad_depth}
use Rattle.life_pattern.proofs.Trees.{depth_is, square-depth, state_at-square, state_at-nw, state_at-ne, state_at-sw, state_at-se, trees_equal}
use Rattle.life_base.proofs.Basics.{double, contains-map, offset_plus}

-- ---- a square that isn't blank has a nonzero cell

pub record SomeCell (k : ℕ) (t : Tree) : Type 0 where
  pub column : ℕ
  pub row : ℕ
  pub east : column < 2 ^ k
  pub south : row < 2 ^ k
  pub some : state_at t column row ≡ 0 → ⊥

one_of_four : (a b c d : Bool) → (a && b && c && d) ≡ false → (a ≡ false) ⊎ (b ≡ false) ⊎ (c ≡ false) ⊎ (d ≡ false)
one_of_four false b c d h = inl refl
one_of_four true false c d h = inr (inl refl)
one_of_four true true false d h = inr (inr (inl refl))
one_of_four true true true false h = inr (inr (inr refl))
one_of_four true true true true h = cc

pub some_cell : {k : ℕ} {t : Tree} → HasDepth k t → is_blank_tree t ≡ false → SomeCell k t
some_cell (point_depth {state = s}) h =
    record {
      column = 0;
      row = 0;
      east = omega arith;
      south = omega arith;
      some = λ e. let f : (s == 0) ≡ true = grind (arith, nat_tests, e) in cc;
    }
some_cell (quad_depth {k = k} {nw = a} {ne = b} {sw = c} {se = d} p q r s) h =
    let is : depth a ≡ k = depth_is p in
    let two = double k in
    elim (one_of_four (is_blank_tree a) (is_blank_tree b) (is_blank_tree c) (is_blank_tree d) h) [
      | inl e ↦
          let z = some_cell p e in
          record {
            column = z.column;
            row = z.row;
            east = omega (arith, two, z.east);
            south = omega (arith, two, z.south);
            some = λ w. z.some (sym (state_at-nw a b c d k is z.column z.row z.east z.south) ∙ w);
          }
      | inr (inl e) ↦
          let z = some_cell q e in
          record {
            column = z.column + 2 ^ k;
            row = z.row;
            east = omega (arith, two, z.east);
            south = omega (arith, two, z.south);
            some = λ w. z.some (ap (λ i. state_at b i z.row) (sym (add-sub_cancel z.column (2 ^ k))) ∙ sym
                (state_at-ne a b c d k is (z.column + 2 ^ k) z.row (omega arith) z.south) ∙ w);
          }
      | inr (inr (inl e)) ↦
          let z = some_cell r e in
          record {
            column = z.column;
            row = z.row + 2 ^ k;
            east = omega (arith, two, z.east);
            south = omega (arith, two, z.south);
            some = λ w. z.some (ap (λ j. state_at c z.column j) (sym (add-sub_cancel z.row (2 ^ k))) ∙ sym
                (state_at-sw a b c d k is z.column (z.row + 2 ^ k) z.east (omega arith)) ∙ w);
          }
      | inr (inr (inr e)) ↦
          let z = some_cell s e in
          record {
            column = z.column + 2 ^ k;
            row = z.row + 2 ^ k;
            east = omega (arith, two, z.east);
            south = omega (arith, two, z.south);
            some = λ w. z.some ((λ x. state_at d (sym (add-sub_cancel z.column (2 ^ k)) x) (sym (add-sub_cancel z.row (2 ^ k)) x)) ∙ sym
                (state_at-se a b c d k is (z.column + 2 ^ k) (z.row + 2 ^ k) (omega arith) (omega arith)) ∙ w);
          }
    ]

-- ---- the square of a block

abbrev pub block_tree : (ℤ → ℤ → ℕ) → Block → Tree
block_tree f b = square f b.level (pos (b.column * 2 ^ b.level) -ℤ rle_plane_end MAX_LEVEL) (pos (b.row * 2 ^ b.level) -ℤ rle_plane_end MAX_LEVEL)

pub low_level : (level column : ℕ) → (column + 1) * 2 ^ level ≤ 2 ^ MAX_LEVEL → level ≤ MAX_LEVEL
low_level level column h = elim (cases_lt MAX_LEVEL level) [
  | inl lt ↦ let p = pow_below MAX_LEVEL level lt in absurd (omega (arith, p, h))
  | inr le ↦ le
]

-- each square of the plane that isn't blank is that of one of the blocks
pub square-of-block : (f : ℤ → ℤ → ℕ) (blocks : List Block) (t : Tree) (rows : ℕ) → AreAllBlocks MAX_LEVEL f blocks → is_blank_tree t ≡ false
    → SomeSquare (λ u. u ≡ t) rows (by_columns f) → Contains (map (block_tree f) blocks) t
square-of-block f blocks t rows all some s =
    let e = rle_plane_end MAX_LEVEL in
    let k = depth s.square in
    let m = 2 ^ k in
    let full = full-depth s.square s.full in
    let cell = some_cell full (ap is_blank_tree s.property ∙ some) in
    let here : Block = record { level = k; row = s.row; column = s.column } in
    let found = all here cell.column cell.row s.deep (low_level k s.column s.east) cell.east cell.south
    (λ z. cell.some (s.cells cell.column cell.row cell.east cell.south ∙ z)) in
    let there : Block = record { level = k; row = s.row; column = found.column } in
    let same : s.square ≡ block_tree f there =
    trees_equal full (square-depth f k (pos (found.column * m) -ℤ e) (pos (s.row * m) -ℤ e))
    (λ i j li lj. s.cells i j li lj ∙ found.same i j li lj
    ∙ sym (state_at-square f k (pos (found.column * m) -ℤ e) (pos (s.row * m) -ℤ e) i j li lj
    ∙ (λ x. f (offset_plus e (found.column * m) i x) (offset_plus e (s.row * m) j x)))) in
    subst (Contains (map (block_tree f) blocks)) (sym same ∙ s.property) (contains-map (block_tree f) blocks there found.one)
