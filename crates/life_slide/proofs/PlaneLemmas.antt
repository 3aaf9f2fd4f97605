-- A square about the middle of its plane, and blank ones around it.
use Rattle.std.proofs.Common.{◌≡◌, ℕ, ◌+◌, ◌-◌, ◌%◌, ◌^◌, ◌<◌, ◌≤◌, Bool, true, false, ℤ, pos, ◌+ℤ◌, refl, sym, subst, arith, if◌then◌else◌}
use Rattle.std.proofs.lemmas.Int.{ints}
use Rattle.std.proofs.Math.Nat.{mod-eq_of_lt}
use Rattle.life_base.specs.Tree.{Tree, depth, blank, half_side, tree_cell, IsFull}
use Rattle.life_quad.specs.declared.id.Id.{Id}
use Rattle.life_pieces.specs.Pieces.{IsPiece, step_ahead, step_back}
use Rattle.life_pieces.proofs.PieceLemmas.{IsPiece-moved, blank-of_zero}
use Rattle.life_pieces.proofs.RootLemmas.{corner, piece-of_root, cell-outside}
use Rattle.life_slide.specs.Pieces.{InBlock, IsBlock, in_corner}
use Rattle.life_base.proofs.Basics.{halves}

-- where four squares begin, of which one is about the middle
abbrev pub begin : Bool → Tree → ℤ
begin later t = if later then step_back (corner t) (2 ^ depth t) else corner t

pub known-corner : {P : Id → Type 0} (id other : Id) (east south : Bool) → P id → P other → InBlock P (in_corner east south id other)
known-corner id other true true p q = record { nw = q; ne = q; sw = q; se = p }
known-corner id other true false p q = record { nw = q; ne = p; sw = q; se = q }
known-corner id other false true p q = record { nw = q; ne = q; sw = p; se = q }
known-corner id other false false p q = record { nw = p; ne = q; sw = q; se = q }

module _ (content : Id → Tree) (t : Tree) (id other : Id) (full : IsFull t) (high : 1 ≤ depth t) (is : content id ≡ t)
    (none : content other ≡ blank (depth t)) where
  abbrev c : ℤ
  c = corner t

  abbrev s : ℕ
  s = 2 ^ depth t

  twice : half_side t + half_side t ≡ s
  twice = halves (depth t) high

  root : IsPiece (tree_cell t) c c (content id)
  root = subst (IsPiece (tree_cell t) c c) (sym is) (piece-of_root t full high)

  -- beside the square, and above or below it
  adjacent : (u v : ℤ) → (step_ahead u s ≡ c) → IsPiece (tree_cell t) u v (content other)
  adjacent u v e =
      subst (IsPiece (tree_cell t) u v) (sym none) (blank-of_zero (tree_cell t) (depth t) u v (record {
        zero_at = λ x y w e2 n s2. cell-outside t x y (λ i. absurd (let west = i.west in omega (arith, ints, e, e2, west)));
      }))

  behind : (u v : ℤ) → (u ≡ step_ahead c s) → IsPiece (tree_cell t) u v (content other)
  behind u v e =
      subst (IsPiece (tree_cell t) u v) (sym none) (blank-of_zero (tree_cell t) (depth t) u v (record {
        zero_at = λ x y w e2 n s2. cell-outside t x y (λ i. absurd (let east = i.east in let d = twice in omega (arith, ints, e, w, d, east)));
      }))

  above : (u v : ℤ) → (step_ahead v s ≡ c) → IsPiece (tree_cell t) u v (content other)
  above u v e =
      subst (IsPiece (tree_cell t) u v) (sym none) (blank-of_zero (tree_cell t) (depth t) u v (record {
        zero_at = λ x y w e2 n s2. cell-outside t x y (λ i. absurd (let north = i.north in omega (arith, ints, e, s2, north)));
      }))

  below : (u v : ℤ) → (v ≡ step_ahead c s) → IsPiece (tree_cell t) u v (content other)
  below u v e =
      subst (IsPiece (tree_cell t) u v) (sym none) (blank-of_zero (tree_cell t) (depth t) u v (record {
        zero_at = λ x y w e2 n s2. cell-outside t x y (λ i. absurd (let south = i.south in let d = twice in omega (arith, ints, e, n, d, south)));
      }))

  around : step_ahead (step_back c s) s ≡ c
  around = omega (arith, ints)

  pub block-corner : (east south : Bool) → IsBlock content (tree_cell t) s (begin east t) (begin south t) (in_corner east south id other)
  block-corner false false = record { nw = root; ne = behind _ c refl; sw = below c _ refl; se = behind _ _ refl }
  block-corner true false = record {
    nw = adjacent _ c around;
    ne = IsPiece-moved (tree_cell t) c _ c c (content id) (sym around) refl root;
    sw = adjacent _ _ around;
    se = below _ _ refl;
  }
  block-corner false true = record {
    nw = above c _ around;
    ne = above _ _ around;
    sw = IsPiece-moved (tree_cell t) c c c _ (content id) refl (sym around) root;
    se = behind _ _ refl;
  }
  block-corner true true = record {
    nw = adjacent _ _ around;
    ne = above _ _ around;
    sw = adjacent _ _ around;
    se = IsPiece-moved (tree_cell t) c _ c _ (content id) (sym around) (sym around) root;
  }

-- the place of a coordinate among them
pub place-is : (t : Tree) (later : Bool) (place : ℤ) (n : ℕ) → 1 ≤ depth t → n < 2 ^ depth t
    → (later ≡ false → pos n ≡ (place +ℤ pos (2 ^ (depth t - 1))))
    → (later ≡ true → pos n ≡ (place +ℤ pos (2 ^ (depth t - 1) + 2 ^ (depth t - 1) + 2 ^ (depth t - 1))))
    → step_ahead (begin later t) (n % 2 ^ depth t) ≡ place
place-is t true place n high less first second =
    let e = second refl in
    let d = halves (depth t) high in
    let m : n % 2 ^ depth t ≡ n = mod-eq_of_lt less in
    omega (arith, ints, e, d, m)
place-is t false place n high less first second =
    let e = first refl in
    let m : n % 2 ^ depth t ≡ n = mod-eq_of_lt less in
    omega (arith, ints, e, m)
