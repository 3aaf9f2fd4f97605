-- A square amid twelve blank ones.
use Rattle.std.proofs.Common.{◌≡◌, ℕ, ◌+◌, ◌^◌, ℤ, ◌≤ℤ◌, ◌<ℤ◌, sym, subst, arith}
use Rattle.std.proofs.lemmas.Int.{ints}
use Rattle.life_base.specs.Tree.{Tree, quad, depth, blank}
use Rattle.life_quad.specs.declared.id.Id.{Id}
use Rattle.life_pieces.specs.Pieces.{IsPiece, step_ahead, step_back}
use Rattle.life_pieces.proofs.PieceLemmas.{twice, IsPiece-moved, pieces-of, blank-of_zero}
use Rattle.life_leap.specs.Grid.{AreSixteenSquares}
use Rattle.life_leap.specs.Leaps.{IsBlankSquareBeyond}

module _ (content : Id → Tree) (cells : ℤ → ℤ
    → ℕ) (k : ℕ) (start : ℤ) (b : Id) (is : content b ≡ blank k) (beyond : IsBlankSquareBeyond cells start (2 ^ (k + 1))) where
  nothing-at : (x y : ℤ) → ((u v : ℤ) → x ≤ℤ u → u <ℤ step_ahead x (2 ^ k) → y ≤ℤ v → v <ℤ step_ahead y (2 ^ k) → cells u v ≡ 0)
      → IsPiece cells x y (content b)
  nothing-at x y zero = subst (IsPiece cells x y) (sym is) (blank-of_zero cells k x y (record { zero_at = λ u v a c d e. zero u v a c d e }))

  pub amid-blank : (nw ne sw se : Id) (t : Tree) → depth (content nw) ≡ k → t ≡ quad (content nw) (content ne) (content sw) (content se)
      → IsPiece cells start start t
      → AreSixteenSquares content cells (2 ^ k) (step_back start (2 ^ k)) (step_back start (2 ^ k)) (record {
        first = record { first = b; second = b; third = b; fourth = b };
        second = record { first = b; second = nw; third = ne; fourth = b };
        third = record { first = b; second = sw; third = se; fourth = b };
        fourth = record { first = b; second = b; third = b; fourth = b };
      })
  amid-blank nw ne sw se t level whole piece =
      let s = 2 ^ k in
      let w = twice k in
      let p = pieces-of cells start start k level whole piece in
      let z0 = step_back start s in
      let z1 = step_ahead z0 s in
      let z2 = step_ahead z1 s in
      let z3 = step_ahead z2 s in
      let one : start ≡ z1 = omega (arith, ints) in
      let two : step_ahead start s ≡ z2 = omega (arith, ints) in
      let north : (x : ℤ) → IsPiece cells x z0 (content b) = λ x. nothing-at x z0 (λ u v a c d e. beyond.north_of u v (omega (arith, ints, e))) in
      let south : (x : ℤ) → IsPiece cells x z3 (content b) = λ x. nothing-at x z3 (λ u v a c d e. beyond.south_of u v (omega (arith, ints, d, w))) in
      let west : (y : ℤ) → IsPiece cells z0 y (content b) = λ y. nothing-at z0 y (λ u v a c d e. beyond.west_of u v (omega (arith, ints, c))) in
      let east : (y : ℤ) → IsPiece cells z3 y (content b) = λ y. nothing-at z3 y (λ u v a c d e. beyond.east_of u v (omega (arith, ints, a, w))) in
      record {
        first = record { first = north z0; second = north z1; third = north z2; fourth = north z3 };
        second = record {
          first = west z1;
          second = IsPiece-moved cells start z1 start z1 (content nw) one one p.0;
          third = IsPiece-moved cells (step_ahead start s) z2 start z1 (content ne) two one p.1;
          fourth = east z1;
        };
        third = record {
          first = west z2;
          second = IsPiece-moved cells start z1 (step_ahead start s) z2 (content sw) one two p.2;
          third = IsPiece-moved cells (step_ahead start s) z2 (step_ahead start s) z2 (content se) two two p.3;
          fourth = east z2;
        };
        fourth = record { first = south z0; second = south z1; third = south z2; fourth = south z3 };
      }
