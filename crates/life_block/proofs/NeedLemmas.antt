-- The squares that a call stores, and those that a refused call lacked, are parts of the square with the states of the plane.
use Rattle.std.proofs.Common.{◌≡◌, ℕ, ◌+◌, ◌^◌, inl, inr, ℤ, List, sym, subst, add-one}
use Rattle.life_base.specs.Tree.{Tree}
use Rattle.life_base.specs.Sets.{OuterTotalistic}
use Rattle.life_quad.specs.Keeping.{KeepsSquares}
use Rattle.life_quad.specs.Refused.{SomePart}
use Rattle.life_quad.specs.declared.id.Id.{Id}
use Rattle.life_next.specs.Generation.{next_life}
use Rattle.life_pieces.specs.Pieces.{square_from, IsOfLevel, Nine, Sixteen, InSixteen, AreNine, AreSixteen, first_three, last_three, western, eastern}
use Rattle.life_block.specs.Needed.{SomeOfNine, SomeOfSixteen}
use Rattle.life_pieces.specs.declared.grid.Three.{Three}
use Rattle.life_pieces.specs.declared.grid.Four.{Four}
use Rattle.life_pieces.proofs.PieceLemmas.{AreSixteen-kept, first-of_four, last-of_four, western-nine, eastern-nine}
use Rattle.life_pieces.proofs.NeedLemmas.{quarter-part}

-- A part of the next states of one of the four squares in the middle is one of the next states of the four. The store may have grown between them.
pub of_north_west : (P : Tree → Type 0) (rule : OuterTotalistic) (content : Id → Tree) (k : ℕ) {s : Sixteen} {three : Three (Four Id)} {nine : Nine}
    → three ≡ first_three s → nine ≡ western three → SomeOfNine P rule content k nine → SomeOfSixteen P rule content k s
of_north_west P rule content k rows columns some cells x y binary h =
    quarter-part P _ k x y (inl (some cells _ _ binary (western-nine content cells columns (first-of_four rows h))))

module _ {S : Type 0} {knows : S → Id → Type 0} {content : S → Id → Tree} {stored : S → List Tree} {most : S → ℕ} {old now : S} (P : Tree → Type 0)
    (rule : OuterTotalistic) {k : ℕ} {s : Sixteen} {three : Three (Four Id)} {nine : Nine} (keeps : KeepsSquares knows content stored most old now)
    (known : InSixteen (IsOfLevel (knows old) (content old) k) s) where
  pub of_north_east : three ≡ first_three s → nine ≡ eastern three → SomeOfNine P rule (content now) k nine → SomeOfSixteen P rule (content old) k s
  of_north_east rows columns some cells x y binary h =
      quarter-part P _ k x y
      (inr (inl (some cells _ _ binary (eastern-nine (content now) cells columns (first-of_four rows (AreSixteen-kept keeps cells known h))))))

  pub of_south_west : three ≡ last_three s → nine ≡ western three → SomeOfNine P rule (content now) k nine → SomeOfSixteen P rule (content old) k s
  of_south_west rows columns some cells x y binary h =
      quarter-part P _ k x y
      (inr (inr (inl (some cells _ _ binary (western-nine (content now) cells columns (last-of_four rows (AreSixteen-kept keeps cells known h)))))))

  pub of_south_east : three ≡ last_three s → nine ≡ eastern three → SomeOfNine P rule (content now) k nine → SomeOfSixteen P rule (content old) k s
  of_south_east rows columns some cells x y binary h =
      quarter-part P _ k x y
      (inr (inr (inr (some cells _ _ binary (eastern-nine (content now) cells columns (last-of_four rows (AreSixteen-kept keeps cells known h)))))))

-- a part of the next states of four quarters is one of the square's
pub of_quarters : (P : Tree → Type 0) (rule : OuterTotalistic) (content : Id → Tree) (j : ℕ) {k : ℕ} {nine : Nine} {quarters : Sixteen} → j + 1 ≡ k
    → ((cells : ℤ → ℤ → ℕ) (x y : ℤ) → AreNine content cells (2 ^ (j + 1)) x y nine → AreSixteen content cells (2 ^ j) x y quarters)
    → SomeOfSixteen P rule content j quarters → SomeOfNine P rule content k nine
of_quarters P rule content j {nine = nine} level pieces some =
    subst (λ n. SomeOfNine P rule content n nine) level
    (λ cells x y binary h. subst (λ n. SomePart P (square_from (next_life rule cells) n x y)) (sym (add-one j)) (some cells x y binary (pieces cells x y h)))
