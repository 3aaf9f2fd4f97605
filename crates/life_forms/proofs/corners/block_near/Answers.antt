use Rattle.std.proofs.Common.{◌≡◌, ℤ, pos, ◌+ℤ◌, ◌∙◌, arith, to_z, of_z, w64, to_z-of_z}
use Rattle.std.proofs.lemmas.Int.{ints}
use Rattle.life_base.specs.Tree.{tree_cell}
use Rattle.life_quad.specs.Store.{eight}
use Rattle.life_pattern.specs.Store.{content}
use Rattle.life_pattern.specs.Universe.{square}
use Rattle.life_forms.specs.Corners.{IsNearPlane}
use Rattle.life_forms.proofs.SmallCorners.{block-is}
use Rattle.life_forms.proofs.corners.block_near.Goals as goal

-- what the code computes with
eight-on : (x : ℤ) → IsNearPlane x → to_z w64 (of_z w64 (to_z w64 (of_z w64 x) +ℤ pos 8)) ≡ x +ℤ pos 8
eight-on x near =
    let low = near.low in
    let high = near.high in
    omega (arith, ints, low, high)

pub returns : goal.returns
returns c =
    let cell = tree_cell (content c.args.store.now c.args.pattern.now.root) in
    let x = to_z-of_z c.ranges.x in
    let y = to_z-of_z c.ranges.y in
    let east = eight-on c.args.x c.requires.column in
    let south = eight-on c.args.y c.requires.row in
    record {
      at = block-is cell c.args.x c.args.y (eight c.in_ok-nw.nw) (eight c.in_ok-ne.ne) (eight c.in_ok-sw.sw) (eight c.in_ok-se.se)
          (c.in_ok-nw.ensures ∙ (λ i. square cell 3 (x i) (y i))) (c.in_ok-ne.ensures ∙ (λ i. square cell 3 (east i) (y i)))
          (c.in_ok-sw.ensures ∙ (λ i. square cell 3 (x i) (south i))) (c.in_ok-se.ensures ∙ (λ i. square cell 3 (east i) (south i)));
      live = c.has_cells.ensures c.if-not-has_cells.false;
    }
