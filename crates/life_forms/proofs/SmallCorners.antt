-- The cells in a corner of a small pattern's box, and the texts of the images that begin there.
use Rattle.std.proofs.Common.{◌≡◌, ℕ, ◌+◌, ◌<◌, ◌≤◌, ◌^◌, Bool, true, false, refl, sym, subst, ℤ, pos, neg_ℤ, ◌+ℤ◌, arith, lit≤, true≢false}
use Rattle.std.proofs.lemmas.Int.{ints}
use Rattle.life_base.specs.Tree.{Tree, quad, depth}
use Rattle.life_base.specs.declared.bounds.Bounds.{Bounds}
use Rattle.life_base.specs.declared.cell.TheConstants.{MAX_LEVEL}
use Rattle.life_base.specs.declared.rule.Rule.{Rule}
use Rattle.life_base.specs.declared.rule.Rule.TheVariants.{Life, Named}
use Rattle.life_mc.specs.Macrocell.{largest_state}
use Rattle.life_mc.specs.Squares.{HasStatesUpTo}
use Rattle.life_quad.specs.Cells.{IsBoundingBoxOfTree}
use Rattle.life_quad.specs.Store.{Nodes, eight}
use Rattle.life_quad.proofs.LawLemmas.{known_squares_are_full}
use Rattle.life_pattern.specs.Laws.{SquaresAreCentred}
use Rattle.life_pattern.specs.Store.{IsTrimmed, content, universe_in}
use Rattle.life_writer.specs.Texts.{IsOrdered}
use Rattle.life_pattern.specs.Universe.{Universe, IsBlankOutside, is_life, square}
use Rattle.life_pattern.specs.declared.pattern.Pattern.{Pattern}
use Rattle.life_slide.proofs.MovedLemmas.{cell-below}
use Rattle.life_forms.specs.Corners.{HasSidesUpTo, IsCorner, IsNearPlane, IsSquareAt, block_tree, square_start}
use Rattle.life_forms.specs.declared.corners.Block.{Block}
use Rattle.life_forms.specs.declared.corners.Corner.TheVariants.{Four, Eight, Sixteen}
use Rattle.life_forms.proofs.AreaFacts.{most_parts}
use Rattle.life_forms.proofs.CornerFacts.{IsFar, IsLittle, image-small, leaf-image, life-low, low_side, seated-image}
use Rattle.life_forms.proofs.ImageFacts.{begin}
use Rattle.life_forms.proofs.PatternFacts.{cell-up-to}
use Rattle.life_forms.proofs.PlaneFacts.{box-of-square, outside-blank}
use Rattle.life_forms.proofs.TurnFacts.{backwards-is}

-- ---- squares near the box

-- a square of level 4 of four leaves
pub block-is : (cell : ℤ → ℤ → ℕ) (x y : ℤ) (a b c d : Tree) → a ≡ square cell 3 x y → b ≡ square cell 3 (x +ℤ pos 8) y → c ≡ square cell 3 x (y +ℤ pos 8)
    → d ≡ square cell 3 (x +ℤ pos 8) (y +ℤ pos 8) → quad a b c d ≡ square cell 4 x y
unfolding square
block-is cell x y a b c d ea eb ec ed = λ i. quad (ea i) (eb i) (ec i) (ed i)

pub deep-root : (store : Nodes) (pattern : Pattern) → IsTrimmed store pattern → is_life pattern.rule ≡ true → 3 ≤ depth (content store pattern.root)
deep-root store pattern trimmed life =
    let low = life-low pattern.rule life in
    let level = trimmed.level in
    omega (arith, low, level)

-- ---- where the squares begin

begin-four : (c : Bool) (low high : ℤ) → begin c 3 (neg_ℤ (pos 4) +ℤ low_side c low high) ≡ square_start c low high 4 3
begin-four false low high = omega (arith, ints)
begin-four true low high = let b = backwards-is high in omega (arith, ints, b)

begin-eight : (c : Bool) (low high : ℤ) → begin c 3 (pos 0 +ℤ low_side c low high) ≡ square_start c low high 0 7
begin-eight false low high = omega (arith, ints)
begin-eight true low high = let b = backwards-is high in omega (arith, ints, b)

begin-sixteen : (c : Bool) (low high : ℤ) → begin c 4 (pos 0 +ℤ low_side c low high) ≡ square_start c low high 0 15
begin-sixteen false low high = omega (arith, ints)
begin-sixteen true low high = let b = backwards-is high in omega (arith, ints, b)

-- none of them is far out of the plane
pub start-near : (last : Bool) (low high : ℤ) (a b : ℕ) → IsOrdered low high → a < 256 → b < 256 → IsNearPlane (square_start last low high a b)
start-near false low high a b order la lb =
    let least = order.least in
    let up = order.order in
    let most = order.most in
    record { low = omega (arith, ints, least, la); high = omega (arith, ints, up, most, la) }
start-near true low high a b order la lb =
    let least = order.least in
    let up = order.order in
    let most = order.most in
    record { low = omega (arith, ints, least, up, lb); high = omega (arith, ints, most, lb) }

pub start-near-eight : (last : Bool) (low high : ℤ) (a b : ℕ) → IsOrdered low high → a < 256 → b < 256
    → IsNearPlane (square_start last low high a b +ℤ pos 8)
start-near-eight false low high a b order la lb =
    let least = order.least in
    let up = order.order in
    let most = order.most in
    record { low = omega (arith, ints, least, la); high = omega (arith, ints, up, most, la) }
start-near-eight true low high a b order la lb =
    let least = order.least in
    let up = order.order in
    let most = order.most in
    record { low = omega (arith, ints, least, up, lb); high = omega (arith, ints, most, lb) }

-- ---- the images

life-states : (rule : Rule) → is_life rule ≡ true → largest_state rule ≡ 1
life-states (Life sets) life = refl
life-states (Named name) life = absurd (true≢false (sym life))

module _ (centre : SquaresAreCentred) (store : Nodes) (pattern : Pattern) (trimmed : IsTrimmed store pattern) (life : is_life pattern.rule ≡ true)
    (box : Bounds) (least : IsBoundingBoxOfTree (content store pattern.root) box) (most : ℕ) (enough : 1463653 ≤ most) where
  abbrev u : Universe
  u = universe_in store pattern

  abbrev t : Tree
  t = content store pattern.root

  low : (x y : ℤ) → u.cell x y < 256
  low = cell-below t (known_squares_are_full store pattern.root trimmed.known.0).0

  binary : (x y : ℤ) → u.cell x y ≤ 1
  binary x y = cell-up-to 1 t (subst (λ (m : ℕ). HasStatesUpTo m t) (life-states pattern.rule life) trimmed.states) x y

  outside : IsBlankOutside MAX_LEVEL u.cell
  outside = outside-blank t (known_squares_are_full store pattern.root trimmed.known.0).1

  space : 65552 + most_parts 11 ≤ most
  space = let parts : most_parts 11 ≡ 1398101 = refl in omega (arith, parts, enough)

  little : (k : ℕ) → HasSidesUpTo (pos (2 ^ k)) box → IsLittle k box
  little k short = record { wide = short.wide; tall = short.tall }

  pub four-corner : HasSidesUpTo (pos 4) box → (c r : Bool) (leaf : ℕ)
      → IsSquareAt u 3 (square_start c box.left box.right 4 3) (square_start r box.top box.bottom 4 3) (eight leaf) → IsCorner most u c r (Four leaf)
  four-corner short c r leaf is = record {
    small = λ e. image-small centre u life (life-low u.rule life) low binary outside box (box-of-square t box least) 2 (lit≤ tt) (lit≤ tt) (little 2 short)
        e c r most space;
    life = life;
    live = is.live;
    text = λ e. leaf-image centre u life (life-low u.rule life) low binary outside box (box-of-square t box least) 2 (lit≤ tt) (lit≤ tt) (little 2 short)
        e c r refl _ _ (eight leaf) is.at (begin-four c box.left box.right) (begin-four r box.top box.bottom);
  }

  pub eight-corner : HasSidesUpTo (pos 8) box → IsFar 4 box → (c r : Bool) (leaf : ℕ)
      → IsSquareAt u 3 (square_start c box.left box.right 0 7) (square_start r box.top box.bottom 0 7) (eight leaf) → IsCorner most u c r (Eight leaf)
  eight-corner short far c r leaf is = record {
    small = λ e. image-small centre u life (life-low u.rule life) low binary outside box (box-of-square t box least) 3 (lit≤ tt) (lit≤ tt) (little 3 short)
        e c r most space;
    life = life;
    live = is.live;
    text = λ e. seated-image centre u life (life-low u.rule life) low binary outside box (box-of-square t box least) 3 (lit≤ tt) (lit≤ tt) (little 3 short)
        e c r 2 refl far _ _ (eight leaf) is.at (begin-eight c box.left box.right) (begin-eight r box.top box.bottom);
  }

  pub sixteen-corner : HasSidesUpTo (pos 16) box → IsFar 8 box → (c r : Bool) (block : Block)
      → IsSquareAt u 4 (square_start c box.left box.right 0 15) (square_start r box.top box.bottom 0 15) (block_tree block)
      → IsCorner most u c r (Sixteen block)
  sixteen-corner short far c r block is = record {
    small = λ e. image-small centre u life (life-low u.rule life) low binary outside box (box-of-square t box least) 4 (lit≤ tt) (lit≤ tt) (little 4 short)
        e c r most space;
    life = life;
    live = is.live;
    text = λ e. seated-image centre u life (life-low u.rule life) low binary outside box (box-of-square t box least) 4 (lit≤ tt) (lit≤ tt) (little 4 short)
        e c r 3 refl far _ _ (block_tree block) is.at (begin-sixteen c box.left box.right) (begin-sixteen r box.top box.bottom);
  }
