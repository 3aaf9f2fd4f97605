-- Facts about the number of cells.
use Rattle.std.proofs.Common.{◌≡◌, ℕ, suc, ◌+◌, ◌*◌, ◌/◌, ◌%◌, ◌^◌, ◌<◌, ◌≤◌, true, ◌&&◌, refl, ◌∙◌, ap, subst, arith, ◌==◌}
use Rattle.std.specs.Int.Count.{ones}
use Rattle.std.proofs.lemmas.Bool.Decides.{nat_tests}
use Rattle.std.proofs.lemmas.Nat.{ones_cat}
use Rattle.std.proofs.Math.Nat.{pow-le-pow_right}
use Rattle.life_base.specs.declared.cell.TheConstants.{MAX_LEVEL}
use Rattle.life_base.specs.Tree.{Tree, point, quad, depth, is_blank_tree, IsFull}
use Rattle.life_quad.specs.Cells.{population}
use Rattle.life_quad.specs.Store.{two, four, eight}
use Rattle.life_base.proofs.RoundTrip.{all_below, all_below_at}
use Rattle.life_base.proofs.Basics.{right_of_and, left_of_and}

-- a blank square has no cell with a state
pub population-blank : (t : Tree) → is_blank_tree t ≡ true → population t ≡ 0
population-blank (point s) h = grind (arith, h)
population-blank (quad a b c d) h =
    let l = left_of_and (is_blank_tree a && is_blank_tree b && is_blank_tree c) (is_blank_tree d) h in
    let m = left_of_and (is_blank_tree a && is_blank_tree b) (is_blank_tree c) l in
    let pa = population-blank a (left_of_and (is_blank_tree a) (is_blank_tree b) m) in
    let pb = population-blank b (right_of_and (is_blank_tree a) (is_blank_tree b) m) in
    let pc = population-blank c (right_of_and (is_blank_tree a && is_blank_tree b) (is_blank_tree c) l) in
    let pd = population-blank d (right_of_and (is_blank_tree a && is_blank_tree b && is_blank_tree c) (is_blank_tree d) h) in
    omega (arith, pa, pb, pc, pd)

fourfold : (n : ℕ) → 4 ^ suc n ≡ 4 ^ n + 4 ^ n + 4 ^ n + 4 ^ n
fourfold n = grind arith

-- a full square has no more cells than its side allows
pub population-small : (t : Tree) → IsFull t → population t ≤ 4 ^ depth t
population-small (point s) f = grind arith
population-small (quad a b c d) f =
    let pa = population-small a f.0 in
    let pb : population b ≤ 4 ^ depth a = subst (λ n. population b ≤ 4 ^ n) f.4 (population-small b f.1) in
    let pc : population c ≤ 4 ^ depth a = subst (λ n. population c ≤ 4 ^ n) f.5 (population-small c f.2) in
    let pd : population d ≤ 4 ^ depth a = subst (λ n. population d ≤ 4 ^ n) f.6 (population-small d f.3) in
    let e = fourfold (depth a) in
    omega (arith, pa, pb, pc, pd, e)

-- the number of a quarter, of level 61 at most
quarter_small : (t : Tree) (whole n : ℕ) → IsFull t → depth t + 1 ≡ whole → whole ≤ MAX_LEVEL → n ≡ population t → n ≤ 4 ^ 61
quarter_small t whole n f e l h =
    let p = population-small t f in
    let low : depth t ≤ 61 = omega (arith, e, l) in
    let q : 4 ^ depth t ≤ 4 ^ 61 = pow-le-pow_right (omega arith) low in
    omega (arith, p, q, h)

-- the quarters of a square have few cells
pub quarters_small : (t a b c d : Tree) → IsFull t → depth t ≤ MAX_LEVEL → t ≡ quad a b c d
    → (population a ≤ 4 ^ 61) × (population b ≤ 4 ^ 61) × (population c ≤ 4 ^ 61) × (population d ≤ 4 ^ 61)
quarters_small t a b c d full low is =
    let f : IsFull (quad a b c d) = subst IsFull is full in
    let top = ap depth is in
    let one : depth a + 1 ≤ MAX_LEVEL = omega (arith, top, low) in (
      quarter_small a _ _ f.0 refl one refl,
      quarter_small b _ _ f.1 (ap (λ n. n + 1) f.4) one refl,
      quarter_small c _ _ f.2 (ap (λ n. n + 1) f.5) one refl,
      quarter_small d _ _ f.3 (ap (λ n. n + 1) f.6) one refl,
    )

-- the cells of a square of level 2 are the ones among its sixteen bits
two-ones : all_below 16 (λ d. population (two d) == ones d) ≡ true
unfolding ones
two-ones = refl

digit-ones : (d : ℕ) → d < 16 → population (two d) ≡ ones d
digit-ones d l = equal _ _ (all_below_at 16 (λ d. population (two d) == ones d) d two-ones l)
  where
    equal : (a b : ℕ) → (a == b) ≡ true → a ≡ b
    equal a b h = grind (arith, nat_tests)

pub four-ones : (n : ℕ) → n < 65536 → population (four n) ≡ ones n
four-ones n l =
    let a = n / 4096 in
    let b = n / 256 % 16 in
    let c = n / 16 % 16 in
    let d = n % 16 in
    let na : n ≡ a * 2 ^ 12 + n % 4096 = omega arith in
    let nb : n % 4096 ≡ b * 2 ^ 8 + n % 256 = omega arith in
    let nc : n % 256 ≡ c * 2 ^ 4 + d = omega arith in
    let oa : ones n ≡ ones a + ones (n % 4096) = ap ones na ∙ ones_cat 12 a (n % 4096) (omega arith) in
    let ob : ones (n % 4096) ≡ ones b + ones (n % 256) = ap ones nb ∙ ones_cat 8 b (n % 256) (omega arith) in
    let oc : ones (n % 256) ≡ ones c + ones d = ap ones nc ∙ ones_cat 4 c d (omega arith) in
    omega (arith, oa, ob, oc, digit-ones a (omega (arith, l)), digit-ones b (omega arith), digit-ones c (omega arith), digit-ones d (omega arith))

-- the same of level 3
pub eight-ones : (n : ℕ) → n < 2 ^ 64 → population (eight n) ≡ ones n
eight-ones n l =
    let a = n / 281474976710656 in
    let b = n / 4294967296 % 65536 in
    let c = n / 65536 % 65536 in
    let d = n % 65536 in
    let na : n ≡ a * 2 ^ 48 + n % 281474976710656 = omega arith in
    let nb : n % 281474976710656 ≡ b * 2 ^ 32 + n % 4294967296 = omega arith in
    let nc : n % 4294967296 ≡ c * 2 ^ 16 + d = omega arith in
    let oa : ones n ≡ ones a + ones (n % 281474976710656) = ap ones na ∙ ones_cat 48 a (n % 281474976710656) (omega arith) in
    let ob : ones (n % 281474976710656) ≡ ones b + ones (n % 4294967296) = ap ones nb ∙ ones_cat 32 b (n % 4294967296) (omega arith) in
    let oc : ones (n % 4294967296) ≡ ones c + ones d = ap ones nc ∙ ones_cat 16 c d (omega arith) in
    omega (arith, oa, ob, oc, four-ones a (omega (arith, l)), four-ones b (omega arith), four-ones c (omega arith), four-ones d (omega arith))
