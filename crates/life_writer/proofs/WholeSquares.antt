-- The whole square of a pattern is the least square about the middle of the plane that holds all its cells.
use Rattle.std.proofs.Common.{◌≡◌, ℕ, suc, ◌+◌, ◌-◌, ◌<◌, ◌≤◌, ap, ◌∙◌, sym, arith, ◌⊎◌, inl, inr}
use Rattle.life_base.specs.Tree.{depth}
use Rattle.life_pattern.specs.Universe.{Universe, IsOnPlane, IsBlankOutside, least_level, centred_square, whole}
use Rattle.life_pattern.proofs.TreeWords.{trimmed_to}
use Rattle.life_pattern.proofs.Trees.{centred-depth, centred-trimmed, depth_is, trimmed-centred}
use Rattle.life_pattern.proofs.Whole.{IsWhole, whole-is, whole-trimmed, least-high}
use Rattle.life_pattern.proofs.Whole.{least-one}

-- the whole square has this level, and no square of a lower one holds all cells
pub record IsLeastSquare (u : Universe) : Type 0 where
  pub level : ℕ
  pub high : least_level u.rule ≤ suc level
  pub is : whole 62 u ≡ centred_square u.cell (suc level)
  pub outside : IsBlankOutside (suc level) u.cell
  pub least : (lower : ℕ) → least_level u.rule ≤ suc lower → IsBlankOutside (suc lower) u.cell → level ≤ lower

pub least_square : (u : Universe) → IsOnPlane 62 u → IsLeastSquare u
least_square u on = record { level = w.level; high = w.least; is = w.is; outside = w.outside; least = no_wider }
  where
    w : IsWhole 62 u (whole 62 u)
    w = whole-is 61 u (least-high u.rule 62 (omega arith)) on

    within : (a b : ℕ) → (b ≤ a) ⊎ (a < b)
    within a b = grind arith

    narrow : (lower : ℕ) → least_level u.rule ≤ suc lower → IsBlankOutside (suc lower) u.cell → suc lower ≤ 62 → w.level ≤ lower
    narrow j h outside low =
        let one = least-one u.rule in
        let t = trimmed-centred u.cell (least_level u.rule) j one h outside in
        let n : (61 - j) + j ≡ 61 = omega (arith, low) in
        let same : centred_square u.cell (suc w.level) ≡ centred_square u.cell (suc t.level) =
        sym w.is ∙ whole-trimmed 62 u ∙ sym (ap (λ k. trimmed_to (centred_square u.cell (suc k)) (least_level u.rule)) n)
        ∙ centred-trimmed u.cell (least_level u.rule) (61 - j) j one h outside ∙ t.is in
        let levels : suc w.level ≡ suc t.level =
        sym (depth_is (centred-depth u.cell (suc w.level))) ∙ ap depth same ∙ depth_is (centred-depth u.cell (suc t.level)) in
        let most = t.most in
        omega (arith, levels, most)

    no_wider : (lower : ℕ) → least_level u.rule ≤ suc lower → IsBlankOutside (suc lower) u.cell → w.level ≤ lower
    no_wider j h outside = elim (within 62 (suc j)) [ inl low ↦ narrow j h outside low | inr high ↦ let most = w.most in omega (arith, most, high) ]
