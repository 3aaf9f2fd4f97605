use Rattle.std.proofs.Common.{◌≡◌, ℕ, ◌-◌, ◌^◌, ◌≤◌, ℤ, pos, neg_ℤ, ◌+ℤ◌, ◌-ℤ◌, ◌≤ℤ◌, sym, ◌∙◌, ap, subst, arith, to_z, of_z, w64, FitsSigned}
use Rattle.std.proofs.lemmas.Int.{ints}
use Rattle.std.proofs.lemmas.Result.{IfOk-weaker}
use Rattle.std.proofs.Math.Pow.{pow_mono}
use Rattle.life_base.specs.Tree.{depth, half_side, tree_cell}
use Rattle.life_quad.proofs.KeepingLemmas.{keeps-then}
use Rattle.life_pieces.proofs.PieceLemmas.{IsPiece-moved}
use Rattle.life_later.proofs.CourseLemmas.{box-on_plane}
use Rattle.life_slide.specs.Pieces.{IsNearMiddle}
use Rattle.life_phases.proofs.MiddleLemmas.{column-near, columns-way, middle-moved, middle-square, row-near, rows-way}
use Rattle.life_phases.proofs.middle.in_middle.Given.{Over}
use Rattle.life_phases.proofs.middle.in_middle.Goals as goal
use Rattle.life_phases.proofs.middle.in_middle.Goals.{After-half_side-corner}

-- where the square is cut out, as the code computes it
begins : (half : ℤ) (n : ℕ) (a : ℤ) → half ≡ pos n → n ≤ 2 ^ 61 → neg_ℤ (pos (2 ^ 61)) ≤ℤ a → a ≤ℤ pos (2 ^ 61)
    → to_z w64 (of_z w64 (to_z w64 (of_z w64 (pos 0 -ℤ to_z w64 (of_z w64 half))) -ℤ to_z w64 (of_z w64 a))) ≡ neg_ℤ (pos n) +ℤ neg_ℤ a
begins half n a e low l r = omega (arith, ints, e, low, l, r)

fits : (half : ℤ) (n : ℕ) (a : ℤ) → half ≡ pos n → n ≤ 2 ^ 61 → neg_ℤ (pos (2 ^ 61)) ≤ℤ a → a ≤ℤ pos (2 ^ 61)
    → FitsSigned w64 (to_z w64 (of_z w64 (pos 0 -ℤ to_z w64 (of_z w64 half))) -ℤ to_z w64 (of_z w64 a))
fits half n a e low l r = omega (arith, ints, e, low, l, r)

half-of : (half : ℤ) (k d : ℕ) → half ≡ pos (2 ^ (k - 1)) → k ≡ d → half ≡ pos (2 ^ (d - 1))
half-of half k d is same = is ∙ ap (λ n. pos (2 ^ (n - 1))) same

same-level : (n k d : ℕ) → n ≡ k → k ≡ d → n ≡ d
same-level n k d e f = e ∙ f

-- what is known of the numbers
record AreSmall (half : ℤ) (n : ℕ) (a b : ℤ) : Type 0 where
  pub is : half ≡ pos n
  pub low : n ≤ 2 ^ 61
  pub columns : (neg_ℤ (pos (2 ^ 61)) ≤ℤ a) × (a ≤ℤ pos (2 ^ 61))
  pub rows : (neg_ℤ (pos (2 ^ 61)) ≤ℤ b) × (b ≤ℤ pos (2 ^ 61))

small : (g : Over) (c : After-half_side-corner g)
    → AreSmall c.half_side-corner.result (half_side (g.S.Squares.content c.args.from.now c.args.id)) c.args.way.columns c.args.way.rows
small g c =
    let t = g.S.Squares.content c.args.from.now c.args.id in
    let high = g.met.S.Squares.low _ _ c.requires.known in
    let low = c.requires.low in
    let plane = box-on_plane t c.args.found.now (omega (arith, low)) high c.requires.bounds in
    record {
      is = half-of _ _ (depth t) c.half_side-corner.ensures c.level-level.ensures.level;
      low = pow_mono {i = depth t - 1} {j = 61} (omega (arith, high));
      columns = columns-way t c.args.found.now c.args.way c.requires.bounds plane c.requires.way;
      rows = rows-way t c.args.found.now c.args.way c.requires.bounds plane c.requires.way;
    }

pub overflow_sub-x : goal.overflow_sub-x
overflow_sub-x g c =
    let s = small g (goal.at.overflow_sub-x g c).After-half_side-corner in
    fits _ _ _ s.is s.low s.columns.0 s.columns.1

pub overflow_sub-y : goal.overflow_sub-y
overflow_sub-y g c =
    let s = small g (goal.at.overflow_sub-y g c).After-half_side-corner in
    fits _ _ _ s.is s.low s.rows.0 s.rows.1

pub square_at-requires-clause-column : goal.square_at-requires-clause-column
square_at-requires-clause-column g c =
    let t = g.S.Squares.content c.args.from.now c.args.id in
    let s = small g (goal.at.square_at-requires-clause-column g c).After-half_side-corner in
    subst (IsNearMiddle (depth t)) (sym (begins _ _ _ s.is s.low s.columns.0 s.columns.1))
    (column-near t c.args.found.now c.requires.bounds c.args.way c.requires.way)

pub square_at-requires-clause-row : goal.square_at-requires-clause-row
square_at-requires-clause-row g c =
    let t = g.S.Squares.content c.args.from.now c.args.id in
    let s = small g (goal.at.square_at-requires-clause-row g c).After-half_side-corner in
    subst (IsNearMiddle (depth t)) (sym (begins _ _ _ s.is s.low s.rows.0 s.rows.1))
    (row-near t c.args.found.now c.requires.bounds c.args.way c.requires.way)

pub returns-clause-middle : goal.returns-clause-middle
returns-clause-middle g c =
    let t = g.S.Squares.content c.args.from.now c.args.id in
    let s = small g (goal.at.returns-clause-middle g c).After-half_side-corner in
    let r = c.in_ok-square.ensures in
    let piece = IsPiece-moved (tree_cell t) _ _ _ _ _ (begins _ _ _ s.is s.low s.columns.0 s.columns.1) (begins _ _ _ s.is s.low s.rows.0 s.rows.1) r.square in
    IfOk-weaker c.trim.result _ _
    (λ id e. middle-square t c.args.found.now c.requires.bounds c.args.way c.requires.way _ (g.met.T.Squares.full _ _ r.at.known)
    (same-level _ _ (depth t) r.at.level c.level-level.ensures.level) c.requires.low piece _ e) c.trim.ensures.square

pub returns-clause-moved : goal.returns-clause-moved
returns-clause-moved g c =
    let t = g.S.Squares.content c.args.from.now c.args.id in
    let s = small g (goal.at.returns-clause-moved g c).After-half_side-corner in
    let r = c.in_ok-square.ensures in
    let piece = IsPiece-moved (tree_cell t) _ _ _ _ _ (begins _ _ _ s.is s.low s.columns.0 s.columns.1) (begins _ _ _ s.is s.low s.rows.0 s.rows.1) r.square in
    IfOk-weaker c.trim.result _ _
    (λ id e. middle-moved t c.args.found.now c.requires.bounds c.args.way c.requires.way _ (g.met.T.Squares.full _ _ r.at.known)
    (same-level _ _ (depth t) r.at.level c.level-level.ensures.level) c.requires.low piece _ e) c.trim.ensures.square

pub returns-clause-keeps : goal.returns-clause-keeps
returns-clause-keeps g c = keeps-then c.in_ok-square.ensures.keeps c.trim.ensures.keeps
