use Rattle.std.proofs.Common.{◌≡◌, Option, Some, None, IfSome, ℤ, pos, ◌+ℤ◌, sym, ◌∙◌, subst, arith, lit≤, to_z, of_z, w64, SFits}
use Rattle.std.proofs.lemmas.Int.{ints}
use Rattle.life_base.specs.Tree.{tree_cell}
use Rattle.life_quad.proofs.LawLemmas.{known_squares_are_full}
use Rattle.life_pattern.specs.Store.{content}
use Rattle.life_pattern.specs.Universe.{square}
use Rattle.life_slide.proofs.MovedLemmas.{bottom-read, left-read, right-read, top-read}
use Rattle.life_forms.specs.Corners.{IsNearPlane, square_start}
use Rattle.life_forms.proofs.PatternFacts.{root-high}
use Rattle.life_forms.proofs.PlaneFacts.{columns-ordered, ordered-read, rows-ordered}
use Rattle.life_forms.proofs.SmallCorners.{start-near, start-near-eight}
use Rattle.life_forms.proofs.corners.block_in.Goals as goal
use Rattle.life_forms.proofs.corners.block_in.Goals.{After-square_start-y}

pub square_start-x-requires : goal.square_start-x-requires
square_start-x-requires c =
    let t = content c.args.store.now c.args.pattern.now.root in
    let low = (known_squares_are_full c.args.store.now c.args.pattern.now.root c.requires.trimmed.known.0).1 in
    ordered-read _ _ (columns-ordered t c.args.found.now low c.requires.bounds)

pub square_start-y-requires : goal.square_start-y-requires
square_start-y-requires c =
    let t = content c.args.store.now c.args.pattern.now.root in
    let low = (known_squares_are_full c.args.store.now c.args.pattern.now.root c.requires.trimmed.known.0).1 in
    ordered-read _ _ (rows-ordered t c.args.found.now low c.requires.bounds)

read-back : (r : ℤ) → SFits w64 r → to_z w64 (of_z w64 r) ≡ r
read-back r fits = omega (arith, ints)

-- what the code computes with is where the square begins
column-at : (c : After-square_start-y) → to_z w64 (of_z w64 c.square_start-x.result)
    ≡ square_start c.args.columns c.args.found.now.left c.args.found.now.right 0 15
column-at c =
    let t = content c.args.store.now c.args.pattern.now.root in
    let low = (known_squares_are_full c.args.store.now c.args.pattern.now.root c.requires.trimmed.known.0).1 in
    let high = root-high c.args.pattern.now.rule _ c.requires.trimmed.level in
    read-back c.square_start-x.result (record { sfits = c.square_start-x.type_inv }) ∙ c.square_start-x.ensures
    ∙ (λ i. square_start c.args.columns (left-read t c.args.found.now c.requires.bounds high low i) (right-read t c.args.found.now c.requires.bounds high low i)
    0 15)

row-at : (c : After-square_start-y) → to_z w64 (of_z w64 c.square_start-y.result)
    ≡ square_start c.args.rows c.args.found.now.top c.args.found.now.bottom 0 15
row-at c =
    let t = content c.args.store.now c.args.pattern.now.root in
    let low = (known_squares_are_full c.args.store.now c.args.pattern.now.root c.requires.trimmed.known.0).1 in
    let high = root-high c.args.pattern.now.rule _ c.requires.trimmed.level in
    read-back c.square_start-y.result (record { sfits = c.square_start-y.type_inv }) ∙ c.square_start-y.ensures
    ∙ (λ i. square_start c.args.rows (top-read t c.args.found.now c.requires.bounds high low i) (bottom-read t c.args.found.now c.requires.bounds high low i)
    0 15)

column-near : (c : After-square_start-y) → IsNearPlane (to_z w64 (of_z w64 c.square_start-x.result))
column-near c =
    let t = content c.args.store.now c.args.pattern.now.root in
    let low = (known_squares_are_full c.args.store.now c.args.pattern.now.root c.requires.trimmed.known.0).1 in
    subst IsNearPlane (sym (column-at c))
    (start-near c.args.columns _ _ 0 15 (columns-ordered t c.args.found.now low c.requires.bounds) (lit≤ tt) (lit≤ tt))

row-near : (c : After-square_start-y) → IsNearPlane (to_z w64 (of_z w64 c.square_start-y.result))
row-near c =
    let t = content c.args.store.now c.args.pattern.now.root in
    let low = (known_squares_are_full c.args.store.now c.args.pattern.now.root c.requires.trimmed.known.0).1 in
    subst IsNearPlane (sym (row-at c))
    (start-near c.args.rows _ _ 0 15 (rows-ordered t c.args.found.now low c.requires.bounds) (lit≤ tt) (lit≤ tt))

column-east : (c : After-square_start-y) → IsNearPlane (to_z w64 (of_z w64 c.square_start-x.result) +ℤ pos 8)
column-east c =
    let t = content c.args.store.now c.args.pattern.now.root in
    let low = (known_squares_are_full c.args.store.now c.args.pattern.now.root c.requires.trimmed.known.0).1 in
    subst (λ (x : ℤ). IsNearPlane (x +ℤ pos 8)) (sym (column-at c))
    (start-near-eight c.args.columns _ _ 0 15 (columns-ordered t c.args.found.now low c.requires.bounds) (lit≤ tt) (lit≤ tt))

row-south : (c : After-square_start-y) → IsNearPlane (to_z w64 (of_z w64 c.square_start-y.result) +ℤ pos 8)
row-south c =
    let t = content c.args.store.now c.args.pattern.now.root in
    let low = (known_squares_are_full c.args.store.now c.args.pattern.now.root c.requires.trimmed.known.0).1 in
    subst (λ (y : ℤ). IsNearPlane (y +ℤ pos 8)) (sym (row-at c))
    (start-near-eight c.args.rows _ _ 0 15 (rows-ordered t c.args.found.now low c.requires.bounds) (lit≤ tt) (lit≤ tt))

pub block_near-requires-clause-column : goal.block_near-requires-clause-column
block_near-requires-clause-column c = column-near (goal.at.block_near-requires-clause-column c).After-square_start-y

pub block_near-requires-clause-row : goal.block_near-requires-clause-row
block_near-requires-clause-row c = row-near (goal.at.block_near-requires-clause-row c).After-square_start-y

pub block_near-requires-clause-east : goal.block_near-requires-clause-east
block_near-requires-clause-east c = column-east (goal.at.block_near-requires-clause-east c).After-square_start-y

pub block_near-requires-clause-south : goal.block_near-requires-clause-south
block_near-requires-clause-south c = row-south (goal.at.block_near-requires-clause-south c).After-square_start-y

weaker : {A : Type 0} (o : Option A) (P Q : A → Type 0) → ((a : A) → P a → Q a) → IfSome o P → IfSome o Q
weaker (Some a) P Q f p = f a p
weaker None P Q f p = tt

pub returns : goal.returns
returns c =
    let d = (goal.at.returns c).After-square_start-y in
    let cell = tree_cell (content c.args.store.now c.args.pattern.now.root) in
    weaker c.block_near.result _ _
    (λ block is. record { at = is.at ∙ (λ i. square cell 4 (column-at d i) (row-at d i)); live = is.live }) c.block_near.ensures
