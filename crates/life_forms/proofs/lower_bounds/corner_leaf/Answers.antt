use Rattle.std.proofs.Common.{◌≡◌, ◌≤◌, ℤ, sym, ◌∙◌, subst, arith, to_z, of_z, w64, SFits}
use Rattle.std.proofs.lemmas.Int.{ints}
use Rattle.life_pieces.specs.Pieces.{square_from}
use Rattle.life_base.specs.Tree.{depth, tree_cell}
use Rattle.life_quad.proofs.LawLemmas.{known_squares_are_full}
use Rattle.life_quad.proofs.LeafCells.{eight_not_blank}
use Rattle.life_pattern.specs.Store.{content}
use Rattle.life_slide.specs.Pieces.{IsNearMiddle}
use Rattle.life_slide.proofs.MovedLemmas.{bottom-read, left-read, right-read, top-read}
use Rattle.life_forms.specs.Images.{leaf_start}
use Rattle.life_forms.proofs.CornerFacts.{column-start, life-low, row-start}
use Rattle.life_forms.proofs.MovedFacts.{square-same}
use Rattle.life_forms.proofs.PatternFacts.{root-high}
use Rattle.life_forms.proofs.PlaneFacts.{columns-ordered, ordered-read, rows-ordered}
use Rattle.life_forms.proofs.lower_bounds.corner_leaf.Goals as goal
use Rattle.life_forms.proofs.lower_bounds.corner_leaf.Goals.{After-leaf_start-y}

pub leaf_start-x-requires : goal.leaf_start-x-requires
leaf_start-x-requires c =
    let t = content c.args.store.now c.args.pattern.now.root in
    let low = (known_squares_are_full c.args.store.now c.args.pattern.now.root c.requires.trimmed.known.0).1 in
    ordered-read _ _ (columns-ordered t c.args.found.now low c.requires.bounds)

pub leaf_start-y-requires : goal.leaf_start-y-requires
leaf_start-y-requires c =
    let t = content c.args.store.now c.args.pattern.now.root in
    let low = (known_squares_are_full c.args.store.now c.args.pattern.now.root c.requires.trimmed.known.0).1 in
    ordered-read _ _ (rows-ordered t c.args.found.now low c.requires.bounds)

-- where the leaf begins, as the code computes it
column-is : (c : After-leaf_start-y) → leaf_start c.args.columns (to_z w64 (of_z w64 c.args.found.now.left)) (to_z w64 (of_z w64 c.args.found.now.right))
    ≡ leaf_start c.args.columns c.args.found.now.left c.args.found.now.right
column-is c =
    let t = content c.args.store.now c.args.pattern.now.root in
    let low = (known_squares_are_full c.args.store.now c.args.pattern.now.root c.requires.trimmed.known.0).1 in
    let high = root-high c.args.pattern.now.rule _ c.requires.trimmed.level in
    λ i. leaf_start c.args.columns (left-read t c.args.found.now c.requires.bounds high low i) (right-read t c.args.found.now c.requires.bounds high low i)

row-is : (c : After-leaf_start-y) → leaf_start c.args.rows (to_z w64 (of_z w64 c.args.found.now.top)) (to_z w64 (of_z w64 c.args.found.now.bottom))
    ≡ leaf_start c.args.rows c.args.found.now.top c.args.found.now.bottom
row-is c =
    let t = content c.args.store.now c.args.pattern.now.root in
    let low = (known_squares_are_full c.args.store.now c.args.pattern.now.root c.requires.trimmed.known.0).1 in
    let high = root-high c.args.pattern.now.rule _ c.requires.trimmed.level in
    λ i. leaf_start c.args.rows (top-read t c.args.found.now c.requires.bounds high low i) (bottom-read t c.args.found.now c.requires.bounds high low i)

read-back : (r : ℤ) → SFits w64 r → to_z w64 (of_z w64 r) ≡ r
read-back r fits = omega (arith, ints)

deep : (c : After-leaf_start-y) → 3 ≤ depth (content c.args.store.now c.args.pattern.now.root)
deep c =
    let low = life-low c.args.pattern.now.rule c.requires.life in
    let level = c.requires.trimmed.level in
    omega (arith, low, level)

pub leaf_at-requires-clause-high : goal.leaf_at-requires-clause-high
leaf_at-requires-clause-high c = deep (goal.at.leaf_at-requires-clause-high c).After-leaf_start-y

-- what the code computes with is where the leaf begins
column-at : (c : After-leaf_start-y) → to_z w64 (of_z w64 c.leaf_start-x.result) ≡ leaf_start c.args.columns c.args.found.now.left c.args.found.now.right
column-at c = read-back c.leaf_start-x.result (record { sfits = c.leaf_start-x.type_inv }) ∙ c.leaf_start-x.ensures ∙ column-is c

row-at : (c : After-leaf_start-y) → to_z w64 (of_z w64 c.leaf_start-y.result) ≡ leaf_start c.args.rows c.args.found.now.top c.args.found.now.bottom
row-at c = read-back c.leaf_start-y.result (record { sfits = c.leaf_start-y.type_inv }) ∙ c.leaf_start-y.ensures ∙ row-is c

pub leaf_at-requires-clause-column : goal.leaf_at-requires-clause-column
leaf_at-requires-clause-column c =
    let d = (goal.at.leaf_at-requires-clause-column c).After-leaf_start-y in
    let t = content c.args.store.now c.args.pattern.now.root in
    subst (IsNearMiddle (depth t)) (sym (column-at d)) (column-start t c.args.found.now c.requires.bounds (deep d) c.args.columns)

pub leaf_at-requires-clause-row : goal.leaf_at-requires-clause-row
leaf_at-requires-clause-row c =
    let d = (goal.at.leaf_at-requires-clause-row c).After-leaf_start-y in
    let t = content c.args.store.now c.args.pattern.now.root in
    subst (IsNearMiddle (depth t)) (sym (row-at d)) (row-start t c.args.found.now c.requires.bounds (deep d) c.args.rows)

pub returns : goal.returns
returns c =
    let d = (goal.at.returns c).After-leaf_start-y in
    let cell = tree_cell (content c.args.store.now c.args.pattern.now.root) in
    record {
      at = c.in_ok-leaf.ensures ∙ (λ i. square_from cell 3 (column-at d i) (row-at d i)) ∙ square-same cell 3 _ _;
      live = eight_not_blank c.in_ok-leaf.leaf (omega arith) (omega (arith, c.if-leaf-eq0.false));
    }
