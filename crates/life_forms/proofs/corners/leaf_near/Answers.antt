use Rattle.std.proofs.Common.{◌≡◌, ◌⊎◌, inl, inr, true, false, Option, Some, None, IfSome, ℤ, pos, ◌+ℤ◌, ◌≤ℤ◌, ◌<ℤ◌, sym, ◌∙◌, subst, arith, to_z-of_z}
use Rattle.std.proofs.lemmas.Int.{ints}
use Rattle.life_base.specs.Tree.{depth, tree_cell}
use Rattle.life_pieces.specs.Pieces.{square_from}
use Rattle.life_quad.proofs.LawLemmas.{known_squares_are_full}
use Rattle.life_pattern.specs.Store.{content}
use Rattle.life_slide.specs.Pieces.{IsNearMiddle}
use Rattle.life_slide.proofs.MovedLemmas.{bottom-read, left-read, right-read, top-read}
use Rattle.life_forms.proofs.CornerFacts.{adjacent-columns, adjacent-rows, near-column, near-row}
use Rattle.life_forms.proofs.MovedFacts.{square-same}
use Rattle.life_forms.proofs.PatternFacts.{root-high}
use Rattle.life_forms.proofs.SmallCorners.{deep-root}
use Rattle.life_forms.proofs.corners.leaf_near.Goals as goal
use Rattle.life_forms.proofs.corners.leaf_near.Goals.{After-meets, After-meets-2}

apart-read : (low high place l h p : ℤ) → l ≡ low → h ≡ high → p ≡ place → (h <ℤ p) ⊎ ((p +ℤ pos 7) <ℤ l) → (high <ℤ place) ⊎ ((place +ℤ pos 7) <ℤ low)
apart-read low high place l h p el eh ep (inl a) = inl (omega (arith, ints, el, eh, ep, a))
apart-read low high place l h p el eh ep (inr a) = inr (omega (arith, ints, el, eh, ep, a))

within-read : (low high place l h p : ℤ) → l ≡ low → h ≡ high → p ≡ place → (p ≤ℤ h) × (l ≤ℤ (p +ℤ pos 7)) → (place ≤ℤ high) × (low ≤ℤ (place +ℤ pos 7))
within-read low high place l h p el eh ep a =
    let first = a.0 in
    let second = a.1 in
    (omega (arith, ints, el, eh, ep, first), omega (arith, ints, el, eh, ep, second))

weaker : {A : Type 0} (o : Option A) (P Q : A → Type 0) → ((a : A) → P a → Q a) → IfSome o P → IfSome o Q
weaker (Some a) P Q f p = f a p
weaker None P Q f p = tt

-- what the code computes with, and the box
columns-apart : (c : After-meets) → c.meets.result ≡ false → (c.args.found.now.right <ℤ c.args.x) ⊎ ((c.args.x +ℤ pos 7) <ℤ c.args.found.now.left)
columns-apart c out =
    let t = content c.args.store.now c.args.pattern.now.root in
    let low = (known_squares_are_full c.args.store.now c.args.pattern.now.root c.requires.trimmed.known.0).1 in
    let high = root-high c.args.pattern.now.rule _ c.requires.trimmed.level in
    apart-read _ _ _ _ _ _ (left-read t c.args.found.now c.requires.bounds high low) (right-read t c.args.found.now c.requires.bounds high low)
    (to_z-of_z c.ranges.x) (c.meets.ensures.apart out)

columns-within : (c : After-meets) → c.meets.result ≡ true → (c.args.x ≤ℤ c.args.found.now.right) × (c.args.found.now.left ≤ℤ (c.args.x +ℤ pos 7))
columns-within c is =
    let t = content c.args.store.now c.args.pattern.now.root in
    let low = (known_squares_are_full c.args.store.now c.args.pattern.now.root c.requires.trimmed.known.0).1 in
    let high = root-high c.args.pattern.now.rule _ c.requires.trimmed.level in
    within-read _ _ _ _ _ _ (left-read t c.args.found.now c.requires.bounds high low) (right-read t c.args.found.now c.requires.bounds high low)
    (to_z-of_z c.ranges.x) (c.meets.ensures.within is)

rows-apart : (c : After-meets-2) → c.meets-2.result ≡ false → (c.args.found.now.bottom <ℤ c.args.y) ⊎ ((c.args.y +ℤ pos 7) <ℤ c.args.found.now.top)
rows-apart c out =
    let t = content c.args.store.now c.args.pattern.now.root in
    let low = (known_squares_are_full c.args.store.now c.args.pattern.now.root c.requires.trimmed.known.0).1 in
    let high = root-high c.args.pattern.now.rule _ c.requires.trimmed.level in
    apart-read _ _ _ _ _ _ (top-read t c.args.found.now c.requires.bounds high low) (bottom-read t c.args.found.now c.requires.bounds high low)
    (to_z-of_z c.ranges.y) (c.meets-2.ensures.apart out)

rows-within : (c : After-meets-2) → c.meets-2.result ≡ true → (c.args.y ≤ℤ c.args.found.now.bottom) × (c.args.found.now.top ≤ℤ (c.args.y +ℤ pos 7))
rows-within c is =
    let t = content c.args.store.now c.args.pattern.now.root in
    let low = (known_squares_are_full c.args.store.now c.args.pattern.now.root c.requires.trimmed.known.0).1 in
    let high = root-high c.args.pattern.now.rule _ c.requires.trimmed.level in
    within-read _ _ _ _ _ _ (top-read t c.args.found.now c.requires.bounds high low) (bottom-read t c.args.found.now c.requires.bounds high low)
    (to_z-of_z c.ranges.y) (c.meets-2.ensures.within is)

pub returns-then-not-meets : goal.returns-then-not-meets
returns-then-not-meets c =
    let d = (goal.at.returns-then-not-meets c).After-meets in
    let t = content c.args.store.now c.args.pattern.now.root in
    let deep = deep-root c.args.store.now c.args.pattern.now c.requires.trimmed c.requires.life in
    adjacent-columns t c.args.found.now c.requires.bounds deep c.args.x c.args.y (columns-apart d c.if-not-meets.true)

pub returns-then-not-meets-2 : goal.returns-then-not-meets-2
returns-then-not-meets-2 c =
    let d = (goal.at.returns-then-not-meets-2 c).After-meets-2 in
    let t = content c.args.store.now c.args.pattern.now.root in
    let deep = deep-root c.args.store.now c.args.pattern.now c.requires.trimmed c.requires.life in
    adjacent-rows t c.args.found.now c.requires.bounds deep c.args.x c.args.y (rows-apart d c.if-not-meets-2.true)

pub leaf_at-requires-clause-high : goal.leaf_at-requires-clause-high
leaf_at-requires-clause-high c = deep-root c.args.store.now c.args.pattern.now c.requires.trimmed c.requires.life

pub leaf_at-requires-clause-column : goal.leaf_at-requires-clause-column
leaf_at-requires-clause-column c =
    let d = (goal.at.leaf_at-requires-clause-column c).After-meets in
    let t = content c.args.store.now c.args.pattern.now.root in
    let deep = deep-root c.args.store.now c.args.pattern.now c.requires.trimmed c.requires.life in
    let is = columns-within d c.if-not-meets.false in
    subst (IsNearMiddle (depth t)) (sym (to_z-of_z c.ranges.x)) (near-column t c.args.found.now c.requires.bounds deep c.args.x is.0 is.1)

pub leaf_at-requires-clause-row : goal.leaf_at-requires-clause-row
leaf_at-requires-clause-row c =
    let d = (goal.at.leaf_at-requires-clause-row c).After-meets-2 in
    let t = content c.args.store.now c.args.pattern.now.root in
    let deep = deep-root c.args.store.now c.args.pattern.now c.requires.trimmed c.requires.life in
    let is = rows-within d c.if-not-meets-2.false in
    subst (IsNearMiddle (depth t)) (sym (to_z-of_z c.ranges.y)) (near-row t c.args.found.now c.requires.bounds deep c.args.y is.0 is.1)

pub returns : goal.returns
returns c =
    let cell = tree_cell (content c.args.store.now c.args.pattern.now.root) in
    weaker c.leaf_at.result _ _
    (λ leaf is. is ∙ (λ i. square_from cell 3 (to_z-of_z c.ranges.x i) (to_z-of_z c.ranges.y i)) ∙ square-same cell 3 _ _) c.leaf_at.ensures
