use Rattle.std.proofs.Common.{◌≡◌, pos, ◌+ℤ◌, ◌+◌, ◌-◌, ◌<◌, ◌%◌, ◌^◌, true, false, ◌∙◌, sym, ap, subst, refl, to_z-of_z}
use Rattle.life_base.specs.Tree.{depth, blank, tree_cell}
use Rattle.life_quad.specs.declared.id.Id.{Id}
use Rattle.life_pieces.specs.Pieces.{IsOfLevel, step_ahead}
use Rattle.life_slide.specs.Pieces.{InBlock, IsBlock}
use Rattle.life_slide.proofs.PlaneLemmas.{begin, block-corner, known-corner, place-is}
use Rattle.life_slide.proofs.plane.block_at.Given.{Over}
use Rattle.life_slide.proofs.plane.block_at.Goals as goal
use Rattle.life_slide.proofs.plane.block_at.Goals.{After-window-block}

pub window-block-requires-clause-known : goal.window-block-requires-clause-known
window-block-requires-clause-known g c =
    let s = c.args.squares.now in
    let P : Id → Type 0 = IsOfLevel (g.S.Squares.knows s) (g.S.Squares.content s) c.level-whole.result in
    subst (InBlock P) (sym c.in_corner-around.ensures)
    (known-corner c.args.id c.empty-blank.result c.placed-column.result.0 c.placed-row.result.0
    (record { known = c.requires.known; level = sym c.level-whole.ensures.level })
    (record { known = c.empty-blank.ensures.known; level = c.empty-blank.ensures.level }))

-- the four squares around, as pieces of the plane
around : (g : Over) (c : After-window-block g) → let s = c.args.squares.now in
    let t = g.S.Squares.content s c.args.id in
    IsBlock (g.S.Squares.content s) (tree_cell t) (2 ^ c.level-whole.result) (begin c.placed-column.result.0 t) (begin c.placed-row.result.0 t)
    c.in_corner-around.result
around g c =
    let s = c.args.squares.now in
    let t = g.S.Squares.content s c.args.id in
    let content = g.S.Squares.content s in
    let level = c.level-whole.ensures.level in
    let x = begin c.placed-column.result.0 t in
    let y = begin c.placed-row.result.0 t in
    let corner = block-corner content t c.args.id c.empty-blank.result (g.met.S.Squares.full _ _ c.requires.known) c.requires.high refl
    (c.empty-blank.ensures.square ∙ ap blank level) c.placed-column.result.0 c.placed-row.result.0 in
    subst (λ k. IsBlock content (tree_cell t) (2 ^ k) x y c.in_corner-around.result) (sym level)
    (subst (IsBlock content (tree_cell t) (2 ^ depth t) x y) (sym c.in_corner-around.ensures) corner)

column : (g : Over) (c : After-window-block g) → let t = g.S.Squares.content c.args.squares.now c.args.id in
    step_ahead (begin c.placed-column.result.0 t) (c.placed-column.result.1 % 2 ^ c.level-whole.result) ≡ c.args.x
column g c =
    let t = g.S.Squares.content c.args.squares.now c.args.id in
    let level = c.level-whole.ensures.level in
    let p = c.placed-column.ensures in
    let n = c.placed-column.result.1 in
    ap (λ k. step_ahead (begin c.placed-column.result.0 t) (n % 2 ^ k)) level
    ∙ place-is t c.placed-column.result.0 c.args.x n c.requires.high (subst (λ k. n < 2 ^ k) level p.within)
    (subst (λ k. c.placed-column.result.0 ≡ false → pos n ≡ (c.args.x +ℤ pos (2 ^ (k - 1)))) level
    (λ e. p.first e ∙ ap (λ z. z +ℤ pos (2 ^ (c.level-whole.result - 1))) (to_z-of_z c.ranges.x)))
    (subst (λ k. c.placed-column.result.0 ≡ true → pos n ≡ (c.args.x +ℤ pos (2 ^ (k - 1) + 2 ^ (k - 1) + 2 ^ (k - 1)))) level
    (λ e. p.second e ∙ ap (λ z. z +ℤ pos (2 ^ (c.level-whole.result - 1) + 2 ^ (c.level-whole.result - 1) + 2 ^ (c.level-whole.result - 1)))
    (to_z-of_z c.ranges.x)))

row : (g : Over) (c : After-window-block g) → let t = g.S.Squares.content c.args.squares.now c.args.id in
    step_ahead (begin c.placed-row.result.0 t) (c.placed-row.result.1 % 2 ^ c.level-whole.result) ≡ c.args.y
row g c =
    let t = g.S.Squares.content c.args.squares.now c.args.id in
    let level = c.level-whole.ensures.level in
    let p = c.placed-row.ensures in
    let n = c.placed-row.result.1 in
    ap (λ k. step_ahead (begin c.placed-row.result.0 t) (n % 2 ^ k)) level
    ∙ place-is t c.placed-row.result.0 c.args.y n c.requires.high (subst (λ k. n < 2 ^ k) level p.within)
    (subst (λ k. c.placed-row.result.0 ≡ false → pos n ≡ (c.args.y +ℤ pos (2 ^ (k - 1)))) level
    (λ e. p.first e ∙ ap (λ z. z +ℤ pos (2 ^ (c.level-whole.result - 1))) (to_z-of_z c.ranges.y)))
    (subst (λ k. c.placed-row.result.0 ≡ true → pos n ≡ (c.args.y +ℤ pos (2 ^ (k - 1) + 2 ^ (k - 1) + 2 ^ (k - 1)))) level
    (λ e. p.second e ∙ ap (λ z. z +ℤ pos (2 ^ (c.level-whole.result - 1) + 2 ^ (c.level-whole.result - 1) + 2 ^ (c.level-whole.result - 1)))
    (to_z-of_z c.ranges.y)))

pub returns-clause-begins : goal.returns-clause-begins
returns-clause-begins g c =
    let d = (goal.at.returns-clause-begins g c).After-window-block in
    let b = c.window-block.ensures.begins (tree_cell (g.S.Squares.content c.args.squares.now c.args.id)) _ _ (around g d) in
    record { west = b.west; north = b.north; are = b.are; column = b.column ∙ column g d; row = b.row ∙ row g d }
