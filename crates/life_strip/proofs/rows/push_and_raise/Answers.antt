use Rattle.std.proofs.Common.{Result, ◌≡◌, ℕ, suc, ◌+◌, ◌*◌, ◌%◌, ◌^◌, ◌<◌, ◌≤◌, ◌++◌, ◌∷◌, [], List, arith, refl, sym, ◌∙◌, ap, subst}
use Rattle.std.proofs.Math.Pow.{pow_mono}
use Rattle.life_base.specs.declared.cell.TheConstants.{MAX_LEVEL}
use Rattle.life_base.specs.Tree.{Tree}
use Rattle.life_base.specs.declared.kind.Kind.{Kind}
use Rattle.life_quad.specs.Grows.{Grows}
use Rattle.life_quad.specs.declared.id.Id.{Id}
use Rattle.life_quad.proofs.GrowsLemmas.{grows-err, grows-ok, grows-then}
use Rattle.life_strip.specs.declared.spans.Strip.{Strip}
use Rattle.life_strip.specs.Picture.{picture, height, IsLowest}
use Rattle.life_strip.specs.Needed.{SomeSquare}
use Rattle.life_strip.proofs.NeededLemmas.{SomeSquare-same}
use Rattle.life_strip.proofs.PictureLemmas.{fits_below, stack-kept}
use Rattle.life_strip.proofs.BandPictures.{picture-over}
use Rattle.life_strip.proofs.MergeLemmas.{SomeSquare-lower}
use Rattle.life_strip.proofs.rows.push_and_raise.Given.{Over}
use Rattle.life_strip.proofs.rows.push_and_raise.Goals as goal
use Rattle.life_strip.proofs.rows.push_and_raise.Goals.{After-blank_level-top, After-push_strip}
use Rattle.life_base.proofs.Basics.{twice}

-- the shifted number is the power
power : (k : ℕ) → k ≤ MAX_LEVEL → 1 * 2 ^ k % 18446744073709551616 ≡ 2 ^ k
power k le = let most = pow_mono {i = k} {j = MAX_LEVEL} le in omega (arith, most)

-- the strip grows by a level at least
higher : (level top rows : ℕ) (xs slice : List Strip) → slice ≡ xs → level ≤ MAX_LEVEL → 2 ^ level ≤ rows → height xs + 2 ^ level + rows ≤ 2 ^ MAX_LEVEL
    → IsLowest (suc level) xs
    → ((l : ℕ) → IsLowest l slice → l ≤ MAX_LEVEL → 2 ^ l ≤ rows + 1 * 2 ^ level % 18446744073709551616 → l ≤ top) → level < top
higher level top rows xs slice same high fits space lowest largest =
    let low : level < MAX_LEVEL = fits_below (height xs) level (omega (arith, space, fits)) in
    let two = twice level in
    let side = power level high in
    let le = largest (suc level) (subst (IsLowest (suc level)) (sym same) lowest) (omega (arith, low)) (omega (arith, two, side, fits)) in
    omega (arith, le)

-- a square of the strip and the blank rows below it is one below the others
lowered : {P : Tree → Type 0} (C : Id → Tree) (xs slice : List Strip) (strip : Strip) (top rows : ℕ) → slice ≡ xs → IsLowest top slice
    → strip.level ≤ MAX_LEVEL
    → 2 ^ top ≤ rows + 1 * 2 ^ strip.level % 18446744073709551616 → SomeSquare P (2 ^ top) (picture C (strip ∷ []))
    → SomeSquare P (height xs + 2 ^ strip.level + rows) (picture C (xs ++ strip ∷ []))
lowered C xs slice strip top rows same low high fits s =
    let side = power strip.level high in
    SomeSquare-same (omega (arith, side, fits)) (λ i j. refl) (SomeSquare-lower C xs (strip ∷ []) top (subst (IsLowest top) same low) s)

pub push_strip-requires-clause-strips : goal.push_strip-requires-clause-strips
push_strip-requires-clause-strips g c = stack-kept c.in_ok-raised.ensures.grows.keeps c.args.strips.now.items c.requires.strips

pub returns-in_err-raised-clause-grows : goal.returns-in_err-raised-clause-grows
returns-in_err-raised-clause-grows g c =
    let top = c.blank_level-top in
    grows-err _ c.in_err-raised.ensures.grows c.from_residual.ensures.1 (λ P n.
    lowered (g.S.Squares.content c.args.squares.now) c.args.strips.now.items c.as_slice.result.now c.args.strip top.result c.args.rows c.as_slice.ensures.value
    top.ensures.lowest c.requires.high top.ensures.fits n)

-- the raised strip has the cells of the strip
over : (g : Over) (c : After-push_strip g) → let C = g.S.Squares.content in (i j : ℕ)
    → picture (C c.raise.new.squares) (c.args.strips.now.items ++ c.in_ok-raised.raised ∷ []) i j
    ≡ picture (C c.args.squares.now) (c.args.strips.now.items ++ c.args.strip ∷ []) i j
over g c =
    let K = g.S.Squares.knows in
    let C = g.S.Squares.content in
    let old = c.args.squares.now in
    let mid = c.raise.new.squares in
    let r = c.in_ok-raised.ensures in
    picture-over {knows = K old} {knows' = K mid} {old = C old} {new = C mid} r.grows.keeps.contents c.args.strips.now.items (c.in_ok-raised.raised ∷ [])
    (c.args.strip ∷ []) c.requires.strips.sound r.picture

-- what both calls need
both : (g : Over) (c : After-push_strip g) {A : Type 0} {r : Result A Kind} → let C = g.S.Squares.content in let xs = c.args.strips.now.items in
    Grows g.S.Squares c.raise.new.squares c.push_strip.new.squares r
    (λ P. SomeSquare P (height xs + 2 ^ c.in_ok-raised.raised.level) (picture (C c.raise.new.squares) (xs ++ c.in_ok-raised.raised ∷ [])))
    → Grows g.S.Squares c.args.squares.now c.push_strip.new.squares r
    (λ P. SomeSquare P (height xs + 2 ^ c.args.strip.level + c.args.rows) (picture (C c.args.squares.now) (xs ++ c.args.strip ∷ [])))
both g c call =
    let top = c.blank_level-top in
    let r = c.in_ok-raised.ensures in
    let side = power c.args.strip.level c.requires.high in
    let same : 2 ^ c.in_ok-raised.raised.level ≡ 2 ^ top.result = ap (λ n. 2 ^ n) r.level in
    grows-then _ r.grows call
    (λ P n. lowered (g.S.Squares.content c.args.squares.now) c.args.strips.now.items c.as_slice.result.now c.args.strip top.result c.args.rows
    c.as_slice.ensures.value top.ensures.lowest c.requires.high top.ensures.fits n)
    (λ P n. SomeSquare-same (omega (arith, same, side, top.ensures.fits)) (over g c) n)

pub returns-in_err-push_strip-clause-grows : goal.returns-in_err-push_strip-clause-grows
returns-in_err-push_strip-clause-grows g c =
    grows-err _ (both g (goal.at.returns-in_err-push_strip-clause-grows g c).After-push_strip c.in_err-push_strip.ensures.grows)
    c.from_residual-in_err-push_strip.ensures.1 (λ P n. n)

pub returns-clause-grows : goal.returns-clause-grows
returns-clause-grows g c =
    grows-ok _ (both g (goal.at.returns-clause-grows g c).After-push_strip c.in_ok-push_strip.ensures.grows) (λ P n. n)

pub returns-clause-picture : goal.returns-clause-picture
returns-clause-picture g c i j =
    c.in_ok-push_strip.ensures.picture i j ∙ over g (goal.at.returns-clause-picture g c).After-push_strip i j

-- ---- the rows that were added

-- the level is higher, and the sides are powers
added : (g : Over) (c : After-blank_level-top g) → let level = c.args.strip.level in let top = c.blank_level-top.result in
    (level < top) × (2 ^ level ≤ 2 ^ top) × (1 * 2 ^ level % 18446744073709551616 ≡ 2 ^ level) × (1 * 2 ^ top % 18446744073709551616 ≡ 2 ^ top)
added g c =
    let q = c.requires in
    let level = c.args.strip.level in
    let top = c.blank_level-top in
    let up = higher level top.result c.args.rows c.args.strips.now.items c.as_slice.result.now c.as_slice.ensures.value q.high q.fits q.space q.lowest
    top.ensures.largest in
    (up, pow_mono {i = level} {j = top.result} (omega (arith, up)), power level q.high, power top.result top.ensures.most)

pub overflow_sub-result : goal.overflow_sub-result
overflow_sub-result g c =
    let a = added g (goal.at.overflow_sub-result g c).After-blank_level-top in
    omega (arith, a.1, a.2, a.3)

pub returns-clause-count : goal.returns-clause-count
returns-clause-count g c =
    let a = added g (goal.at.returns-clause-count g c).After-blank_level-top in
    let fits = c.blank_level-top.ensures.fits in
    (c.blank_level-top.result, a.0, omega (arith, a.1, a.2, a.3), omega (arith, a.1, a.2, a.3, fits))

pub returns-clause-height : goal.returns-clause-height
returns-clause-height g c =
    let a = added g (goal.at.returns-clause-height g c).After-blank_level-top in
    let same : 2 ^ c.in_ok-raised.raised.level ≡ 2 ^ c.blank_level-top.result = ap (λ n. 2 ^ n) c.in_ok-raised.ensures.level in
    omega (arith, c.in_ok-push_strip.ensures.height, same, a.1, a.2, a.3)
