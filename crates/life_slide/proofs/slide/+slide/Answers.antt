use Rattle.std.proofs.Common.{◌≡◌, ℤ, ℕ, ◌+◌, ◌-◌, ◌%◌, ◌^◌, refl, sym, ◌∙◌, ap, subst, arith}
use Rattle.std.proofs.lemmas.Result.{IfOk-weaker, on_err_weaker}
use Rattle.life_base.specs.Tree.{Tree, point, depth}
use Rattle.life_base.proofs.Results.{on_err_any, on_err_both, if_ok_two}
use Rattle.life_quad.specs.Refused.{SomePart}
use Rattle.life_quad.specs.Store.{eight, four}
use Rattle.life_quad.proofs.KeepingLemmas.{keeps-then, adds-as}
use Rattle.life_pieces.proofs.NeedLemmas.{adds-more}
use Rattle.life_pieces.specs.Pieces.{square_from}
use Rattle.life_pieces.specs.Pieces.{IsOfLevel, IsPiece, step_ahead}
use Rattle.life_pieces.proofs.NeedLemmas.{AreParts, is-piece, joined-is, parts-of_pieces, piece-is, own-part, still-needs}
use Rattle.life_pieces.proofs.PieceLemmas.{IsPiece-moved}
use Rattle.life_pieces.proofs.SquareLemmas.{square-is}
use Rattle.life_slide.specs.Needed.{SomeOfBlock, SomeOfNineSquares}
use Rattle.life_slide.specs.Pieces.{AreNinePieces, IsBlock}
use Rattle.life_slide.proofs.NeedLemmas.{nine-of, of_north_east, of_north_west, of_quarters, of_south_east, of_south_west, swapped}
use Rattle.life_slide.proofs.SlideLemmas.{ahead-none, begins, block-eastern, block-western, recalled-at, recalled-slid, rest-less, Remembers-kept, Remembers-more, slid-blank}
use Rattle.life_slide.proofs.slide.+slide.Given.{Over}
use Rattle.life_slide.proofs.slide.+slide.Goals as goal
use Rattle.life_slide.proofs.slide.+slide.Goals.{slid_of_seen-After-leaf, slid_of_seen-After-small, slid_by_quarters-After-quarters-nine, slid_by_quarters-After-remember, slid_of_nine-After-join}

-- ---- without the squares that aren't seen

pub slid_of-returns-then-are_all-clause-slid : goal.slid_of-returns-then-are_all-clause-slid
slid_of-returns-then-are_all-clause-slid g m c cells x y h =
    let k = c.args.level in
    let columns = c.args.offset.columns % 2 ^ k in
    let rows = c.args.offset.rows % 2 ^ k in
    let piece = slid-blank (g.S.Squares.content c.args.from.now) cells k x y columns rows c.empty.result
    c.args.block.now c.empty.ensures.square (rest-less _ k) (rest-less _ k) (c.are_all.ensures c.if-are_all.true) h in
    subst (IsPiece cells (step_ahead x columns) (step_ahead y rows)) (c.empty.ensures.square ∙ sym c.empty-then-are_all.ensures.square) piece

pub slid_of-returns-clause-slid : goal.slid_of-returns-clause-slid
slid_of-returns-clause-slid g m c =
    if_ok_two c.slid_of_seen.result
    (λ r at slid cells x y h.
    let i = c.seen-inside.ensures.seen cells x y h in
    is-piece cells c.args.level _ _ _
    (piece-is i.other c.args.level _ _ _ (g.met.T.Squares.full _ _ at.known) at.level (slid i.other x y i.are) ∙ i.same))
    c.slid_of_seen.ensures.at c.slid_of_seen.ensures.slid

pub slid_of-returns-clause-needed : goal.slid_of-returns-clause-needed
slid_of-returns-clause-needed g m c =
    on_err_weaker c.slid_of_seen.result
    (λ some cells x y h.
    let i = c.seen-inside.ensures.seen cells x y h in subst (SomePart (g.T.Squares.needs_node c.slid_of_seen.new.to)) i.same (some i.other x y i.are))
    c.slid_of_seen.ensures.needed

pub slid_of-returns-clause-adds : goal.slid_of-returns-clause-adds
slid_of-returns-clause-adds g m c =
    adds-as _ c.slid_of_seen.ensures.adds
    (λ P some cells x y h. let i = c.seen-inside.ensures.seen cells x y h in subst (SomePart P) i.same (some i.other x y i.are))

-- ---- of squares that may be seen

pub slid_of_seen-returns-then-are_all-clause-slid : goal.slid_of_seen-returns-then-are_all-clause-slid
slid_of_seen-returns-then-are_all-clause-slid g m c cells x y h =
    let k = c.args.level in
    let columns = c.args.offset.columns % 2 ^ k in
    let rows = c.args.offset.rows % 2 ^ k in
    let piece = slid-blank (g.S.Squares.content c.args.from.now) cells k x y columns rows c.empty.result
    c.args.block.now c.empty.ensures.square (rest-less _ k) (rest-less _ k) (c.are_all.ensures c.if-are_all.true) h in
    subst (IsPiece cells (step_ahead x columns) (step_ahead y rows)) (c.empty.ensures.square ∙ sym c.empty-then-are_all.ensures.square) piece

-- a single cell
mod-one : (n : ℕ) → n % 1 ≡ 0
mod-one n = omega arith

level-none : (k : ℕ) (t : Tree) (s : ℕ) → depth t ≡ k → t ≡ point s → k ≡ 0
level-none k t s level is = sym level ∙ ap depth is

pub slid_of_seen-returns-in-Some-clause-at : goal.slid_of_seen-returns-in-Some-clause-at
slid_of_seen-returns-in-Some-clause-at g m c =
    let is = rw c.in-Some.is at c.state.ensures in
    record { known = c.cell.ensures.known; level = ap depth c.cell.ensures.square ∙ sym (level-none _ _ _ c.requires.known.nw.level is) }

pub slid_of_seen-returns-in-Some-clause-slid : goal.slid_of_seen-returns-in-Some-clause-slid
slid_of_seen-returns-in-Some-clause-slid g m c cells x y h =
    let is = rw c.in-Some.is at c.state.ensures in
    let k = level-none _ _ _ c.requires.known.nw.level is in
    let none : (n : ℕ) → n % 2 ^ c.args.level ≡ 0 = λ n. ap (λ l. n % 2 ^ l) k ∙ mod-one n in
    IsPiece-moved cells x _ y _ _ (ahead-none x _ (none _)) (ahead-none y _ (none _))
    (subst (IsPiece cells x y) (is ∙ sym c.cell.ensures.square) h.nw)

-- the square whose cells are reported is the one that begins there
leaf-is : (g : Over) (m : ℕ) (c : slid_of_seen-After-small g m) (cells : ℤ → ℤ → ℕ) (x y : ℤ)
    → IsBlock (g.S.Squares.content c.args.from.now) cells (2 ^ c.args.level) x y c.args.block.now
    → four c.in-Some-leaf_cells.cells ≡ square_from cells c.args.level (step_ahead x (c.args.offset.columns % 2 ^ c.args.level))
    (step_ahead y (c.args.offset.rows % 2 ^ c.args.level))
leaf-is g m c cells x y h =
    let e = c.in-Some-leaf_cells.ensures.level in
    let content = g.S.Squares.content c.args.from.now in
    let n = c.in-Some-leaf_cells.cells in
    let columns = c.args.offset.columns in
    let rows = c.args.offset.rows in
    subst (λ l. IsBlock content cells (2 ^ l) x y c.args.block.now → four n
    ≡ square_from cells l (step_ahead x (columns % 2 ^ l)) (step_ahead y (rows % 2 ^ l))) (sym e)
    (λ p. square-is cells _ _ n c.in-Some-leaf_cells.ensures.small (c.in-Some-leaf_cells.ensures.cells cells x y p)) h

pub slid_of_seen-returns-in-Some-leaf_cells-clause-at : goal.slid_of_seen-returns-in-Some-leaf_cells-clause-at
slid_of_seen-returns-in-Some-leaf_cells-clause-at g m c =
    let e = c.in-Some-leaf_cells.ensures.level in
    if_ok_two c.small.result (λ r known is. record { known = known; level = ap depth is ∙ sym e }) c.small.ensures.known c.small.ensures.square

pub slid_of_seen-returns-in-Some-leaf_cells-clause-remembers : goal.slid_of_seen-returns-in-Some-leaf_cells-clause-remembers
slid_of_seen-returns-in-Some-leaf_cells-clause-remembers g m c =
    IfOk-weaker c.small.result _ _ (λ r known. Remembers-kept c.small.ensures.keeps c.requires.remembers) c.small.ensures.known

pub slid_of_seen-returns-in-Some-leaf_cells-clause-slid : goal.slid_of_seen-returns-in-Some-leaf_cells-clause-slid
slid_of_seen-returns-in-Some-leaf_cells-clause-slid g m c =
    IfOk-weaker c.small.result _ _
    (λ r is cells x y h. is-piece cells c.args.level _ _ _
    (is ∙ leaf-is g m (goal.at.slid_of_seen-returns-in-Some-leaf_cells-clause-slid g m c).After-small cells x y h))
    c.small.ensures.square

pub slid_of_seen-returns-in-Some-leaf_cells-clause-needed : goal.slid_of_seen-returns-in-Some-leaf_cells-clause-needed
slid_of_seen-returns-in-Some-leaf_cells-clause-needed g m c =
    on_err_weaker c.small.result
    (λ needed cells x y h. subst (SomePart (g.T.Squares.needs_node c.small.new.self))
    (leaf-is g m (goal.at.slid_of_seen-returns-in-Some-leaf_cells-clause-needed g m c).After-small cells x y h) needed)
    c.small.ensures.needed

pub slid_of_seen-returns-in-Some-leaf_cells-clause-adds : goal.slid_of_seen-returns-in-Some-leaf_cells-clause-adds
slid_of_seen-returns-in-Some-leaf_cells-clause-adds g m c =
    adds-as _ c.small.ensures.adds
    (λ P some cells x y h. subst (SomePart P) (leaf-is g m (goal.at.slid_of_seen-returns-in-Some-leaf_cells-clause-adds g m c).After-small cells x y h) some)

-- so is one of level 3
eight-is : (g : Over) (m : ℕ) (c : slid_of_seen-After-leaf g m) (cells : ℤ → ℤ → ℕ) (x y : ℤ)
    → IsBlock (g.S.Squares.content c.args.from.now) cells (2 ^ c.args.level) x y c.args.block.now
    → eight c.in-Some-leaf_of_block.cells ≡ square_from cells c.args.level (step_ahead x (c.args.offset.columns % 2 ^ c.args.level))
    (step_ahead y (c.args.offset.rows % 2 ^ c.args.level))
eight-is g m c cells x y h =
    let e = c.in-Some-leaf_of_block.ensures.level in
    let content = g.S.Squares.content c.args.from.now in
    let n = c.in-Some-leaf_of_block.cells in
    let columns = c.args.offset.columns in
    let rows = c.args.offset.rows in
    subst (λ l. IsBlock content cells (2 ^ l) x y c.args.block.now → eight n
    ≡ square_from cells l (step_ahead x (columns % 2 ^ l)) (step_ahead y (rows % 2 ^ l))) (sym e)
    (λ p. c.in-Some-leaf_of_block.ensures.cells cells x y p) h

pub slid_of_seen-returns-in-Some-leaf_of_block-clause-at : goal.slid_of_seen-returns-in-Some-leaf_of_block-clause-at
slid_of_seen-returns-in-Some-leaf_of_block-clause-at g m c =
    let e = c.in-Some-leaf_of_block.ensures.level in
    if_ok_two c.leaf.result (λ r known is. record { known = known; level = ap depth is ∙ sym e }) c.leaf.ensures.known c.leaf.ensures.square

pub slid_of_seen-returns-in-Some-leaf_of_block-clause-remembers : goal.slid_of_seen-returns-in-Some-leaf_of_block-clause-remembers
slid_of_seen-returns-in-Some-leaf_of_block-clause-remembers g m c =
    IfOk-weaker c.leaf.result _ _ (λ r known. Remembers-kept c.leaf.ensures.keeps c.requires.remembers) c.leaf.ensures.known

pub slid_of_seen-returns-in-Some-leaf_of_block-clause-slid : goal.slid_of_seen-returns-in-Some-leaf_of_block-clause-slid
slid_of_seen-returns-in-Some-leaf_of_block-clause-slid g m c =
    IfOk-weaker c.leaf.result _ _
    (λ r is cells x y h. is-piece cells c.args.level _ _ _
    (is ∙ eight-is g m (goal.at.slid_of_seen-returns-in-Some-leaf_of_block-clause-slid g m c).After-leaf cells x y h))
    c.leaf.ensures.square

pub slid_of_seen-returns-in-Some-leaf_of_block-clause-needed : goal.slid_of_seen-returns-in-Some-leaf_of_block-clause-needed
slid_of_seen-returns-in-Some-leaf_of_block-clause-needed g m c =
    on_err_weaker c.leaf.result
    (λ needed cells x y h. subst (SomePart (g.T.Squares.needs_node c.leaf.new.self))
    (eight-is g m (goal.at.slid_of_seen-returns-in-Some-leaf_of_block-clause-needed g m c).After-leaf cells x y h) needed)
    c.leaf.ensures.needed

pub slid_of_seen-returns-in-Some-leaf_of_block-clause-adds : goal.slid_of_seen-returns-in-Some-leaf_of_block-clause-adds
slid_of_seen-returns-in-Some-leaf_of_block-clause-adds g m c =
    adds-as _ c.leaf.ensures.adds
    (λ P some cells x y h. subst (SomePart P) (eight-is g m (goal.at.slid_of_seen-returns-in-Some-leaf_of_block-clause-adds g m c).After-leaf cells x y h) some)

-- ---- by quarters

pub slid_by_quarters-returns-in-Some-clause-at : goal.slid_by_quarters-returns-in-Some-clause-at
slid_by_quarters-returns-in-Some-clause-at g m c = recalled-at c.requires.remembers c.in-Some.ensures c.requires.known

pub slid_by_quarters-returns-in-Some-clause-slid : goal.slid_by_quarters-returns-in-Some-clause-slid
slid_by_quarters-returns-in-Some-clause-slid g m c = recalled-slid c.requires.remembers c.in-Some.ensures c.requires.known

-- the square that the nine answer
slid-of : (g : Over) (m : ℕ) (c : slid_by_quarters-After-remember g m) (cells : ℤ → ℤ → ℕ) (x y : ℤ)
    → IsBlock (g.S.Squares.content c.args.from.now) cells (2 ^ c.args.level) x y c.args.block.now
    → IsPiece cells (step_ahead x (c.args.offset.columns % 2 ^ c.args.level)) (step_ahead y (c.args.offset.rows % 2 ^ c.args.level))
    (g.T.Squares.content c.slid_of_nine.new.to c.in_ok-answer.answer)
slid-of g m c cells x y h =
    let j = c.args.level - 1 in
    let level : j + 1 ≡ c.args.level = omega (arith, c.requires.low) in
    IsPiece-moved cells _ _ _ _ _ (begins c.digit.result c.args.offset.columns j c.args.level x c.digit.ensures level)
    (begins c.digit-2.result c.args.offset.rows j c.args.level y c.digit-2.ensures level)
    (c.in_ok-answer.ensures.slid cells _ _
    (nine-of (g.S.Squares.content c.args.from.now) 0 0 c.args.level c.digit.result c.digit-2.result c.requires.low
    c.quarters-nine.ensures.pieces cells x y h))

pub slid_by_quarters-returns-clause-slid : goal.slid_by_quarters-returns-clause-slid
slid_by_quarters-returns-clause-slid g m c = slid-of g m (goal.at.slid_by_quarters-returns-clause-slid g m c).After-remember

pub slid_by_quarters-returns-clause-remembers : goal.slid_by_quarters-returns-clause-remembers
slid_by_quarters-returns-clause-remembers g m c =
    let n = c.in_ok-answer.ensures in
    let s = c.slid_of_nine.new.to in
    let level : c.args.level - 1 + 1 ≡ c.args.level = omega (arith, c.requires.low) in
    let at = subst (λ l. IsOfLevel (g.T.Squares.knows s) (g.T.Squares.content s) l c.in_ok-answer.answer) level n.at in
    Remembers-more
    (record {
      level = c.args.level;
      known = c.requires.known;
      at = at;
      slid = slid-of g m (goal.at.slid_by_quarters-returns-clause-remembers g m c).After-remember;
    })
    c.remember.ensures n.remembers

-- a part of the square of nine quarters is one of the square
quarters-part : (g : Over) (m : ℕ) (c : slid_by_quarters-After-quarters-nine g m) (P : Tree → Type 0)
    → SomeOfNineSquares P (g.S.Squares.content c.args.from.now) c.args.offset.columns c.args.offset.rows (c.args.level - 1) c.quarters-nine.result
    → SomeOfBlock P (g.S.Squares.content c.args.from.now) c.args.offset.columns c.args.offset.rows c.args.level c.args.block.now
quarters-part g m c P =
    of_quarters (g.S.Squares.content c.args.from.now) c.args.offset.columns c.args.offset.rows c.args.level c.digit.result c.digit-2.result c.requires.low
    c.quarters-nine.ensures.pieces P c.digit.ensures c.digit-2.ensures

pub slid_by_quarters-returns-in_err-answer-clause-needed : goal.slid_by_quarters-returns-in_err-answer-clause-needed
slid_by_quarters-returns-in_err-answer-clause-needed g m c =
    on_err_any c.from_residual.result
    (quarters-part g m (goal.at.slid_by_quarters-returns-in_err-answer-clause-needed g m c).After-quarters-nine
    (g.T.Squares.needs_node c.slid_of_nine.new.to) c.in_err-answer.ensures.needed)

pub slid_by_quarters-returns-in_err-answer-clause-adds : goal.slid_by_quarters-returns-in_err-answer-clause-adds
slid_by_quarters-returns-in_err-answer-clause-adds g m c =
    adds-as _ c.in_err-answer.ensures.adds
    (quarters-part g m (goal.at.slid_by_quarters-returns-in_err-answer-clause-adds g m c).After-quarters-nine)

pub slid_by_quarters-returns-clause-adds : goal.slid_by_quarters-returns-clause-adds
slid_by_quarters-returns-clause-adds g m c =
    adds-as _ c.in_ok-answer.ensures.adds (quarters-part g m (goal.at.slid_by_quarters-returns-clause-adds g m c).After-quarters-nine)

-- ---- of nine

pub slid_of_nine-returns-clause-remembers : goal.slid_of_nine-returns-clause-remembers
slid_of_nine-returns-clause-remembers g m c =
    IfOk-weaker c.join.result _ _ (λ r known. Remembers-kept c.join.ensures.keeps c.in_ok-se.ensures.remembers) c.join.ensures.known

pub slid_of_nine-returns-in_err-sw-clause-keeps : goal.slid_of_nine-returns-in_err-sw-clause-keeps
slid_of_nine-returns-in_err-sw-clause-keeps g m c = keeps-then (keeps-then c.in_ok-nw.ensures.keeps c.in_ok-ne.ensures.keeps) c.in_err-sw.ensures.keeps

pub slid_of_nine-returns-in_err-se-clause-keeps : goal.slid_of_nine-returns-in_err-se-clause-keeps
slid_of_nine-returns-in_err-se-clause-keeps g m c =
    keeps-then (keeps-then (keeps-then c.in_ok-nw.ensures.keeps c.in_ok-ne.ensures.keeps) c.in_ok-sw.ensures.keeps) c.in_err-se.ensures.keeps

pub slid_of_nine-returns-clause-keeps : goal.slid_of_nine-returns-clause-keeps
slid_of_nine-returns-clause-keeps g m c =
    keeps-then (keeps-then (keeps-then (keeps-then c.in_ok-nw.ensures.keeps c.in_ok-ne.ensures.keeps) c.in_ok-sw.ensures.keeps) c.in_ok-se.ensures.keeps)
    c.join.ensures.keeps

-- the four answers are the quarters of the square
parts : (g : Over) (m : ℕ) (c : slid_of_nine-After-join g m) (cells : ℤ → ℤ → ℕ) (x y : ℤ)
    → AreNinePieces (g.S.Squares.content c.args.from.now) cells (2 ^ c.args.level) x y c.args.nine.now
    → let now = g.T.Squares.content c.slid_of-4.new.to in
    AreParts cells c.args.level (step_ahead x (c.args.offset.columns % 2 ^ c.args.level)) (step_ahead y (c.args.offset.rows % 2 ^ c.args.level))
    (now c.in_ok-nw.nw) (now c.in_ok-ne.ne) (now c.in_ok-sw.sw) (now c.in_ok-se.se)
parts g m c cells x y h =
    let k = c.args.level in
    let side = 2 ^ k in
    let content = g.S.Squares.content c.args.from.now in
    let nw = c.in_ok-nw.ensures in
    let ne = c.in_ok-ne.ensures in
    let sw = c.in_ok-sw.ensures in
    let se = c.in_ok-se.ensures in
    let ex = swapped x side (c.args.offset.columns % 2 ^ k) in
    let ey = swapped y side (c.args.offset.rows % 2 ^ k) in
    parts-of_pieces _ _ g.met.T.Squares.full refl _ _ ne.keeps sw.keeps se.keeps nw.at ne.at sw.at se.at
    (nw.slid cells _ _ (block-western content cells c.western.ensures h.before h.here))
    (IsPiece-moved cells _ _ _ _ _ ex refl (ne.slid cells _ _ (block-eastern content cells c.eastern.ensures h.before h.here)))
    (IsPiece-moved cells _ _ _ _ _ refl ey (sw.slid cells _ _ (block-western content cells c.western-2.ensures h.here h.after)))
    (IsPiece-moved cells _ _ _ _ _ ex ey (se.slid cells _ _ (block-eastern content cells c.eastern-2.ensures h.here h.after)))

pub slid_of_nine-returns-clause-slid : goal.slid_of_nine-returns-clause-slid
slid_of_nine-returns-clause-slid g m c =
    IfOk-weaker c.join.result _ _
    (λ r e cells x y h. is-piece _ _ _ _ _ (e ∙ joined-is (parts g m (goal.at.slid_of_nine-returns-clause-slid g m c).After-join cells x y h)))
    c.join.ensures.square

pub slid_of_nine-returns-in_err-nw-clause-needed : goal.slid_of_nine-returns-in_err-nw-clause-needed
slid_of_nine-returns-in_err-nw-clause-needed g m c =
    on_err_any c.from_residual.result
    (of_north_west (g.T.Squares.needs_node c.slid_of.new.to) (g.S.Squares.content c.args.from.now) c.args.offset.columns c.args.offset.rows c.args.level
    c.western.ensures c.in_err-nw.ensures.needed)

pub slid_of_nine-returns-in_err-ne-clause-needed : goal.slid_of_nine-returns-in_err-ne-clause-needed
slid_of_nine-returns-in_err-ne-clause-needed g m c =
    on_err_any c.from_residual-in_err-ne.result
    (of_north_east (g.T.Squares.needs_node c.slid_of-2.new.to) (g.S.Squares.content c.args.from.now) c.args.offset.columns c.args.offset.rows c.args.level
    c.eastern.ensures c.in_err-ne.ensures.needed)

pub slid_of_nine-returns-in_err-sw-clause-needed : goal.slid_of_nine-returns-in_err-sw-clause-needed
slid_of_nine-returns-in_err-sw-clause-needed g m c =
    on_err_any c.from_residual-in_err-sw.result
    (of_south_west (g.T.Squares.needs_node c.slid_of-3.new.to) (g.S.Squares.content c.args.from.now) c.args.offset.columns c.args.offset.rows c.args.level
    c.western-2.ensures c.in_err-sw.ensures.needed)

pub slid_of_nine-returns-in_err-se-clause-needed : goal.slid_of_nine-returns-in_err-se-clause-needed
slid_of_nine-returns-in_err-se-clause-needed g m c =
    on_err_any c.from_residual-in_err-se.result
    (of_south_east (g.T.Squares.needs_node c.slid_of-4.new.to) (g.S.Squares.content c.args.from.now) c.args.offset.columns c.args.offset.rows c.args.level
    c.eastern-2.ensures c.in_err-se.ensures.needed)

pub slid_of_nine-returns-clause-needed : goal.slid_of_nine-returns-clause-needed
slid_of_nine-returns-clause-needed g m c =
    let N = g.T.Squares.needs_node in
    on_err_both c.join.result
    (λ needs same cells x y h.
    own-part (N c.join.new.self) _ _ _ _ _ (joined-is (parts g m (goal.at.slid_of_nine-returns-clause-needed g m c).After-join cells x y h))
    (still-needs N _ _ _ same needs))
    c.join.ensures.needed c.join.ensures.unchanged

pub slid_of_nine-returns-in_err-nw-clause-adds : goal.slid_of_nine-returns-in_err-nw-clause-adds
slid_of_nine-returns-in_err-nw-clause-adds g m c =
    adds-as _ c.in_err-nw.ensures.adds
    (λ P. of_north_west P (g.S.Squares.content c.args.from.now) c.args.offset.columns c.args.offset.rows c.args.level c.western.ensures)

pub slid_of_nine-returns-in_err-ne-clause-adds : goal.slid_of_nine-returns-in_err-ne-clause-adds
slid_of_nine-returns-in_err-ne-clause-adds g m c =
    adds-more
    (adds-as _ c.in_ok-nw.ensures.adds
    (λ P. of_north_west P (g.S.Squares.content c.args.from.now) c.args.offset.columns c.args.offset.rows c.args.level c.western.ensures))
    c.in_err-ne.ensures.adds (λ P. of_north_east P (g.S.Squares.content c.args.from.now) c.args.offset.columns c.args.offset.rows
    c.args.level c.eastern.ensures)

pub slid_of_nine-returns-in_err-sw-clause-adds : goal.slid_of_nine-returns-in_err-sw-clause-adds
slid_of_nine-returns-in_err-sw-clause-adds g m c =
    adds-more
    (adds-more
    (adds-as _ c.in_ok-nw.ensures.adds
    (λ P. of_north_west P (g.S.Squares.content c.args.from.now) c.args.offset.columns c.args.offset.rows c.args.level c.western.ensures))
    c.in_ok-ne.ensures.adds (λ P. of_north_east P (g.S.Squares.content c.args.from.now) c.args.offset.columns c.args.offset.rows
    c.args.level c.eastern.ensures))
    c.in_err-sw.ensures.adds (λ P. of_south_west P (g.S.Squares.content c.args.from.now) c.args.offset.columns c.args.offset.rows
    c.args.level c.western-2.ensures)

pub slid_of_nine-returns-in_err-se-clause-adds : goal.slid_of_nine-returns-in_err-se-clause-adds
slid_of_nine-returns-in_err-se-clause-adds g m c =
    adds-more
    (adds-more
    (adds-more
    (adds-as _ c.in_ok-nw.ensures.adds
    (λ P. of_north_west P (g.S.Squares.content c.args.from.now) c.args.offset.columns c.args.offset.rows c.args.level c.western.ensures))
    c.in_ok-ne.ensures.adds (λ P. of_north_east P (g.S.Squares.content c.args.from.now) c.args.offset.columns c.args.offset.rows
    c.args.level c.eastern.ensures))
    c.in_ok-sw.ensures.adds (λ P. of_south_west P (g.S.Squares.content c.args.from.now) c.args.offset.columns c.args.offset.rows
    c.args.level c.western-2.ensures))
    c.in_err-se.ensures.adds (λ P. of_south_east P (g.S.Squares.content c.args.from.now) c.args.offset.columns c.args.offset.rows
    c.args.level c.eastern-2.ensures)

pub slid_of_nine-returns-clause-adds : goal.slid_of_nine-returns-clause-adds
slid_of_nine-returns-clause-adds g m c =
    adds-more
    (adds-more
    (adds-more
    (adds-more
    (adds-as _ c.in_ok-nw.ensures.adds
    (λ P. of_north_west P (g.S.Squares.content c.args.from.now) c.args.offset.columns c.args.offset.rows c.args.level c.western.ensures))
    c.in_ok-ne.ensures.adds (λ P. of_north_east P (g.S.Squares.content c.args.from.now) c.args.offset.columns c.args.offset.rows
    c.args.level c.eastern.ensures))
    c.in_ok-sw.ensures.adds (λ P. of_south_west P (g.S.Squares.content c.args.from.now) c.args.offset.columns c.args.offset.rows
    c.args.level c.western-2.ensures))
    c.in_ok-se.ensures.adds (λ P. of_south_east P (g.S.Squares.content c.args.from.now) c.args.offset.columns c.args.offset.rows
    c.args.level c.eastern-2.ensures))
    c.join.ensures.adds
    (λ P p cells x y h. own-part P _ _ _ _ _ (joined-is (parts g m (goal.at.slid_of_nine-returns-clause-adds g m c).After-join cells x y h)) p)
