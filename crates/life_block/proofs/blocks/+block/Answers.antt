use Rattle.std.proofs.Common.{◌≡◌, ℤ, ℕ, ◌+◌, ◌-◌, ◌^◌, refl, sym, ◌∙◌, subst, arith}
use Rattle.std.proofs.lemmas.Result.{IfOk-weaker}
use Rattle.life_base.proofs.Results.{on_err_any, on_err_both}
use Rattle.life_quad.proofs.KeepingLemmas.{keeps-then, adds-as}
use Rattle.life_next.specs.Generation.{next_life}
use Rattle.life_pieces.proofs.NeedLemmas.{adds-more, AreParts, is-piece, joined-is, parts-of_pieces, own-part, still-needs}
use Rattle.life_block.specs.Needed.{SomeOfSixteen}
use Rattle.life_pieces.specs.Pieces.{IsBinary, AreSixteen}
use Rattle.life_block.proofs.NeedLemmas.{of_north_west, of_north_east, of_south_west, of_south_east, of_quarters}
use Rattle.life_pieces.proofs.PieceLemmas.{AreSixteen-kept, first-of_four, last-of_four, western-nine, eastern-nine}
use Rattle.life_block.proofs.BlankLemmas.{next-of_blank}
use Rattle.life_block.proofs.RememberedLemmas.{Remembers-kept, Remembers-more, new-answer, recalled-at, recalled-next}
use Rattle.life_block.proofs.blocks.+block.Given.{Over}
use Rattle.life_block.proofs.blocks.+block.Goals as goal

pub next_of-returns-then-are_all-clause-next : goal.next_of-returns-then-are_all-clause-next
next_of-returns-then-are_all-clause-next g t c cells x y binary h =
    next-of_blank c.args.rule.now (g.S.Squares.content c.args.squares.now) cells c.args.level x y c.empty-blank.result c.args.nine.now c.requires.quiet
    c.empty-blank.ensures.square (c.are_all.ensures c.if-are_all.true) h

pub next_of-returns-in-Some-clause-at : goal.next_of-returns-in-Some-clause-at
next_of-returns-in-Some-clause-at g t c = recalled-at c.requires.remembers c.in-Some.ensures.answer c.requires.known

pub next_of-returns-in-Some-clause-next : goal.next_of-returns-in-Some-clause-next
next_of-returns-in-Some-clause-next g t c = recalled-next c.requires.remembers c.in-Some.ensures.answer c.requires.known

pub next_of-returns-clause-remembers : goal.next_of-returns-clause-remembers
next_of-returns-clause-remembers g t c =
    let n = c.in_ok-next.ensures in
    let level : c.args.level - 1 + 1 ≡ c.args.level = omega (arith, c.requires.low) in
    let answer = new-answer n.keeps (c.args.level - 1) c.args.level level c.requires.known n.at c.quarters-sixteen.ensures.pieces n.next in
    Remembers-more answer c.remember.ensures n.remembers

pub next_of_middle-returns-clause-remembers : goal.next_of_middle-returns-clause-remembers
next_of_middle-returns-clause-remembers g m c =
    IfOk-weaker c.join.result _ _ (λ r known. Remembers-kept c.join.ensures.keeps c.in_ok-se.ensures.remembers) c.join.ensures.known

pub next_of_middle-returns-in_err-sw-clause-keeps : goal.next_of_middle-returns-in_err-sw-clause-keeps
next_of_middle-returns-in_err-sw-clause-keeps g m c = keeps-then (keeps-then c.in_ok-nw.ensures.keeps c.in_ok-ne.ensures.keeps) c.in_err-sw.ensures.keeps

pub next_of_middle-returns-in_err-se-clause-keeps : goal.next_of_middle-returns-in_err-se-clause-keeps
next_of_middle-returns-in_err-se-clause-keeps g m c =
    keeps-then (keeps-then (keeps-then c.in_ok-nw.ensures.keeps c.in_ok-ne.ensures.keeps) c.in_ok-sw.ensures.keeps) c.in_err-se.ensures.keeps

pub next_of_middle-returns-clause-keeps : goal.next_of_middle-returns-clause-keeps
next_of_middle-returns-clause-keeps g m c =
    keeps-then (keeps-then (keeps-then (keeps-then c.in_ok-nw.ensures.keeps c.in_ok-ne.ensures.keeps) c.in_ok-sw.ensures.keeps) c.in_ok-se.ensures.keeps)
    c.join.ensures.keeps

-- the four answers are the quarters of the next square
parts : (g : Over) (m : ℕ) (c : goal.next_of_middle-After-join g m) (cells : ℤ → ℤ → ℕ) (x y : ℤ) → IsBinary cells
    → AreSixteen (g.S.Squares.content c.args.squares.now) cells (2 ^ c.args.level) x y c.args.sixteen.now
    → let now = g.S.Squares.content c.next_of-4.new.squares in
    AreParts (next_life c.args.rule.now cells) c.args.level x y (now c.in_ok-nw.nw) (now c.in_ok-ne.ne) (now c.in_ok-sw.sw) (now c.in_ok-se.se)
parts g m c cells x y binary h =
    let nw = c.in_ok-nw.ensures in
    let ne = c.in_ok-ne.ensures in
    let sw = c.in_ok-sw.ensures in
    let se = c.in_ok-se.ensures in
    let north = keeps-then nw.keeps ne.keeps in
    parts-of_pieces _ _ g.met.S.Squares.full refl x y ne.keeps sw.keeps se.keeps nw.at ne.at sw.at se.at
    (nw.next cells _ _ binary (western-nine _ cells c.western.ensures (first-of_four c.north.ensures h)))
    (ne.next cells _ _ binary (eastern-nine _ cells c.eastern.ensures (first-of_four c.north-2.ensures (AreSixteen-kept nw.keeps cells c.requires.known h))))
    (sw.next cells _ _ binary (western-nine _ cells c.western-2.ensures (last-of_four c.rear.ensures (AreSixteen-kept north cells c.requires.known h))))
    (se.next cells _ _ binary (eastern-nine _ cells c.eastern-2.ensures (last-of_four c.rear-2.ensures
    (AreSixteen-kept (keeps-then north sw.keeps) cells c.requires.known h))))

pub next_of_middle-returns-clause-next : goal.next_of_middle-returns-clause-next
next_of_middle-returns-clause-next g m c =
    IfOk-weaker c.join.result _ _ (λ r e cells x y binary h. is-piece _ _ x y _ (e ∙ joined-is (parts g m c cells x y binary h))) c.join.ensures.square

pub next_of_middle-returns-in_err-nw-clause-needed : goal.next_of_middle-returns-in_err-nw-clause-needed
next_of_middle-returns-in_err-nw-clause-needed g m c =
    on_err_any c.from_residual.result
    (of_north_west (g.S.Squares.needs_node c.next_of.new.squares) c.args.rule.now
    (g.S.Squares.content c.args.squares.now) c.args.level c.north.ensures c.western.ensures c.in_err-nw.ensures.needed)

pub next_of_middle-returns-in_err-ne-clause-needed : goal.next_of_middle-returns-in_err-ne-clause-needed
next_of_middle-returns-in_err-ne-clause-needed g m c =
    on_err_any c.from_residual-in_err-ne.result
    (of_north_east (g.S.Squares.needs_node c.next_of-2.new.squares) c.args.rule.now c.in_ok-nw.ensures.keeps c.requires.known c.north-2.ensures
    c.eastern.ensures c.in_err-ne.ensures.needed)

pub next_of_middle-returns-in_err-sw-clause-needed : goal.next_of_middle-returns-in_err-sw-clause-needed
next_of_middle-returns-in_err-sw-clause-needed g m c =
    on_err_any c.from_residual-in_err-sw.result
    (of_south_west (g.S.Squares.needs_node c.next_of-3.new.squares) c.args.rule.now
    (keeps-then c.in_ok-nw.ensures.keeps c.in_ok-ne.ensures.keeps) c.requires.known c.rear.ensures c.western-2.ensures
    c.in_err-sw.ensures.needed)

pub next_of_middle-returns-in_err-se-clause-needed : goal.next_of_middle-returns-in_err-se-clause-needed
next_of_middle-returns-in_err-se-clause-needed g m c =
    on_err_any c.from_residual-in_err-se.result
    (of_south_east (g.S.Squares.needs_node c.next_of-4.new.squares) c.args.rule.now
    (keeps-then (keeps-then c.in_ok-nw.ensures.keeps c.in_ok-ne.ensures.keeps) c.in_ok-sw.ensures.keeps) c.requires.known c.rear-2.ensures
    c.eastern-2.ensures c.in_err-se.ensures.needed)

pub next_of_middle-returns-clause-needed : goal.next_of_middle-returns-clause-needed
next_of_middle-returns-clause-needed g m c =
    let N = g.S.Squares.needs_node in
    on_err_both c.join.result
    (λ needs same cells x y binary h. own-part (N c.join.new.self) _ _ x y _ (joined-is (parts g m c cells x y binary h)) (still-needs N _ _ _ same needs))
    c.join.ensures.needed c.join.ensures.unchanged

pub next_of-returns-in_err-next-clause-adds : goal.next_of-returns-in_err-next-clause-adds
next_of-returns-in_err-next-clause-adds g t c =
    let level : c.args.level - 1 + 1 ≡ c.args.level = omega (arith, c.requires.low) in
    adds-as _ c.in_err-next.ensures.adds (λ P. of_quarters P c.args.rule.now (g.S.Squares.content c.args.squares.now)
    (c.args.level - 1) level c.quarters-sixteen.ensures.pieces)

pub next_of-returns-clause-adds : goal.next_of-returns-clause-adds
next_of-returns-clause-adds g t c =
    let level : c.args.level - 1 + 1 ≡ c.args.level = omega (arith, c.requires.low) in
    adds-as _ c.in_ok-next.ensures.adds (λ P. of_quarters P c.args.rule.now (g.S.Squares.content c.args.squares.now)
    (c.args.level - 1) level c.quarters-sixteen.ensures.pieces)

pub next_of_middle-returns-in_err-nw-clause-adds : goal.next_of_middle-returns-in_err-nw-clause-adds
next_of_middle-returns-in_err-nw-clause-adds g m c =
    adds-as _ c.in_err-nw.ensures.adds (λ P. of_north_west P c.args.rule.now
    (g.S.Squares.content c.args.squares.now) c.args.level c.north.ensures c.western.ensures)

pub next_of_middle-returns-in_err-ne-clause-adds : goal.next_of_middle-returns-in_err-ne-clause-adds
next_of_middle-returns-in_err-ne-clause-adds g m c =
    let nw = c.in_ok-nw.ensures in
    adds-more
    (adds-as _ nw.adds (λ P. of_north_west P c.args.rule.now (g.S.Squares.content c.args.squares.now) c.args.level c.north.ensures c.western.ensures))
    c.in_err-ne.ensures.adds (λ P. of_north_east P c.args.rule.now nw.keeps c.requires.known c.north-2.ensures c.eastern.ensures)

pub next_of_middle-returns-in_err-sw-clause-adds : goal.next_of_middle-returns-in_err-sw-clause-adds
next_of_middle-returns-in_err-sw-clause-adds g m c =
    let nw = c.in_ok-nw.ensures in
    let ne = c.in_ok-ne.ensures in
    let north = keeps-then nw.keeps ne.keeps in
    adds-more
    (adds-more
    (adds-as _ nw.adds (λ P. of_north_west P c.args.rule.now (g.S.Squares.content c.args.squares.now) c.args.level c.north.ensures c.western.ensures))
    ne.adds (λ P. of_north_east P c.args.rule.now nw.keeps c.requires.known c.north-2.ensures c.eastern.ensures))
    c.in_err-sw.ensures.adds (λ P. of_south_west P c.args.rule.now north c.requires.known c.rear.ensures c.western-2.ensures)

pub next_of_middle-returns-in_err-se-clause-adds : goal.next_of_middle-returns-in_err-se-clause-adds
next_of_middle-returns-in_err-se-clause-adds g m c =
    let nw = c.in_ok-nw.ensures in
    let ne = c.in_ok-ne.ensures in
    let sw = c.in_ok-sw.ensures in
    let north = keeps-then nw.keeps ne.keeps in
    adds-more
    (adds-more
    (adds-more
    (adds-as _ nw.adds (λ P. of_north_west P c.args.rule.now (g.S.Squares.content c.args.squares.now) c.args.level c.north.ensures c.western.ensures))
    ne.adds (λ P. of_north_east P c.args.rule.now nw.keeps c.requires.known c.north-2.ensures c.eastern.ensures))
    sw.adds (λ P. of_south_west P c.args.rule.now north c.requires.known c.rear.ensures c.western-2.ensures))
    c.in_err-se.ensures.adds (λ P. of_south_east P c.args.rule.now (keeps-then north sw.keeps) c.requires.known c.rear-2.ensures c.eastern-2.ensures)

pub next_of_middle-returns-clause-adds : goal.next_of_middle-returns-clause-adds
next_of_middle-returns-clause-adds g m c =
    let nw = c.in_ok-nw.ensures in
    let ne = c.in_ok-ne.ensures in
    let sw = c.in_ok-sw.ensures in
    let north = keeps-then nw.keeps ne.keeps in
    adds-more
    (adds-more
    (adds-more
    (adds-more
    (adds-as _ nw.adds (λ P. of_north_west P c.args.rule.now (g.S.Squares.content c.args.squares.now) c.args.level c.north.ensures c.western.ensures))
    ne.adds (λ P. of_north_east P c.args.rule.now nw.keeps c.requires.known c.north-2.ensures c.eastern.ensures))
    sw.adds (λ P. of_south_west P c.args.rule.now north c.requires.known c.rear.ensures c.western-2.ensures))
    c.in_ok-se.ensures.adds (λ P. of_south_east P c.args.rule.now (keeps-then north sw.keeps) c.requires.known c.rear-2.ensures c.eastern-2.ensures))
    c.join.ensures.adds (λ P p cells x y binary h. own-part P _ _ x y _ (joined-is (parts g m c cells x y binary h)) p)

pub next_of_middle-returns-then-level-eq3-clause-remembers : goal.next_of_middle-returns-then-level-eq3-clause-remembers
next_of_middle-returns-then-level-eq3-clause-remembers g m c =
    let leaves = c.next_of_leaves.ensures in
    IfOk-weaker c.next_of_leaves.result _ _ (λ r at. Remembers-kept leaves.keeps c.requires.remembers) leaves.at

pub next_of_middle-returns-then-level-eq3-clause-adds : goal.next_of_middle-returns-then-level-eq3-clause-adds
next_of_middle-returns-then-level-eq3-clause-adds g m c =
    let content = g.S.Squares.content c.args.squares.now in
    adds-as _ c.next_of_leaves.ensures.adds
    (λ P. subst (λ (k : ℕ). SomeOfSixteen P c.args.rule.now content k c.args.sixteen.now) (sym c.if-level-eq3.true))
