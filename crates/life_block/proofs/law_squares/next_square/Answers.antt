use Rattle.std.proofs.Common.{◌≡◌, ◌+◌, ◌-◌, ◌^◌, sym, ◌∙◌, ap, arith}
use Rattle.life_base.specs.Tree.{depth, tree_cell}
use Rattle.life_block.specs.Laws.{IsNextAt}
use Rattle.life_pieces.specs.Pieces.{step_ahead}
use Rattle.life_block.proofs.LawPieceLemmas.{if-some, joined-level, joined-pieces, piece-by, RemembersBy-none, square-next}
use Rattle.life_block.proofs.RootLemmas.{IsDivided, quarters-at, outer, around-north_west, around-north_east, around-south_west, around-south_east}
use Rattle.life_block.proofs.law_squares.next_square.Given.{Over}
use Rattle.life_block.proofs.law_squares.next_square.Goals.{After-empty-blank}
use Rattle.life_base.proofs.Results.{if_ok_two}
use Rattle.life_block.proofs.law_squares.next_square.Goals as goal

-- the square's quarters, and a blank one of their level
divided : (g : Over) (c : After-empty-blank g)
    → IsDivided (g.S.Squares.knows c.args.from.now) (g.S.Squares.content c.args.from.now) (g.S.Squares.content c.args.from.now c.args.id)
    (c.level-level.result - 1) c.divide-root.result
    c.empty-blank.result
divided g c =
    let s = c.args.from.now in
    let t = g.S.Squares.content s c.args.id in
    let k = c.level-level.result - 1 in
    let d = c.divide-root.ensures in
    let e = c.empty-blank.ensures in
    let level : depth t ≡ k + 1 = omega (arith, c.level-level.ensures.level, c.requires.high) in
    record {
      level = level;
      quarters = quarters-at (g.S.Squares.knows s) (g.S.Squares.content s) t c.divide-root.result c.empty-blank.result k
          (g.met.S.Squares.full _ _ c.requires.known) level
          d.square d.quarters.nw d.quarters.ne d.quarters.sw d.quarters.se e.known e.square e.level;
    }

pub next_of_middle-requires-clause-remembers : goal.next_of_middle-requires-clause-remembers
next_of_middle-requires-clause-remembers g c = RemembersBy-none c.new-memory.ensures

pub returns-clause-next : goal.returns-clause-next
returns-clause-next g c =
    let law = c.args.law.now in
    let t = g.S.Squares.content c.args.from.now c.args.id in
    let d = divided g (goal.at.returns-clause-next g c).After-empty-blank in
    let next = g.T.Squares.content in
    let side = 2 ^ depth t in
    let start = outer t in
    let nw = c.in_ok-north_west.ensures in
    let ne = c.in_ok-north_east.ensures in
    let sw = c.in_ok-south_west.ensures in
    let se = c.in_ok-south_east.ensures in
    let second = nw.same in
    let third = ne.same ∙ second in
    let fourth = sw.same ∙ third in
    let high = c.requires.high in
    if-some _ c.join.result c.ok.ensures.value
    (if_ok_two c.join.result
    (λ r kept is. square-next (g.L.Law.answers law) (g.L.Law.bound law) (g.met.L.Law.positive law) (g.met.L.Law.quiet law) t
    (g.T.Squares.content c.join.new.self r) high (g.met.T.Squares.full _ _ kept)
    (joined-level _ ne.keeps sw.keeps se.keeps nw.at is ∙ ap (λ n. n + 1) (sym d.level))
    (joined-pieces _ (IsNextAt (g.L.Law.answers law) (g.L.Law.bound law) (tree_cell t)) (depth t) (outer t) (outer t) (sym d.level)
    ne.keeps sw.keeps se.keeps nw.at ne.at sw.at
    (nw.next (tree_cell t) _ _ (around-north_west d c.with-around.ensures))
    (piece-by g.L.Law.answers g.L.Law.bound second (tree_cell t) (step_ahead start side) start (next c.next_of_middle-2.new.to c.in_ok-north_east.north_east)
    (ne.next (tree_cell t) _ _ (around-north_east d c.with-around-2.ensures)))
    (piece-by g.L.Law.answers g.L.Law.bound third (tree_cell t) start (step_ahead start side) (next c.next_of_middle-3.new.to c.in_ok-south_west.south_west)
    (sw.next (tree_cell t) _ _ (around-south_west d c.with-around-3.ensures)))
    (piece-by g.L.Law.answers g.L.Law.bound fourth (tree_cell t) (step_ahead start side) (step_ahead start side)
    (next c.next_of_middle-4.new.to c.in_ok-south_east.south_east)
    (se.next (tree_cell t) _ _ (around-south_east d c.with-around-4.ensures)))
    is))
    c.join.ensures.known c.join.ensures.square)
