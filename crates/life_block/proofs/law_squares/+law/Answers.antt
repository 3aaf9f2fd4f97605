use Rattle.std.proofs.Common.{◌≡◌, ◌+◌, ◌-◌, ◌^◌, refl, sym, ◌∙◌, subst, arith}
use Rattle.std.proofs.lemmas.Result.{IfOk-weaker}
use Rattle.life_quad.proofs.KeepingLemmas.{keeps-then}
use Rattle.life_block.specs.Laws.{IsNextAt, IsPieceBy}
use Rattle.life_pieces.specs.Pieces.{IsOfLevel, AreNine, step_ahead}
use Rattle.life_block.proofs.LawPieceLemmas.{if-some, joined-pieces, next-of_blanks, piece-by, remembers-by, RemembersBy-kept, RemembersBy-more}
use Rattle.life_pieces.proofs.PieceLemmas.{first-of_four, last-of_four, western-nine, eastern-nine}
use Rattle.life_block.proofs.law_squares.+law.Goals as goal

pub next_of-returns-then-are_all-clause-next : goal.next_of-returns-then-are_all-clause-next
next_of-returns-then-are_all-clause-next g t c cells x y h =
    let law = c.args.law.now in
    subst (IsPieceBy (IsNextAt (g.L.Law.answers law) (g.L.Law.bound law) cells) x y) (sym c.empty-then-are_all.ensures.square)
    (next-of_blanks (g.L.Law.answers law) (g.L.Law.bound law) (g.met.L.Law.positive law) (g.met.L.Law.quiet law) (g.S.Squares.content c.args.from.now) cells
    c.args.level x y c.empty.result c.args.nine.now c.empty.ensures.square (c.are_all.ensures c.if-are_all.true) h)

pub next_of-returns-clause-remembers : goal.next_of-returns-clause-remembers
next_of-returns-clause-remembers g t c =
    let n = c.in_ok-next.ensures in
    let level : c.args.level - 1 + 1 ≡ c.args.level = omega (arith, c.if-level-eq0.false) in
    RemembersBy-more
    (record {
      level = c.args.level;
      known = c.requires.known;
      at = subst (λ l. IsOfLevel (g.T.Squares.knows c.next_of_middle.new.to) (g.T.Squares.content c.next_of_middle.new.to) l c.in_ok-next.next) level n.at;
      right = λ cells x y h. n.next cells x y (c.quarters-sixteen.ensures.pieces cells x y
          (subst (λ l. AreNine (g.S.Squares.content c.args.from.now) cells (2 ^ l) x y c.args.nine.now) (sym level) h));
    })
    c.remember.ensures n.remembers

pub next_of_middle-returns-in_err-sw-clause-keeps : goal.next_of_middle-returns-in_err-sw-clause-keeps
next_of_middle-returns-in_err-sw-clause-keeps g t c = keeps-then (keeps-then c.in_ok-nw.ensures.keeps c.in_ok-ne.ensures.keeps) c.in_err-sw.ensures.keeps

pub next_of_middle-returns-in_err-se-clause-keeps : goal.next_of_middle-returns-in_err-se-clause-keeps
next_of_middle-returns-in_err-se-clause-keeps g t c =
    keeps-then (keeps-then (keeps-then c.in_ok-nw.ensures.keeps c.in_ok-ne.ensures.keeps) c.in_ok-sw.ensures.keeps) c.in_err-se.ensures.keeps

pub next_of_middle-returns-clause-keeps : goal.next_of_middle-returns-clause-keeps
next_of_middle-returns-clause-keeps g t c =
    keeps-then (keeps-then (keeps-then (keeps-then c.in_ok-nw.ensures.keeps c.in_ok-ne.ensures.keeps) c.in_ok-sw.ensures.keeps) c.in_ok-se.ensures.keeps)
    c.join.ensures.keeps

pub next_of_middle-returns-clause-remembers : goal.next_of_middle-returns-clause-remembers
next_of_middle-returns-clause-remembers g t c =
    let same = c.in_ok-sw.ensures.same ∙ c.in_ok-ne.ensures.same ∙ c.in_ok-nw.ensures.same in
    if-some _ c.join.result c.ok.ensures.value
    (IfOk-weaker c.join.result _ _
    (λ r known. RemembersBy-kept c.join.ensures.keeps (remembers-by g.L.Law.answers g.L.Law.bound same c.in_ok-se.ensures.remembers))
    c.join.ensures.known)

pub next_of_middle-returns-clause-next : goal.next_of_middle-returns-clause-next
next_of_middle-returns-clause-next g t c =
    let law = c.args.law.now in
    let content = g.S.Squares.content c.args.from.now in
    let next = g.T.Squares.content in
    let side = 2 ^ c.args.level in
    let nw = c.in_ok-nw.ensures in
    let ne = c.in_ok-ne.ensures in
    let sw = c.in_ok-sw.ensures in
    let se = c.in_ok-se.ensures in
    let second = nw.same in
    let third = ne.same ∙ second in
    let fourth = sw.same ∙ third in
    if-some _ c.join.result c.ok.ensures.value
    (IfOk-weaker c.join.result _ _
    (λ r is cells x y h. joined-pieces _ (IsNextAt (g.L.Law.answers law) (g.L.Law.bound law) cells) c.args.level x y refl ne.keeps sw.keeps se.keeps
    nw.at ne.at sw.at
    (nw.next cells _ _ (western-nine content cells c.western.ensures (first-of_four c.north.ensures h)))
    (piece-by g.L.Law.answers g.L.Law.bound second cells (step_ahead x side) y (next c.next_of-2.new.to c.in_ok-ne.ne)
    (ne.next cells _ _ (eastern-nine content cells c.eastern.ensures (first-of_four c.north-2.ensures h))))
    (piece-by g.L.Law.answers g.L.Law.bound third cells x (step_ahead y side) (next c.next_of-3.new.to c.in_ok-sw.sw)
    (sw.next cells _ _ (western-nine content cells c.western-2.ensures (last-of_four c.rear.ensures h))))
    (piece-by g.L.Law.answers g.L.Law.bound fourth cells (step_ahead x side) (step_ahead y side) (next c.next_of-4.new.to c.in_ok-se.se)
    (se.next cells _ _ (eastern-nine content cells c.eastern-2.ensures (last-of_four c.rear-2.ensures h))))
    is)
    c.join.ensures.square)
