use Rattle.std.proofs.Common.{sym, ◌∙◌, arith}
use Rattle.life_base.specs.Tree.{tree_cell}
use Rattle.life_block.proofs.LawPieceLemmas.{both-some, plane-next, RemembersBy-none}
use Rattle.life_block.proofs.RootLemmas.{IsDivided, around-in_middle, quarters-at}
use Rattle.life_pieces.proofs.RootLemmas.{corner}
use Rattle.life_block.proofs.law_squares.next_whole.Given.{Over}
use Rattle.life_block.proofs.law_squares.next_whole.Goals.{After-empty-blank}
use Rattle.life_block.proofs.law_squares.next_whole.Goals as goal

-- the square's quarters, and a blank one of their level
divided : (g : Over) (c : After-empty-blank g)
    → IsDivided (g.S.Squares.knows c.args.from.now) (g.S.Squares.content c.args.from.now) (g.S.Squares.content c.args.from.now c.args.id) 61
    c.divide-root.result
    c.empty-blank.result
divided g c =
    let s = c.args.from.now in
    let t = g.S.Squares.content s c.args.id in
    let d = c.divide-root.ensures in
    let e = c.empty-blank.ensures in
    record {
      level = c.requires.whole;
      quarters = quarters-at (g.S.Squares.knows s) (g.S.Squares.content s) t c.divide-root.result c.empty-blank.result 61
          (g.met.S.Squares.full _ _ c.requires.known) c.requires.whole
          d.square d.quarters.nw d.quarters.ne d.quarters.sw d.quarters.se e.known e.square e.level;
    }

pub next_of_middle-requires-clause-remembers : goal.next_of_middle-requires-clause-remembers
next_of_middle-requires-clause-remembers g c = RemembersBy-none c.new-memory.ensures

pub returns-clause-next : goal.returns-clause-next
returns-clause-next g c =
    let law = c.args.law.now in
    let t = g.S.Squares.content c.args.from.now c.args.id in
    let n = c.next_of_middle.ensures in
    let around = around-in_middle (divided g (goal.at.returns-clause-next g c).After-empty-blank) c.in_middle-around.ensures in
    let whole = c.requires.whole in
    both-some c.next_of_middle.result
    (λ r at piece.
    plane-next (g.L.Law.answers law) (g.L.Law.bound law) (g.met.L.Law.positive law) (g.met.L.Law.quiet law) t
    (g.T.Squares.content c.next_of_middle.new.to r) (omega (arith, whole)) (g.met.T.Squares.full _ _ at.known)
    (at.level ∙ sym whole) c.requires.clear (piece (tree_cell t) (corner t) (corner t) around))
    n.at n.next
