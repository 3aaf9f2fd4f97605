use Rattle.std.proofs.Common.{sym, ◌∙◌, ap, subst, arith}
use Rattle.life_base.proofs.Results.{on_err_both, if_ok_two}
use Rattle.life_base.specs.Rules.{has_digit}
use Rattle.life_base.specs.Sets.{OuterTotalistic}
use Rattle.life_base.specs.Tree.{tree_cell}
use Rattle.life_quad.specs.Refused.{SomePart}
use Rattle.life_quad.proofs.KeepingLemmas.{adds-as}
use Rattle.life_next.specs.Generation.{next_life}
use Rattle.life_pieces.specs.Pieces.{square_from}
use Rattle.life_block.proofs.RememberedLemmas.{Remembers-none}
use Rattle.life_block.proofs.RootLemmas.{IsDivided, around-in_middle, plane-next, quarters-at}
use Rattle.life_pieces.proofs.RootLemmas.{corner}
use Rattle.life_block.proofs.blocks.next_life_plane.Given.{Over}
use Rattle.life_block.proofs.blocks.next_life_plane.Goals.{After-empty-blank}
use Rattle.life_block.proofs.blocks.next_life_plane.Goals as goal

-- the square's quarters, and a blank one of their level
divided : (g : Over) (c : After-empty-blank g)
    → IsDivided (g.S.Squares.knows c.args.squares.now) (g.S.Squares.content c.args.squares.now) (g.S.Squares.content c.args.squares.now c.args.id) 61
    c.divide-root.result
    c.empty-blank.result
divided g c =
    let s = c.args.squares.now in
    let t = g.S.Squares.content s c.args.id in
    let d = c.divide-root.ensures in
    let e = c.empty-blank.ensures in
    record {
      level = c.requires.whole;
      quarters = quarters-at (g.S.Squares.knows s) (g.S.Squares.content s) t c.divide-root.result c.empty-blank.result 61
          (g.met.S.Squares.full _ _ c.requires.known) c.requires.whole
          d.square d.quarters.nw d.quarters.ne d.quarters.sw d.quarters.se e.known e.square e.level;
    }

pub next_of_middle-requires-clause-remembers : goal.next_of_middle-requires-clause-remembers
next_of_middle-requires-clause-remembers g c = Remembers-none c.new-memory.ensures

pub returns-clause-quiet : goal.returns-clause-quiet
returns-clause-quiet g c = ap (λ (d : OuterTotalistic). has_digit d.sets.births 0) (sym c.rule.view_is) ∙ c.rule.invariant.no_birth_on_zero

pub returns-clause-next : goal.returns-clause-next
returns-clause-next g c =
    let t = g.S.Squares.content c.args.squares.now c.args.id in
    let n = c.next_of_middle.ensures in
    let quiet = ap (λ (d : OuterTotalistic). has_digit d.sets.births 0) (sym c.rule.view_is) ∙ c.rule.invariant.no_birth_on_zero in
    let around = around-in_middle (divided g (goal.at.returns-clause-next g c).After-empty-blank) c.in_middle-around.ensures in
    let whole = c.requires.whole in
    if_ok_two c.next_of_middle.result
    (λ r at piece.
    plane-next c.args.rule.now t (g.S.Squares.content c.next_of_middle.new.squares r) quiet (omega (arith, whole)) (g.met.S.Squares.full _ _ at.known)
    (at.level ∙ sym whole) c.requires.clear
    (piece (tree_cell t) (corner t) (corner t) c.requires.states around))
    n.at n.next

pub returns-clause-needed : goal.returns-clause-needed
returns-clause-needed g c =
    let t = g.S.Squares.content c.args.squares.now c.args.id in
    let n = c.next_of_middle.ensures in
    let around = around-in_middle (divided g (goal.at.returns-clause-needed g c).After-empty-blank) c.in_middle-around.ensures in
    let P = g.S.Squares.needs_node c.next_of_middle.new.squares in
    let f = next_life c.args.rule.now (tree_cell t) in
    on_err_both c.next_of_middle.result
    (λ needs same. subst (λ k. SomePart P (square_from f k (corner t) (corner t))) (sym c.requires.whole)
    (needs (tree_cell t) (corner t) (corner t) c.requires.states around))
    n.needed n.needed

pub returns-clause-adds : goal.returns-clause-adds
returns-clause-adds g c =
    let t = g.S.Squares.content c.args.squares.now c.args.id in
    let around = around-in_middle (divided g (goal.at.returns-clause-adds g c).After-empty-blank) c.in_middle-around.ensures in
    let f = next_life c.args.rule.now (tree_cell t) in
    adds-as _ c.next_of_middle.ensures.adds
    (λ P some. subst (λ k. SomePart P (square_from f k (corner t) (corner t))) (sym c.requires.whole)
    (some (tree_cell t) (corner t) (corner t) c.requires.states around))
