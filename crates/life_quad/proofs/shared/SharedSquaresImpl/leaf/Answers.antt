-- A square of level 3 of four that are made one after the other: what the five calls make.
use Rattle.std.proofs.Common.{◌<◌, ◌^◌, inl, ap, sym, ◌∙◌, arith, subst}
use Rattle.life_base.specs.Tree.{depth}
use Rattle.life_quad.specs.Refused.{SomePart}
use Rattle.life_quad.specs.Store.{four, squares, node_square, small_number_of, IsNode, AnswersJoin}
use Rattle.life_quad.proofs.FourLemmas.{four-made, refused-ne, refused-nw, refused-se, refused-sw}
use Rattle.life_quad.proofs.LeafCells.{leaf_square, leaf_node, leaf_large, leaf_level, leaf_answers}
use Rattle.life_quad.proofs.MakingLemmas.{joined-only}
use Rattle.life_quad.proofs.shared.SharedSquaresImpl.leaf.Goals as goal

pub returns-in_err-nw : goal.returns-in_err-nw
returns-in_err-nw c = refused-nw four (λ t P. SomePart P t) (λ n P p. p) c.from_residual.result c.from_residual.ensures.1 c.in_err-nw.ensures

pub returns-in_err-ne : goal.returns-in_err-ne
returns-in_err-ne c =
    let reported = c.from_residual-in_err-ne in
    refused-ne four (λ t P. SomePart P t) (λ n P p. p) c.in_ok-nw.ensures reported.result reported.ensures.1 c.in_err-ne.ensures

pub returns-in_err-sw : goal.returns-in_err-sw
returns-in_err-sw c =
    let reported = c.from_residual-in_err-sw in
    refused-sw four (λ t P. SomePart P t) (λ n P p. p) c.in_ok-nw.ensures c.in_ok-ne.ensures reported.result reported.ensures.1 c.in_err-sw.ensures

pub returns-in_err-se : goal.returns-in_err-se
returns-in_err-se c =
    let reported = c.from_residual-in_err-se in
    refused-se four (λ t P. SomePart P t) (λ n P p. p) c.in_ok-nw.ensures c.in_ok-ne.ensures c.in_ok-sw.ensures reported.result reported.ensures.1
    c.in_err-se.ensures

pub intern-requires : goal.intern-requires
intern-requires c =
    let s = c.small-4.new.self in
    let q = four-made four (λ t P. SomePart P t) (λ n P p. p) c.in_ok-nw.ensures c.in_ok-ne.ensures c.in_ok-sw.ensures c.in_ok-se.ensures in
    let some : 0 < c.args.cells = omega (arith, c.if-cells-eq0.false) in
    let fits : c.args.cells < 2 ^ 64 = omega (arith, c.ranges.cells) in
    record {
      sound = subst (IsNode _ _ _) (sym c.of.ensures)
          (leaf_node s c.args.cells fits some _ _ _ _ q.nw.0.0 q.ne.0.0 q.sw.0.0 q.se.0.0 q.nw.1 q.ne.1 q.sw.1 q.se.1);
      large = ap small_number_of c.of.ensures
          ∙ leaf_large s c.args.cells fits some _ _ _ _ q.nw.0.0 q.ne.0.0 q.sw.0.0 q.se.0.0 q.nw.1 q.ne.1 q.sw.1 q.se.1;
      level = let e = leaf_level s c.args.cells fits some _ _ _ _ q.nw.0.0 q.ne.0.0 q.sw.0.0 q.se.0.0 q.nw.1 q.ne.1 q.sw.1 q.se.1 in
          sym (ap (λ n. depth (node_square (squares s.nodes) n)) c.of.ensures ∙ e);
    }

pub returns : goal.returns
returns c =
    let s = c.small-4.new.self in
    let r = c.intern.result in
    let q = four-made four (λ t P. SomePart P t) (λ n P p. p) c.in_ok-nw.ensures c.in_ok-ne.ensures c.in_ok-sw.ensures c.in_ok-se.ensures in
    let some : 0 < c.args.cells = omega (arith, c.if-cells-eq0.false) in
    let fits : c.args.cells < 2 ^ 64 = omega (arith, c.ranges.cells) in
    let square = leaf_square s c.args.cells fits some _ _ _ _ q.nw.0.0 q.ne.0.0 q.sw.0.0 q.se.0.0 q.nw.1 q.ne.1 q.sw.1 q.se.1 in
    let join = leaf_answers s c.args.cells fits some _ _ _ _ q.nw.0.0 q.ne.0.0 q.sw.0.0 q.se.0.0 q.nw.1 q.ne.1 q.sw.1 q.se.1 c.intern.new.self r
    (subst (λ n. AnswersJoin s c.intern.new.self (node_square (squares s.nodes) n) r) c.of.ensures c.intern.ensures) in
    joined-only _ r q.keeps q.adds join square (λ P p. inl (subst P square p))
