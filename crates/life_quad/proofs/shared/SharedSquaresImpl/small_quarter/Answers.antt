use Rattle.std.proofs.Common.{◌+◌, ◌<◌, refl, ap, sym, ◌∙◌, arith, subst}
use Rattle.life_base.specs.Tree.{Tree}
use Rattle.life_quad.specs.Store.{two, small_square, squares, IsSmall, AnswersJoin}
use Rattle.life_quad.proofs.CallLemmas.{join_answers}
use Rattle.life_quad.proofs.KeepingLemmas.{keeps-same, adds-none}
use Rattle.life_quad.proofs.MakingLemmas.{joined-only}
use Rattle.life_quad.proofs.SmallCells.{two_is, two_small}
use Rattle.life_quad.proofs.shared.SharedSquaresImpl.small_quarter.Goals as goal

pub mark-requires : goal.mark-requires
mark-requires c =
    let s = c.args.self.now in
    let is = c.from.ensures in
    let some : 0 < c.args.cells = omega (arith, c.if-cells-eq0.false) in
    record {
      small = subst (λ d. IsSmall s.log (squares s.nodes) (512 + d)) (sym is) (two_small s c.args.cells c.empty-blank.ensures.known.0.sound some c.requires).0;
      first = omega arith;
      last = omega (arith, is, c.requires);
    }

pub returns : goal.returns
returns c =
    let s = c.args.self.now in
    let d = c.args.cells in
    let r = c.mark.result in
    let some : 0 < d = omega (arith, c.if-cells-eq0.false) in
    let answers = subst (λ t. AnswersJoin s c.mark.new.self t r) (ap (λ n. small_square (512 + n)) c.from.ensures ∙ two_is d c.requires) c.mark.ensures in
    let join = join_answers s c.mark.new.self (two d) (omega arith) (two_small s d c.empty-blank.ensures.known.0.sound some c.requires).1 r answers in
    let Needs : (Tree → Type 0) → Type 0 = λ P. P (two d) in
    joined-only Needs r (keeps-same s) (adds-none Needs s) join refl (λ P p. p)
