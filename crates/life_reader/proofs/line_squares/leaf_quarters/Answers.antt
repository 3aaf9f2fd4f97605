-- A square of four that are made one after the other: what the four calls store, and where a refused one is missing.
use Rattle.std.proofs.Common.{◌≡◌, Result, Err, IsErrAnd, ◌∙◌, ap, refl, sym, subst, arith}
use Rattle.life_base.specs.Tree.{Tree, quad, depth}
use Rattle.life_base.specs.declared.kind.Kind.{Kind}
use Rattle.life_mc.specs.Squares.{leaf_tree}
use Rattle.life_quad.specs.Grows.{GrowsOnly, MakesSquare}
use Rattle.life_quad.specs.Refused.{SomePart}
use Rattle.life_quad.specs.Store.{four}
use Rattle.life_quad.specs.declared.moves.Quarters.{Quarters}
use Rattle.life_quad.specs.declared.squares.Squares.{Ghosts}
use Rattle.life_quad.proofs.FourLemmas.{four-made, four-square, refused-ne, refused-nw, refused-se, refused-sw}
use Rattle.life_quad.proofs.KeepingLemmas.{keeps-same, adds-none, adds-as}
use Rattle.life_reader.proofs.OnlyFacts.{only-refused}
use Rattle.life_reader.proofs.line_squares.leaf_quarters.Goals as goal
use Rattle.life_reader.proofs.line_squares.leaf_quarters.Goals.{After-leaf_cells-nw}
use Rattle.life_reader.proofs.line_squares.leaf_quarters.Given.{Over}

-- the four squares are the quarters of the leaf
leaf : (g : Over) (c : After-leaf_cells-nw g) → let cells = c.leaf_cells-nw.result in
    quad (four cells.0) (four cells.1) (four cells.2) (four cells.3) ≡ leaf_tree c.args.rows.now
leaf g c i = let e = c.leaf_cells-nw.ensures in quad (e.nw i) (e.ne i) (e.sw i) (e.se i)

-- a refusal that is handed on, after calls that need parts of the same square
handed : {X : Type 0} {S : Ghosts X} {old new : X} {t u : Tree} {e : Kind} (r : Result Quarters Kind) → IsErrAnd r (λ f. f ≡ e) → t ≡ u
    → MakesSquare S old new t (λ P. SomePart P t) (Err e) → GrowsOnly S old new r (λ P. SomePart P u)
handed {old = old} r reported same call =
    only-refused _ r reported (keeps-same old) (adds-none _ old) call.keeps call.refusals call.needed call.adds (λ P. subst (SomePart P) same)

pub returns-in_err-nw-clause-grows : goal.returns-in_err-nw-clause-grows
returns-in_err-nw-clause-grows g c =
    handed c.from_residual.result c.from_residual.ensures.1 (leaf g (goal.at.returns-in_err-nw-clause-grows g c).After-leaf_cells-nw)
    (refused-nw four (λ t P. SomePart P t) (λ n P p. p) (Err c.in_err-nw.field-0.0) refl c.in_err-nw.ensures)

pub returns-in_err-ne-clause-grows : goal.returns-in_err-ne-clause-grows
returns-in_err-ne-clause-grows g c =
    let reported = c.from_residual-in_err-ne in
    handed reported.result reported.ensures.1 (leaf g (goal.at.returns-in_err-ne-clause-grows g c).After-leaf_cells-nw)
    (refused-ne four (λ t P. SomePart P t) (λ n P p. p) c.in_ok-nw.ensures (Err c.in_err-ne.field-0.0) refl c.in_err-ne.ensures)

pub returns-in_err-sw-clause-grows : goal.returns-in_err-sw-clause-grows
returns-in_err-sw-clause-grows g c =
    let reported = c.from_residual-in_err-sw in
    handed reported.result reported.ensures.1 (leaf g (goal.at.returns-in_err-sw-clause-grows g c).After-leaf_cells-nw)
    (refused-sw four (λ t P. SomePart P t) (λ n P p. p) c.in_ok-nw.ensures c.in_ok-ne.ensures (Err c.in_err-sw.field-0.0) refl c.in_err-sw.ensures)

pub returns-in_err-se-clause-grows : goal.returns-in_err-se-clause-grows
returns-in_err-se-clause-grows g c =
    let reported = c.from_residual-in_err-se in
    handed reported.result reported.ensures.1 (leaf g (goal.at.returns-in_err-se-clause-grows g c).After-leaf_cells-nw)
    (refused-se four (λ t P. SomePart P t) (λ n P p. p) c.in_ok-nw.ensures c.in_ok-ne.ensures c.in_ok-sw.ensures (Err c.in_err-se.field-0.0) refl
    c.in_err-se.ensures)

pub returns-clause-grows : goal.returns-clause-grows
returns-clause-grows g c =
    let q = four-made four (λ t P. SomePart P t) (λ n P p. p) c.in_ok-nw.ensures c.in_ok-ne.ensures c.in_ok-sw.ensures c.in_ok-se.ensures in
    let same = leaf g (goal.at.returns-clause-grows g c).After-leaf_cells-nw in
    record { keeps = q.keeps; refusals = tt; needed = tt; adds = adds-as _ q.adds (λ P. subst (SomePart P) same) }

pub returns-clause-square : goal.returns-clause-square
returns-clause-square g c =
    four-square (four-made four (λ t P. SomePart P t) (λ n P p. p) c.in_ok-nw.ensures c.in_ok-ne.ensures c.in_ok-sw.ensures c.in_ok-se.ensures)
    ∙ leaf g (goal.at.returns-clause-square g c).After-leaf_cells-nw

pub returns-clause-can_join : goal.returns-clause-can_join
returns-clause-can_join g c =
    let q = four-made four (λ t P. SomePart P t) (λ n P p. p) c.in_ok-nw.ensures c.in_ok-ne.ensures c.in_ok-sw.ensures c.in_ok-se.ensures in
    let nw = ap depth q.nw.1 in
    record {
      nw = q.nw.0;
      ne = q.ne.0;
      sw = q.sw.0;
      se = q.se.0;
      ne_level = ap depth q.ne.1 ∙ sym nw;
      sw_level = ap depth q.sw.1 ∙ sym nw;
      se_level = ap depth q.se.1 ∙ sym nw;
      space = omega (arith, nw);
    }
