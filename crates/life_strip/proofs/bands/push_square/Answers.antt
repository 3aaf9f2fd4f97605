use Rattle.std.proofs.Common.{sym, ◌∙◌, ap, arith}
use Rattle.std.proofs.lemmas.Result.{on_ok_weaker}
use Rattle.life_base.proofs.Results.{error_is}
use Rattle.life_base.specs.Tree.{depth}
use Rattle.life_quad.specs.Store.{four}
use Rattle.life_quad.proofs.GrowsLemmas.{grows-still, grows-same}
use Rattle.life_strip.proofs.SpanLemmas.{filled-skip, filled-more}
use Rattle.life_strip.proofs.bands.push_square.Goals as goal

pub returns-then-cells-eq0-clause-filled : goal.returns-then-cells-eq0-clause-filled
returns-then-cells-eq0-clause-filled g c want p same =
    let zero = c.if-cells-eq0.true in
    filled-skip (g.S.Squares.knows c.args.squares.now) (g.S.Squares.content c.args.squares.now) 2 want c.args.spans.now.items
    c.args.columns.start c.args.columns.end p
    (omega (arith, c.requires)) (λ x le lt. same x le lt ∙ ap four zero)

pub returns-clause-filled : goal.returns-clause-filled
returns-clause-filled g c =
    let K = g.S.Squares.knows in
    let C = g.S.Squares.content in
    let id = c.in_ok-id.ensures in
    on_ok_weaker c.extend.result
    (λ columns want p same. filled-more {knows = K c.args.squares.now} {knows' = K c.small.new.self} {now = C c.args.squares.now}
    {now' = C c.small.new.self} id.keeps.contents
    2 want c.args.spans.now.items c.extend.new.spans.items c.args.columns.start c.args.columns.end c.in_ok-id.id p (columns p.before)
    id.known (ap depth id.square)
    (λ x le lt. same x le lt ∙ sym id.square))
    c.extend.ensures.columns

pub returns-then-cells-eq0-clause-grows : goal.returns-then-cells-eq0-clause-grows
returns-then-cells-eq0-clause-grows g c = grows-same _ c.args.squares.now tt

pub returns-in_err-id-clause-grows : goal.returns-in_err-id-clause-grows
returns-in_err-id-clause-grows g c =
    let small = c.in_err-id.ensures in
    record {
      keeps = small.keeps;
      refusals = rw (error_is c.from_residual.result c.from_residual.ensures.1) small.refusals;
      needed = λ e. small.needed;
      adds = small.adds;
    }

pub returns-clause-grows : goal.returns-clause-grows
returns-clause-grows g c = let small = c.in_ok-id.ensures in grows-still _ small.keeps small.adds c.extend.ensures.refusals
