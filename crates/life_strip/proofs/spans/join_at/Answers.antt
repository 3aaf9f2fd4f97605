use Rattle.std.proofs.Common.{rules, sym, ◌∙◌, subst}
use Rattle.std.proofs.lemmas.Result.{err_from_is_err_and}
use Rattle.life_quad.proofs.KeepingLemmas.{adds-as}
use Rattle.life_strip.specs.Strip.{quad_at}
use Rattle.life_strip.proofs.spans.join_at.Goals as goal

pub join-requires : goal.join-requires
join-requires g c =
    let can = c.quarters_at-four.ensures.can_join in
    record {
      nw = can.nw;
      ne = can.ne;
      sw = can.sw;
      se = can.se;
      ne_level = can.ne_level;
      sw_level = can.sw_level;
      se_level = can.se_level;
      space = can.space;
    }

pub returns-clause-square : goal.returns-clause-square
returns-clause-square g c = c.in_ok-square.ensures.square ∙ c.quarters_at-four.ensures.square

pub returns-in_err-square-clause-grows : goal.returns-in_err-square-clause-grows
returns-in_err-square-clause-grows g c =
    let s = c.args.squares.now in
    let C = g.S.Squares.content s in
    let same = c.quarters_at-four.ensures.square in
    let p = err_from_is_err_and c.from_residual.result c.from_residual.ensures.1 in
    let join = c.in_err-square.ensures in
    record {
      keeps = join.keeps;
      refusals = search rules;
      needed = rw p.1
          (subst (λ q. g.S.Squares.needs_node q (quad_at C c.args.level c.args.upper.now c.args.lower.now c.args.column)) (sym join.unchanged)
          (subst (g.S.Squares.needs_node s) same join.needed));
      adds = adds-as (λ P. P (quad_at C c.args.level c.args.upper.now c.args.lower.now c.args.column)) join.adds (λ P h. subst P same h);
    }

pub returns-clause-grows : goal.returns-clause-grows
returns-clause-grows g c =
    let C = g.S.Squares.content c.args.squares.now in
    let same = c.quarters_at-four.ensures.square in
    let join = c.in_ok-square.ensures in
    record {
      keeps = join.keeps;
      refusals = tt;
      needed = tt;
      adds = adds-as (λ P. P (quad_at C c.args.level c.args.upper.now c.args.lower.now c.args.column)) join.adds (λ P h. subst P same h);
    }
