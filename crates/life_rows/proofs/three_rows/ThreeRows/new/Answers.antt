use Rattle.std.proofs.Common.{subst}
use Rattle.life_base.specs.Rules.{IsLifeRule}
use Rattle.life_rows.proofs.ThreeRowsLemmas.{rows-new}
use Rattle.life_rows.proofs.three_rows.ThreeRows.new.Goals as goal

pub returns-clause-rows : goal.returns-clause-rows
returns-clause-rows g c =
    rows-new (g.S.Squares.knows c.args._squares.now) (g.S.Squares.content c.args._squares.now) c.args.rule c.new.result c.new-2.result.items
    c.new-3.result.items c.new-4.result.items c.new-6.result.runs (subst IsLifeRule c.rule.view_is c.rule.invariant) c.new.ensures c.new-2.ensures.items
    c.new-3.ensures.items c.new-4.ensures.items c.new-6.ensures
