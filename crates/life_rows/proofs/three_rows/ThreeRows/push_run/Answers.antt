use Rattle.std.proofs.Common.{◌-◌, List, sym, subst}
use Rattle.life_base.specs.declared.cell.Run.{Run}
use Rattle.life_strip.proofs.PlaneLemmas.{column_of_run}
use Rattle.life_rows.specs.Stepping.{KeepsThreeRows}
use Rattle.life_rows.proofs.ThreeRowsLemmas.{rows-push}
use Rattle.life_rows.proofs.three_rows.ThreeRows.push_run.Goals as goal

pub push_cells-requires-clause-before : goal.push_cells-requires-clause-before
push_cells-requires-clause-before g c =
    let from = column_of_run c.args.run c.offset-column.result c.requires.inside c.requires.positive c.offset-column.ensures in
    c.requires.rows.next c.args.run.x c.args.run.y c.offset-column.result c.requires.next (sym from) c.requires.here

pub returns-clause-rows : goal.returns-clause-rows
returns-clause-rows g c is =
    let K = g.S.Squares.knows c.args._squares.now in
    let C = g.S.Squares.content c.args._squares.now in
    let s = c.args.self.now in
    let new = c.push_cells.new.words.items in
    let from = column_of_run c.args.run c.offset-column.result c.requires.inside c.requires.positive c.offset-column.ensures in
    subst (λ (runs : List Run). KeepsThreeRows K C s.rule s.builder s.north.items s.here.items new s.north_row (s.left - c.args.run.len) runs)
    (sym c.then-self.ensures)
    (rows-push K C s.rule s.builder s.north.items s.here.items s.south.items new s.north_row s.left c.offset-column.result s.log.runs c.args.run
    c.requires.rows c.requires.one c.requires.few c.requires.inside c.requires.next c.requires.here (sym from) c.in-Ok.ensures.puts)
