use Rattle.std.proofs.Common.{subst}
use Rattle.life_table.specs.Around.{states_of_neighbours, AnswersNext}
use Rattle.life_table.specs.declared.table.Table.{Table}
use Rattle.life_table.proofs.index.Index.next.Goals as goal

pub returns-then-is_empty : goal.returns-then-is_empty
returns-then-is_empty c = subst (λ (t : Table). AnswersNext t (states_of_neighbours c.args.around.now) c.next.result) c.self.view_is c.next.ensures

pub returns : goal.returns
returns c = subst (λ (t : Table). AnswersNext t (states_of_neighbours c.args.around.now) c.next_by_blocks.result) c.self.view_is c.next_by_blocks.ensures
