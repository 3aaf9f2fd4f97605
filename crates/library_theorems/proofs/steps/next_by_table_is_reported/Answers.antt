use Rattle.library_theorems.proofs.Reworded.{by_table_so}
use Rattle.library_theorems.proofs.steps.next_by_table_is_reported.Goals as goal

pub returns : goal.returns
returns c =
    by_table_so c.files_are_on_plane.ensures c.tables_read.ensures c.tables_refuse.ensures c.tables_decide.ensures
    (λ lines layer. (c.grammars_agree.ensures lines layer).0)
    c.args.options.limit c.args.file.now c.args.rules.now _ _ _ _ c.step_by_table.ensures.steps
