use Rattle.life_base.specs.Text.{lines_of}
use Rattle.theorems.proofs.FileLaw.{map_ok}
use Rattle.theorems.proofs.RefusalLaw.{map_err}
use Rattle.theorems.proofs.StepBy.{stepped_text, unstepped_text}
use Rattle.theorems.proofs.by_table.next_generation_by_table.Goals as goal

pub returns-clause-stepped : goal.returns-clause-stepped
returns-clause-stepped c =
    map_ok c.step_table.result
    (λ text h. stepped_text c.files_are_on_plane.ensures c.tables_read.ensures c.tables_decide.ensures c.args.rules.now c.args.file.now text.items
    c.in_ok-table.table
    ((c.grammars_agree.ensures (lines_of c.args.rules.now) c.in_ok-table.table).0 c.in_ok-table.ensures.ok) h) c.step_table.ensures.stepped

pub returns-clause-refused : goal.returns-clause-refused
returns-clause-refused c =
    map_err c.step_table.result
    (λ fault h. unstepped_text c.tables_read.ensures c.tables_decide.ensures c.args.rules.now c.args.file.now c.step_table.new.store fault c.in_ok-table.table
    ((c.grammars_agree.ensures (lines_of c.args.rules.now) c.in_ok-table.table).0 c.in_ok-table.ensures.ok) h) c.step_table.ensures.refused
