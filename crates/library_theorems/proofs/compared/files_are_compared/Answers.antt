use Rattle.library_theorems.proofs.Reworded.{compared_so, uncompared_so}
use Rattle.library_theorems.proofs.compared.files_are_compared.Goals as goal

pub returns-clause-answer : goal.returns-clause-answer
returns-clause-answer c = compared_so c.files_are_on_plane.ensures c.args.options.limit c.args.first.now c.args.second.now _ c.same.ensures.compares

pub returns-clause-refused : goal.returns-clause-refused
returns-clause-refused c = uncompared_so c.args.options.limit c.args.first.now c.args.second.now _ c.same.ensures.compares
