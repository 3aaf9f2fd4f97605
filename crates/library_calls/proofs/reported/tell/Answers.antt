use Rattle.library_calls.proofs.Answering.{no-text, where-err}
use Rattle.library_calls.proofs.reported.tell.Goals as goal

pub returns-in-Err-clause-text : goal.returns-in-Err-clause-text
returns-in-Err-clause-text c = where-err c.args.found (no-text c.refuse.result c.in-Err.fault c.refuse.ensures.status)
