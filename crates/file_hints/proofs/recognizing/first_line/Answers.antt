use Rattle.std.proofs.Common.{sym}
use Rattle.file_hints.proofs.FirstLines.{first_at, first_without}
use Rattle.file_hints.proofs.recognizing.first_line.Goals as goal

pub returns-in-Some : goal.returns-in-Some
returns-in-Some c = first_at c.args.head.now c.in-Some.end (sym c.in-Some.ensures)

pub returns-in-None : goal.returns-in-None
returns-in-None c = first_without c.args.head.now (sym c.in-None.ensures)
