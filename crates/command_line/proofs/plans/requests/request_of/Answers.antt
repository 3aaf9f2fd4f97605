use Rattle.std.proofs.Common.{inr}
use Rattle.clap.specs.Words.{found_of, rows_of}
use Rattle.command_line.proofs.TaskLemmas.{files_explain, task_left}
use Rattle.command_line.proofs.plans.requests.request_of.Goals as goal

pub keys-requires : goal.keys-requires
keys-requires c = c.requires.once

pub returns-in-keys-clause-ok : goal.returns-in-keys-clause-ok
returns-in-keys-clause-ok c = rw c.in-keys.is c.keys.ensures.ok

pub returns-in-keys-clause-refused : goal.returns-in-keys-clause-refused
returns-in-keys-clause-refused c = rw c.in-keys.is c.keys.ensures.refused

pub returns-in-Ok-clause-ok : goal.returns-in-Ok-clause-ok
returns-in-Ok-clause-ok c = (c.in-duplicates.is, c.in-Ok.ensures.ok)

pub returns-in-Err-clause-refused : goal.returns-in-Err-clause-refused
returns-in-Err-clause-refused c =
    files_explain (c.args.command.now, rows_of (found_of c.args.found.now)) c.in-Err.usage (inr c.in-duplicates.is) (λ lacks. (lacks, inr c.in-duplicates.is))
    c.requires.once c.in-Err.ensures.err

pub from_command-requires-clause-task : goal.from_command-requires-clause-task
from_command-requires-clause-task c =
    task_left (c.args.command.now, rows_of (found_of c.args.found.now)) c.in_default.not-keys c.in_default.not-duplicates c.requires.whole

pub from_command-requires-clause-once : goal.from_command-requires-clause-once
from_command-requires-clause-once c = c.requires.once

pub returns-in-Ok-from_command-clause-ok : goal.returns-in-Ok-from_command-clause-ok
returns-in-Ok-from_command-clause-ok c = c.in-Ok-from_command.ensures.ok

pub returns-in-Err-from_command-clause-refused : goal.returns-in-Err-from_command-clause-refused
returns-in-Err-from_command-clause-refused c = c.in-Err-from_command.ensures.refused
