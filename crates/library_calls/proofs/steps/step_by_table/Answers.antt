use Rattle.std.proofs.Common.{refl}
use Rattle.library_calls.specs.Stepping.{by_table, by_no_table}
use Rattle.library_calls.proofs.Answering.{no-text}
use Rattle.library_calls.proofs.steps.step_by_table.Goals as goal

pub returns-in-Ok-clause-steps : goal.returns-in-Ok-clause-steps
returns-in-Ok-clause-steps c = by_table c.in-Ok.table c.in-Ok.ensures.ok refl c.step_by.ensures.answers

pub returns-in-Err-clause-steps : goal.returns-in-Err-clause-steps
returns-in-Err-clause-steps c =
    by_no_table c.in-Err.fault c.in-Err.ensures.err refl
    (record { status = c.refuse.ensures.status; line = c.refuse.ensures.line; needed = c.refuse.ensures.needed; kept = refl })

pub returns-in-Err-clause-fits : goal.returns-in-Err-clause-fits
returns-in-Err-clause-fits c = no-text c.refuse.result c.in-Err.fault c.refuse.ensures.status
